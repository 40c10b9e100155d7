-- Whether the first bytes of a packet ask for padding (RFC 6716, section 3.2.5): code 3, and bit 6 of the count byte.
-- Contracts of functions that are not public cite this.
use Rattle.std.specs.Prelude.{ℕ, ◌/◌, ◌%◌, List, [], ◌∷◌, Bool, false, ◌&&◌, eqb}
use Rattle.opus_toc.specs.Toc.{code}

abbrev pub asks_padding : List ℕ → Bool
asks_padding [] = false
asks_padding (toc ∷ []) = false
asks_padding (toc ∷ c ∷ s) = eqb (code toc) 3 && eqb (c / 64 % 2) 1
