-- Padding bytes of a packet, and whether they are clean (RFC 6716, section 3.2.5: padding is zeros; document 02, M-105).
use Rattle.std.specs.Prelude.{ℕ, ◌+◌, List, [], ◌∷◌, Bool, false, true, cond, eqb, take, drop}
use Rattle.opus_format.specs.Frames.{total}
use Rattle.opus_format.specs.Reading.{Reading, refused, accepted, read}

-- the padding bytes of the packet that was read at the front of p: what it takes behind its frames. The padding lengths stand in front of them.
abbrev pub padding_of : List ℕ → Reading → List ℕ
padding_of p (refused rule place) = []
padding_of p (accepted toc ns first taken) = drop (first + total ns) (take taken p)

-- a byte is not zero
abbrev pub dirty : List ℕ → Bool
dirty [] = false
dirty (a ∷ s) = cond (eqb a 0) (dirty s) true

-- the packet at the front of p has a padding byte that is not zero
unfoldable pub dirty_packet : Bool → List ℕ → Bool
dirty_packet sd p = dirty (padding_of p (read sd p))
