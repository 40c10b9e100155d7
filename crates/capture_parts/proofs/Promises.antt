-- What may be counted on when a file is read part by part (beyond document 02): what `read_part` calls a part is the next of the file's parts.
-- Assumes nothing.
use Prim.Native.Nat.{ℕ, ◌<◌}
use mathlib.Core.Path.{◌≡◌, sym, ◌∙◌}
use mathlib.Core.List.{List, [], ◌∷◌, ◌++◌}
use mathlib.Core.Bool.{true, false}
use lib.ListN.{length, take, drop}
use borrow.Author.Tests.{ltb-true}
use Rattle.capture_window.specs.Parts.{parts_from}
use Rattle.capture_parts.specs.Part.{PartOf}
use Rattle.capture_parts.specs.declared.Part.{Part}
use Rattle.capture_parts.proofs.Told.{full}

-- ---- 1. Where the chunk c fills the buffer, behind what was held, and the file goes on, the part is the first of the file's parts from there on, and what
-- stands behind it is what is held when the next chunk comes.
pub part_is_the_next : (held c d : List ℕ) (cs : List (List ℕ)) (r : Part) → PartOf (held ++ c) r → r.last ≡ false
    → (parts_from held (c ∷ d ∷ cs) ≡ take r.bytes (held ++ c) ∷ parts_from (drop r.bytes (held ++ c)) (d ∷ cs))
    × (r.held ≡ length (held ++ c))
unfolding parts_from
part_is_the_next held c d cs r p e = let k = full (held ++ c) r p e in (rw k.1, k.0)

-- ---- 2. Where the buffer is not filled, the chunk is the last, and the part is all that is held.
pub part_is_the_last : (buf held c : List ℕ) (r : Part) → PartOf buf r → r.last ≡ true → take r.held buf ≡ held ++ c
    → (parts_from held (c ∷ []) ≡ take r.bytes buf ∷ []) × (r.held < length buf)
unfolding parts_from
part_is_the_last buf held c r p e h =
    let all : r.bytes ≡ r.held = p.amount ∙ rw e in
    (rw (all, h), ltb-true r.held (length buf) (sym p.ending ∙ e))
