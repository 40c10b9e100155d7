-- What may be counted on when a part of the original is looked for in the new file (beyond document 02).
-- Assumes nothing.
use Prim.Native.Nat.{ℕ, ◌-◌, ◌≤◌}
use native.Mathlib.Omega.{arith}
use mathlib.Core.Path.{◌≡◌, sym, ◌∙◌}
use mathlib.Core.List.{List, ◌∷◌, ◌++◌}
use mathlib.Core.Bool.{true}
use lib.ListN.{length, take, drop}
use lib.Seq.{take_all}
use Rattle.blocks.specs.Blocks.{part, moved}
use Rattle.blocks.proofs.Sets.{take-sets, length_part, drop-take}
use Rattle.capture.specs.Reading.{records_of}
use Rattle.sameness.specs.Sameness.{Begins, Followed, next}
use Rattle.same.specs.Looking.{Looked}
use Rattle.same.specs.declared.Match.{Match}

-- what is moved down is what stood behind the part
moved_down : (b : List ℕ) (h k : ℕ) → h ≤ length b → k ≤ h → take (h - k) (moved b k 0 (h - k)) ≡ drop k (take h b)
moved_down b h k inside less =
    let q = part b k (h - k) in
    let long : length q ≡ h - k = length_part b k (h - k) (omega arith) in
    rw (long) at (take-sets b q (omega (arith, long))) ∙ sym (drop-take k h b)

-- ---- 1. Where all of a part is said to be the same, and what is left in the buffer, with what follows, goes on with the parts that follow, then what was
-- held, with what follows, goes on with this part and those: so `same` says so of a whole file only where `seen_is_faithful`
-- (sameness/proofs/Promises.antt) does.
pub part_is_followed : (p after more : List ℕ) (ps : List (List ℕ)) (r : Match) (l : Looked (records_of p) after r) → r.same ≡ true
    → Followed ps (take r.held after ++ more) → Followed (p ∷ ps) (take l.held l.buffer ++ more)
part_is_followed p after more ps r l e f =
    let es = records_of p in
    let found : Begins es (take l.held l.buffer) l.bytes = rw (take_all r.records es (omega (arith, l.all e))) at l.found in
    let left : take r.held after ≡ drop l.bytes (take l.held l.buffer) =
    rw (l.left.0, l.left.1) (moved_down l.buffer l.held l.bytes l.within.0 l.within.1) in
    next (take l.held l.buffer) more l.bytes found (rw left at f)
