-- `compact::put_part` meets its contract: the part is no longer than the room, so that a larger budget does the same.
use Prim.Native.Nat.{◌≤◌}
use native.Mathlib.Omega.{arith}
use mathlib.Core.Path.{◌≡◌, sym, ap, ◌∙◌}
use lib.Seq.{length-take-le}
use Rattle.compaction.specs.declared.Share.{Share}
use Rattle.compact.specs.Stream.{share_of}
use Rattle.compact.proofs.Sharing.{share_is, share_bounds, share-min}
use Rattle.compact.proofs.put_part.Goals as goal
use Rattle.compact.proofs.put_part.Goals.{After-share_from-share}

made : (c : After-share_from-share) → c.share_from-share.result ≡ share_of c.args.«data».now c.min.result
made c = c.share_from-share.ensures.answer ∙ sym (share_is c.args.«data».now c.min.result)

fits : (c : After-share_from-share) → c.share_from-share.result.written ≤ 262144
fits c =
    omega (arith, ap (λ (x : Share). x.written) (made c), (share_bounds c.args.«data».now c.min.result).0, c.min.ensures)

pub slice_bounds-out-end : goal.slice_bounds-out-end
slice_bounds-out-end c =
    omega (arith, fits (goal.at.slice_bounds-out-end c).After-share_from-share)

pub slice_bounds-write_all-end : goal.slice_bounds-write_all-end
slice_bounds-write_all-end c =
    sym (length-take-le _ _ (omega (arith, fits (goal.at.slice_bounds-write_all-end c).After-share_from-share)))

pub returns-then-write_all : goal.returns-then-write_all
returns-then-write_all c =
    made (goal.at.returns-then-write_all c).After-share_from-share ∙ (ap (share_of c.args.«data».now) c.min.ensures ∙ share-min c.args.«data».now c.args.budget
    262144 c.requires)
