-- `repacketizer::put_lengths` meets its contract. The invariant: the first i lengths stand in the array, from the place on.
use Prim.Native.Nat.{◌+◌}
use mathlib.Core.Path.{◌≡◌, refl, ap, ◌∙◌}
use native.Mathlib.Omega.{arith}
use borrow.Author.Rules.{rules}
use lib.ListN.{length, get_or, set, length-set}
use lib.Seq.{sets, take_all}
use Rattle.repacketizer.proofs.Lengths.{sets_first, sets_again, sets_more}
use Rattle.repacketizer.proofs.put_lengths.Goals as goal
use Rattle.repacketizer.proofs.put_lengths.Goals.{Start}

-- the array as the loop finds it
long : (c : Start) → length (set c.args.len.now c.args.at (get_or c.args.ns.now 0 0)) ≡ length c.args.len.now
long c = length-set c.args.len.now c.args.at (get_or c.args.ns.now 0 0)

pub loop-i-init : goal.loop-i-init
loop-i-init c =
    (c.requires.0, refl, sets_first c.args.len.now c.args.at c.args.ns.now c.requires.0)

pub bounds-len-at-in-loop-i : goal.bounds-len-at-in-loop-i
bounds-len-at-in-loop-i c =
    omega (arith, c.loop-i.invariant.1, long (goal.at.bounds-len-at-in-loop-i c).Start, c.requires.1)

pub loop-i-preserved : goal.loop-i-preserved
loop-i-preserved c = (
  search rules,
  length-set c.loop-i.len (c.args.at + c.loop-i.i) (get_or c.args.ns.now c.loop-i.i 0) ∙ c.loop-i.invariant.1,
  rw c.loop-i.invariant.2 (sets_more c.args.ns.now c.loop-i.i (omega arith) (set c.args.len.now c.args.at (get_or c.args.ns.now 0 0)) c.args.at),
)

pub shape_of-len : goal.shape_of-len
shape_of-len c =
    c.loop-i.invariant.1 ∙ long (goal.at.shape_of-len c).Start

pub returns : goal.returns
returns c =
    c.loop-i.invariant.2
    ∙ (ap (sets (set c.args.len.now c.args.at (get_or c.args.ns.now 0 0)) c.args.at) (take_all c.loop-i.i c.args.ns.now (omega arith))
    ∙ sets_again c.args.len.now c.args.at c.args.ns.now c.requires.0)
