-- `padding::largest` meets its contract. The invariant: the largest of the bytes passed.
use native.Mathlib.Omega.{arith}
use Rattle.padding.proofs.Looked.{most_none, most_more, most_all}
use Rattle.padding.proofs.largest.Goals as goal

pub loop-i-init : goal.loop-i-init
loop-i-init c =
    most_none c.args.s.now

pub loop-i-preserved : goal.loop-i-preserved
loop-i-preserved c =
    most_more c.args.s.now c.loop-i.most c.loop-i.i c.max-most.result c.loop-i.invariant (omega arith) c.max-most.ensures

pub returns : goal.returns
returns c =
    most_all c.args.s.now c.loop-i.most c.loop-i.i c.loop-i.invariant (omega arith)
