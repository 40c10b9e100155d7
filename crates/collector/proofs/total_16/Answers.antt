-- `collector::total_16` meets its contract. The invariant: the sum of the lengths passed.
use Rattle.std.proofs.Common.{refl, arith}
use Rattle.collector.proofs.Counts.{sum_more, sum-all}
use Rattle.collector.proofs.total_16.Goals as goal

pub returns : goal.returns
returns c =
    sum-all c.args.ns.now c.loop-i.invariant c.loop-i-test.false

pub loop-i-init : goal.loop-i-init
loop-i-init c =
    refl

pub loop-i-preserved : goal.loop-i-preserved
loop-i-preserved c =
    sum_more c.args.ns.now c.loop-i.invariant (omega arith) refl
