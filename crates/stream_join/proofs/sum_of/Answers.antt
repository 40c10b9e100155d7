-- `stream_join::sum_of` meets its contract. The invariant: the sum so far with the lengths from here on is the sum of all.
use native.Mathlib.Omega.{arith}
use Rattle.stream_join.proofs.Surveyed.{summing_start, summing_more, summing_end}
use Rattle.stream_join.proofs.sum_of.Goals as goal

pub overflow_add-sum : goal.overflow_add-sum
overflow_add-sum c =
    omega (arith, c.loop-n.invariant.few, c.wide-sum.ensures.1, c.requires, c.loop-n-test.true)

pub loop-n-preserved : goal.loop-n-preserved
loop-n-preserved c =
    summing_more c.args.lengths.now c.loop-n.sum c.loop-n.n-index c.loop-n.invariant c.loop-n-test.true c.wide-sum.result c.wide-sum.ensures

pub returns : goal.returns
returns c =
    summing_end c.args.lengths.now c.loop-n.sum c.loop-n.n-index c.loop-n.invariant c.loop-n-test.false

pub loop-n-init : goal.loop-n-init
loop-n-init c =
    summing_start _
