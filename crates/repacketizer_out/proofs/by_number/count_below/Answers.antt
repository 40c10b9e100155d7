-- `repacketizer_out::by_number::count_below` meets its contract. The invariant: what was counted of the numbers passed.
use native.Mathlib.Omega.{arith}
use Rattle.repacketizer_out.proofs.Numbered.{passed_none, passed_more, passed_few, passed_all}
use Rattle.repacketizer_out.proofs.by_number.count_below.Goals as goal

pub loop-x-init : goal.loop-x-init
loop-x-init c =
    passed_none c.args.k c.args.ks.now

pub overflow_add-n : goal.overflow_add-n
overflow_add-n c =
    omega (arith, passed_few c.args.k c.args.ks.now c.loop-x.invariant c.loop-x-test.true c.requires c.one_if-n.ensures)

pub loop-x-preserved : goal.loop-x-preserved
loop-x-preserved c =
    passed_more c.args.k c.args.ks.now c.loop-x.invariant c.loop-x-test.true c.one_if-n.ensures

pub returns : goal.returns
returns c =
    passed_all c.args.k c.args.ks.now c.loop-x.invariant c.loop-x-test.false
