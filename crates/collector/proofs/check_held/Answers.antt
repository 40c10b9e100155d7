-- `collector::check_held` meets its contract: by what one pass has found.
use Rattle.collector.proofs.Checks.{held_wrong, held_right}
use Rattle.collector.proofs.check_held.Goals as goal

pub returns-then-m-gt1 : goal.returns-then-m-gt1
returns-then-m-gt1 c =
    held_wrong c.args.ns.now c.args.ks.now c.look-m.result.wrong c.look-m.ensures.1 c.if-m-gt1.true

pub returns : goal.returns
returns c =
    held_right c.args.ns.now c.args.ks.now c.look-m.result.wrong c.look-m.ensures.1 c.if-m-gt1.false c.requires.1
    c.look-m.ensures.0 c.wide.ensures.0
