-- `packet_numbers::look` meets its contract.
use Rattle.std.proofs.Common.{refl, arith}
use Rattle.packet_numbers.proofs.Numbering.{looked_first, looked_more, looked_all}
use Rattle.packet_numbers.proofs.look.Goals as goal

pub loop-i-init : goal.loop-i-init
loop-i-init c =
    looked_first c.args.ns.now c.args.ks.now c.requires.0 c.requires.2 (c.type_inv.ns 0).fits c.excess.ensures c.start.ensures

pub loop-i-preserved : goal.loop-i-preserved
loop-i-preserved c =
    looked_more c.args.ns.now c.args.ks.now c.requires.1 c.requires.2 c.loop-i.invariant (omega (arith, c.loop-i-test.true))
    (c.type_inv.ks c.loop-i.i).fits refl c.excess-in-loop-i.ensures c.jump.ensures

pub returns : goal.returns
returns c =
    looked_all c.args.ns.now c.args.ks.now c.requires.1 c.requires.2 c.loop-i.invariant (omega (arith, c.loop-i-test.false))
