-- `packet_numbers::words::numbers_go` meets its contract. The invariant: the numbers passed go by 0 or 1.
use Rattle.std.proofs.Common.{◌+◌, ◌-◌, arith}
use Rattle.laws.proofs.Never.{never}
use Rattle.packet_numbers.proofs.Lanes.{first_goes, go_place, go_fewer, last_goes}
use Rattle.packet_numbers.proofs.words.numbers_go.Goals as goal

pub returns-then-ks-ne0 : goal.returns-then-ks-ne0
returns-then-ks-ne0 c =
    λ e. never (cc)

pub loop-i-init : goal.loop-i-init
loop-i-init c =
    (omega arith, first_goes c.args.ks.now (omega (arith, c.requires)) c.if-ks-ne0.false)

pub returns-then-steps_wrong : goal.returns-then-steps_wrong
returns-then-steps_wrong c =
    λ e. never (cc)

pub loop-i-preserved : goal.loop-i-preserved
loop-i-preserved c = (
  omega (arith, c.loop-i-test.true),
  go_place c.args.ks.now c.loop-i.i (c.steps_wrong.ensures c.if-steps_wrong.false c.loop-i.invariant.1),
)

pub returns-then-steps_wrong-2 : goal.returns-then-steps_wrong-2
returns-then-steps_wrong-2 c =
    λ e. never (cc)

pub returns : goal.returns
returns c =
    let here = go_fewer c.args.ks.now (c.args.n - 10 + 1) (c.loop-i.i + 1) (omega arith) (omega (arith, c.loop-i-test.false))
    (omega (arith, c.loop-i.invariant.0, c.requires))
    c.loop-i.invariant.1 in
    last_goes c.args.ks.now c.args.n c.wrapping_sub_u8.result c.requires.0 c.requires.1 c.requires.2 (c.steps_wrong-2.ensures c.if-steps_wrong-2.false here)
    c.wrapping_sub_u8.ensures.value
