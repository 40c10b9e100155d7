-- `opus_head::gain_of` meets its contract: by the upper bit that was tested.
use native.Mathlib.Omega.{arith}
use Rattle.opus_head.proofs.Gain.{signed-natural, signed-fits, signed_negative}
use Rattle.opus_head.proofs.gain_of.Goals as goal

pub returns-then-bits-lt32768 : goal.returns-then-bits-lt32768
returns-then-bits-lt32768 c =
    signed-natural c.args.bits c.if-bits-lt32768.true

pub overflow_sub-result : goal.overflow_sub-result
overflow_sub-result c =
    signed-fits c.args.bits c.if-bits-lt32768.false (omega (arith, c.ranges.bits.fits))

pub returns : goal.returns
returns c =
    signed_negative c.args.bits c.if-bits-lt32768.false (omega (arith, c.ranges.bits.fits))
