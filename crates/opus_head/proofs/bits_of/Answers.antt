-- `opus_head::bits_of` meets its contract: by the sign that was tested.
use Rattle.opus_head.proofs.Gain.{turned_fits, turned_cast, turned_less, bits_negative, gain_cast, bits_natural}
use Rattle.opus_head.proofs.bits_of.Goals as goal

pub overflow_sub-result : goal.overflow_sub-result
overflow_sub-result c =
    turned_fits c.args.gain c.ranges.gain c.if-gain-lt0.true

pub overflow_cast-result : goal.overflow_cast-result
overflow_cast-result c =
    turned_cast c.args.gain c.ranges.gain c.if-gain-lt0.true

pub overflow_sub-result-then-gain-lt0 : goal.overflow_sub-result-then-gain-lt0
overflow_sub-result-then-gain-lt0 c =
    turned_less c.args.gain c.ranges.gain c.if-gain-lt0.true

pub returns-then-gain-lt0 : goal.returns-then-gain-lt0
returns-then-gain-lt0 c =
    bits_negative c.args.gain c.ranges.gain c.if-gain-lt0.true

pub overflow_cast-result-2 : goal.overflow_cast-result-2
overflow_cast-result-2 c =
    gain_cast c.args.gain c.ranges.gain c.if-gain-lt0.false

pub returns : goal.returns
returns c =
    bits_natural c.args.gain c.ranges.gain c.if-gain-lt0.false
