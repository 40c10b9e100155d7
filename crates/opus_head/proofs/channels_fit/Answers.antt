-- `opus_head::channels_fit` meets its contract: at each way out, the tests on the way say what `channels_fit` is.
use mathlib.Core.Path.{sym}
use Rattle.opus_head.proofs.Fitting.{channels_none, channels_plain, channels_vorbis, channels_any}
use Rattle.opus_head.proofs.channels_fit.Goals as goal

pub returns-then-channels-lt1 : goal.returns-then-channels-lt1
returns-then-channels-lt1 c =
    sym (channels_none c.args.family c.args.channels c.if-channels-lt1.true)

pub returns-then-family-eq0 : goal.returns-then-family-eq0
returns-then-family-eq0 c =
    sym (channels_plain c.args.family c.args.channels c.if-channels-lt1.false c.if-family-eq0.true)

pub returns-then-family-eq1 : goal.returns-then-family-eq1
returns-then-family-eq1 c =
    sym (channels_vorbis c.args.family c.args.channels c.if-channels-lt1.false c.if-family-eq0.false c.if-family-eq1.true)

pub returns : goal.returns
returns c =
    sym (channels_any c.args.family c.args.channels c.if-channels-lt1.false c.if-family-eq0.false c.if-family-eq1.false)
