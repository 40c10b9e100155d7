-- `opus_head::streams_fit` meets its contract: at each way out, the tests on the way say what `streams_fit` is.
use mathlib.Core.Path.{sym}
use Rattle.opus_head.proofs.Fitting.{streams_none, streams_over, streams_sum}
use Rattle.opus_head.proofs.streams_fit.Goals as goal

pub returns-then-streams-lt1 : goal.returns-then-streams-lt1
returns-then-streams-lt1 c =
    sym (streams_none c.args.streams c.args.coupled c.if-streams-lt1.true)

pub returns-then-streams-coupled : goal.returns-then-streams-coupled
returns-then-streams-coupled c =
    sym (streams_over c.args.streams c.args.coupled c.if-streams-lt1.false c.if-streams-coupled.true)

pub returns : goal.returns
returns c =
    streams_sum c.args.streams c.args.coupled c.if-streams-lt1.false c.if-streams-coupled.false c.wide_byte.ensures.0 c.wide_byte-2.ensures.0
