-- `stream_join::multistream_take` meets its contract: it is the report of what `take_answer` answers.
use mathlib.Core.Path.{◌∙◌}
use Rattle.opus_defines.proofs.Outcomes.{meets}
use Rattle.stream_join.proofs.Taking.{take_passed}
use Rattle.stream_join.proofs.multistream_take.Goals as goal

pub returns : goal.returns
returns c =
    let whole = meets (take_passed c.args.«data».now c.args.nb_streams c.args.k c.args.dst.now c.ranges.nb_streams c.ranges.k)
    (c.report_of.ensures ∙ c.take_answer.ensures.report) c.take_answer.ensures.bytes in record { report = whole.0; bytes = whole.1 }
