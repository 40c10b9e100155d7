-- `multistream::opus_multistream_packet_unpad` meets its contract: it is the report of what `unpad_answer` answers.
use mathlib.Core.Path.{◌∙◌}
use Rattle.opus_defines.proofs.Outcomes.{meets}
use Rattle.multistream.proofs.Calls.{unpad_passed}
use Rattle.multistream.proofs.opus_multistream_packet_unpad.Goals as goal

pub returns : goal.returns
returns c =
    let whole = meets (unpad_passed c.args.«data».now c.args.len c.args.nb_streams c.ranges.len c.ranges.nb_streams)
    (c.report_of.ensures ∙ c.unpad_answer.ensures.report) c.unpad_answer.ensures.bytes in record { report = whole.0; bytes = whole.1 }
