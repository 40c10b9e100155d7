-- `multistream::opus_multistream_packet_pad` meets its contract: it is the report of what `pad_answer` answers.
use mathlib.Core.Path.{◌∙◌}
use Rattle.opus_defines.proofs.Outcomes.{meets}
use Rattle.multistream.proofs.Calls.{pad_passed}
use Rattle.multistream.proofs.opus_multistream_packet_pad.Goals as goal

pub returns : goal.returns
returns c =
    let whole = meets
    (pad_passed c.args.«data».now c.args.len c.args.new_len c.args.nb_streams c.ranges.len c.ranges.new_len c.ranges.nb_streams)
    (c.report_of.ensures ∙ c.pad_answer.ensures.report) c.pad_answer.ensures.bytes in record { report = whole.0; bytes = whole.1 }
