-- `packet_pad::opus_packet_unpad` meets its contract: it is the report of what `unpad_answer` answers.
use mathlib.Core.Path.{◌∙◌}
use Rattle.opus_defines.proofs.Outcomes.{meets}
use Rattle.packet_pad.proofs.Calls.{unpad_passed}
use Rattle.packet_pad.proofs.opus_packet_unpad.Goals as goal

pub returns : goal.returns
returns c =
    let whole = meets (unpad_passed c.args.«data».now c.args.len c.ranges.len) (c.report_of.ensures ∙ c.unpad_answer.ensures.report)
    c.unpad_answer.ensures.bytes in record { report = whole.0; bytes = whole.1 }
