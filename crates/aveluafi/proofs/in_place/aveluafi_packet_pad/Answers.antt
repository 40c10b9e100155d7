-- `aveluafi::in_place::aveluafi_packet_pad` meets its contract: it is the core's pad.
use Rattle.opus_defines.proofs.Outcomes.{meets}
use Rattle.packet_pad.proofs.Calls.{pad_passed}
use Rattle.aveluafi.proofs.in_place.aveluafi_packet_pad.Goals as goal

pub returns : goal.returns
returns c =
    let whole = meets (pad_passed c.args.«data».now c.args.len c.args.new_len c.ranges.len c.ranges.new_len) c.opus_packet_pad.ensures.report
    c.opus_packet_pad.ensures.bytes in record { report = whole.0; bytes = whole.1 }
