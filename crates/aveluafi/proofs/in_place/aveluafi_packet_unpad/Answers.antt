-- `aveluafi::in_place::aveluafi_packet_unpad` meets its contract: it is the core's unpad.
use Rattle.opus_defines.proofs.Outcomes.{meets}
use Rattle.packet_pad.proofs.Calls.{unpad_passed}
use Rattle.aveluafi.proofs.in_place.aveluafi_packet_unpad.Goals as goal

pub returns : goal.returns
returns c =
    let whole = meets (unpad_passed c.args.«data».now c.args.len c.ranges.len) c.opus_packet_unpad.ensures.report c.opus_packet_unpad.ensures.bytes
    in record { report = whole.0; bytes = whole.1 }
