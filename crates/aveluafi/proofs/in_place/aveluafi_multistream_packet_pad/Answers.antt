-- `aveluafi::in_place::aveluafi_multistream_packet_pad` meets its contract: it is the core's pad.
use Rattle.opus_defines.proofs.Outcomes.{meets}
use Rattle.multistream.proofs.Calls.{pad_passed}
use Rattle.aveluafi.proofs.in_place.aveluafi_multistream_packet_pad.Goals as goal

pub returns : goal.returns
returns c =
    let whole = meets (pad_passed c.args.«data».now c.args.len c.args.new_len c.args.nb_streams c.ranges.len c.ranges.new_len c.ranges.nb_streams)
    c.opus_multistream_packet_pad.ensures.report
    c.opus_multistream_packet_pad.ensures.bytes in record { report = whole.0; bytes = whole.1 }
