-- `aveluafi::streams::aveluafi_multistream_take` meets its contract: it is the core's taking out.
use Rattle.opus_defines.proofs.Outcomes.{meets}
use Rattle.stream_join.proofs.Taking.{take_passed}
use Rattle.aveluafi.proofs.streams.aveluafi_multistream_take.Goals as goal

pub returns : goal.returns
returns c =
    let whole = meets (take_passed c.args.«data».now c.args.nb_streams c.args.k c.args.dst.now c.ranges.nb_streams c.ranges.k)
    c.multistream_take.ensures.report c.multistream_take.ensures.bytes in record { report = whole.0; bytes = whole.1 }
