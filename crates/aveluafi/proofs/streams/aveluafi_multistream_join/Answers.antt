-- `aveluafi::streams::aveluafi_multistream_join` meets its contract: it is the core's join.
use Rattle.aveluafi.proofs.streams.aveluafi_multistream_join.Goals as goal

pub returns : goal.returns
returns c =
    record {
      report = c.multistream_join.ensures.report;
      bytes = c.multistream_join.ensures.bytes;
    }
