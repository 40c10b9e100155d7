-- `aveluafi::reading::no_packet` meets its contract: the refusal's report, and zeros.
use Rattle.aveluafi.proofs.Records.{none_reported}
use Rattle.aveluafi.proofs.reading.no_packet.Goals as goal

pub returns : goal.returns
returns c =
    none_reported c.args.e c.refusal_report-r.ensures
