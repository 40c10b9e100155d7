-- `aveluafi::reading::whole_packet` meets its contract: the count is a report.
use Rattle.aveluafi.proofs.Records.{whole_reported}
use Rattle.aveluafi.proofs.reading.whole_packet.Goals as goal

pub returns : goal.returns
returns c =
    whole_reported c.args.p c.args.lengths c.report_of.ensures
