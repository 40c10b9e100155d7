-- `aveluafi::reading::size_record` meets its contract: a count or a refusal becomes its report.
use Rattle.aveluafi.proofs.Records.{size_reported, no_size_reported}
use Rattle.aveluafi.proofs.reading.size_record.Goals as goal

pub returns-in-Ok : goal.returns-in-Ok
returns-in-Ok c =
    rw c.in-Ok.is (size_reported c.in-Ok.x c.report_of.ensures)

pub returns-in-Err : goal.returns-in-Err
returns-in-Err c =
    rw c.in-Err.is (no_size_reported c.in-Err.e c.refusal_report.ensures)
