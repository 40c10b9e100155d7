-- `capture_survey::with_passed` meets its contract.
use Rattle.capture_survey.proofs.Counting.{passed_more}
use Rattle.capture_survey.proofs.with_passed.Goals as goal

pub returns : goal.returns
returns c =
    passed_more c.args.sum c.args.passed
