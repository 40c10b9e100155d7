-- `opus_head::long_as` meets its contract: by the version that was tested.
use mathlib.Core.Path.{sym}
use Rattle.opus_head.proofs.Fitting.{long_one, long_other}
use Rattle.opus_head.proofs.long_as.Goals as goal

pub returns-then-version-eq1 : goal.returns-then-version-eq1
returns-then-version-eq1 c =
    sym (long_one c.args.version c.args.n c.args.need c.if-version-eq1.true)

pub returns : goal.returns
returns c =
    sym (long_other c.args.version c.args.n c.args.need c.if-version-eq1.false)
