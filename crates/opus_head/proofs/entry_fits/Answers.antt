-- `opus_head::entry_fits` meets its contract: at each way out, the test on the way says what `entry_fits` is.
use mathlib.Core.Path.{sym}
use Rattle.opus_head.proofs.Fitting.{entry_silent, entry_placed}
use Rattle.opus_head.proofs.entry_fits.Goals as goal

pub returns-then-e-eq255 : goal.returns-then-e-eq255
returns-then-e-eq255 c =
    sym (entry_silent c.args.sum c.args.e c.if-e-eq255.true)

pub returns : goal.returns
returns c =
    sym (entry_placed c.args.sum c.args.e c.if-e-eq255.false)
