-- `repacketizer::said_frames` meets its contract: by what the first bytes say.
use mathlib.Core.Path.{sym, ap, ◌∙◌}
use native.Mathlib.Omega.{arith}
use Rattle.repacketizer.specs.Adding.{said_frames}
use Rattle.repacketizer.proofs.Adds.{said_few}
use Rattle.repacketizer.proofs.said_frames.Goals as goal

pub returns-in-Ok : goal.returns-in-Ok
returns-in-Ok c =
    let is = ap said_frames (sym c.in-Ok.is ∙ c.nb_frames-a.ensures) in
    (is, omega (arith, is, said_few c.args.«data».now))

pub returns-in-Err : goal.returns-in-Err
returns-in-Err c =
    (ap said_frames (sym c.in-Err.is ∙ c.nb_frames-a.ensures), omega arith)
