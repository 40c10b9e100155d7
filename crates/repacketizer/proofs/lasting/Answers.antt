-- `repacketizer::lasting` meets its contract: the time is counted in samples.
use mathlib.Core.Path.{◌∙◌}
use native.Mathlib.Omega.{arith}
use Rattle.opus.proofs.AtPacket.{lasts_is}
use Rattle.repacketizer.proofs.lasting.Goals as goal

pub returns-then-n-eq0 : goal.returns-then-n-eq0
returns-then-n-eq0 c =
    rw c.if-n-eq0.true

pub returns : goal.returns
returns c =
    c.fits.ensures ∙ lasts_is c.args.toc c.args.n c.samples_48k-each.result.0 (omega (arith, c.ranges.toc)) c.samples_48k-each.ensures c.if-n-eq0.false
