-- `collector::head_fits` meets its contract: by the tests of the code.
use Rattle.collector.proofs.Checks.{fits_other, fits-time}
use Rattle.collector.proofs.head_fits.Goals as goal

pub returns-then-framesize-each : goal.returns-then-framesize-each
returns-then-framesize-each c =
    fits_other c.args.h c.samples_8k-each.result.0 c.samples_8k-each.ensures c.if-framesize-each.true

pub returns : goal.returns
returns c =
    fits-time c.args.h c.samples_8k-each.result.0 c.samples_8k-each.ensures c.if-framesize-each.false c.fits.ensures
