-- `repacketizer::goes_with` meets its contract: by the tests of the code.
use mathlib.Core.Path.{◌∙◌}
use mathlib.Core.List.{[]}
use native.Mathlib.Omega.{arith}
use Rattle.collector.specs.Parts.{bare}
use Rattle.repacketizer.proofs.Adds.{goes_none, goes_other, goes_time}
use Rattle.repacketizer.proofs.goes_with.Goals as goal

pub returns-then-count-eq0 : goal.returns-then-count-eq0
returns-then-count-eq0 c =
    goes_none (bare c.args.h []) c.args.toc c.args.n c.if-count-eq0.true

pub returns-then-toc-h : goal.returns-then-toc-h
returns-then-toc-h c =
    goes_other (bare c.args.h []) c.args.toc c.args.n c.if-count-eq0.false c.if-toc-h.true

pub overflow_add-count : goal.overflow_add-count
overflow_add-count c =
    record { fits = omega (arith, c.requires) }

pub returns : goal.returns
returns c =
    c.fits.ensures ∙ goes_time (bare c.args.h []) c.args.toc c.args.n c.if-count-eq0.false c.if-toc-h.false
