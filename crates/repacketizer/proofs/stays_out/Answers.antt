-- `repacketizer::stays_out` meets its contract: each `return` is a law of what is asked, at what the tests on the way say.
use mathlib.Core.Path.{sym, ◌∙◌}
use mathlib.Core.List.{[]}
use Rattle.collector.specs.Parts.{bare}
use Rattle.repacketizer.proofs.Adds.{stays_none, stays_goes, stays_other, stays_lasting}
use Rattle.repacketizer.proofs.stays_out.Goals as goal

pub returns-then-data-eq0 : goal.returns-then-data-eq0
returns-then-data-eq0 c =
    stays_none (bare c.args.h []) c.args.«data».now c.if-data-eq0.true

pub returns-then-goes_with : goal.returns-then-goes_with
returns-then-goes_with c =
    stays_goes (bare c.args.h []) c.args.«data».now c.if-data-eq0.false c.said_frames-n.result c.said_frames-n.ensures.0
    (sym c.goes_with.ensures ∙ c.if-goes_with.true)

pub returns-then-h-toc : goal.returns-then-h-toc
returns-then-h-toc c =
    stays_other (bare c.args.h []) c.args.«data».now c.if-data-eq0.false c.said_frames-n.result c.said_frames-n.ensures.0
    (sym c.goes_with.ensures ∙ c.if-goes_with.false)
    (λ e. c.if-h-toc.true (sym e))

pub returns : goal.returns
returns c =
    stays_lasting (bare c.args.h []) c.args.«data».now c.if-data-eq0.false c.said_frames-n.result c.said_frames-n.ensures.0
    (sym c.goes_with.ensures ∙ c.if-goes_with.false)
    (sym c.if-h-toc.false) c.lasting.ensures
