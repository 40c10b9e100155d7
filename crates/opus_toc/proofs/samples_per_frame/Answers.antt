-- `opus_toc::samples_per_frame` meets its contract, by its tests.
use mathlib.Core.Path.{sym, ◌∙◌}
use Rattle.opus_toc.proofs.Answers.{samples-empty, samples-none, samples_some}
use Rattle.opus_toc.proofs.samples_per_frame.Goals as goal

pub returns-then-d-eq0 : goal.returns-then-d-eq0
returns-then-d-eq0 c =
    samples-none _ _ c.if-data-eq0.false (sym c.divisor-d.ensures ∙ c.if-d-eq0.true)

pub returns : goal.returns
returns c =
    samples_some c.args.«data».now _ _ _ (c.shared_slice_known-2-1.given 0).fits
    c.if-data-eq0.false c.divisor-d.ensures c.if-d-eq0.false c.samples_in_table-each.ensures

pub returns-then-data-eq0 : goal.returns-then-data-eq0
returns-then-data-eq0 c =
    samples-empty _ _ c.if-data-eq0.true
