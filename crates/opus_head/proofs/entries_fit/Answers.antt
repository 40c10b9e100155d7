-- `opus_head::entries_fit` meets its contract. The invariant of its first loop: the entries passed fit, so the test is that of the rest. That of its second:
-- the test is what was seen so far together with that of the rest.
use native.Mathlib.Omega.{arith}
use mathlib.Core.Path.{◌≡◌, sym, ◌∙◌}
use Rattle.opus_head.proofs.Fitting.{entries_start, entry_passed, entry_refused, fits_end}
use Rattle.opus_head.proofs.entries_fit.Goals as goal

pub loop-i-init : goal.loop-i-init
loop-i-init c =
    (omega arith, entries_start c.args.mapping.now c.args.n c.args.sum)

pub returns-then-not-entry_fits : goal.returns-then-not-entry_fits
returns-then-not-entry_fits c =
    sym (c.loop-i.invariant.1
    ∙ entry_refused c.args.mapping.now c.args.n c.args.sum c.loop-i.i (omega arith) (omega arith) c.wide_byte.ensures.0
    (sym c.entry_fits.ensures ∙ c.if-not-entry_fits.true))

pub loop-i-preserved : goal.loop-i-preserved
loop-i-preserved c = (
  omega arith,
  c.loop-i.invariant.1
      ∙ entry_passed c.args.mapping.now c.args.n c.args.sum c.loop-i.i (omega arith) (omega arith) c.wide_byte.ensures.0
      (sym c.entry_fits.ensures ∙ c.if-not-entry_fits.false),
)

pub loop-i-2-init : goal.loop-i-2-init
loop-i-2-init c =
    let end : c.loop-i.i ≡ c.args.n = omega arith in
    (omega arith, rw end at c.loop-i.invariant.1)

pub returns : goal.returns
returns c =
    sym (c.loop-i-2.invariant.1 ∙ fits_end c.args.mapping.now c.args.n c.args.sum c.loop-i-2.i c.loop-i-2.fits c.loop-i-2-test.false)
