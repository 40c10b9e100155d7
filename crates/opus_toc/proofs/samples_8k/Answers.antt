-- `opus_toc::samples_8k` meets its contract: by the tests of the code.
use mathlib.Core.Path.{◌∙◌}
use native.Mathlib.Omega.{arith}
use Rattle.opus_toc.proofs.Samples.{celt_8k_lem, hybrid_8k, silk_8k_lem}
use Rattle.opus_toc.proofs.samples_8k.Goals as goal

pub returns-then-toc-ge128 : goal.returns-then-toc-ge128
returns-then-toc-ge128 c =
    c.celt_8k.ensures ∙ celt_8k_lem c.args.toc (omega (arith, c.ranges.toc)) c.if-toc-ge128.true

pub returns-then-toc-ge96 : goal.returns-then-toc-ge96
returns-then-toc-ge96 c =
    c.celt_8k-then-toc-ge96.ensures ∙ hybrid_8k c.args.toc (omega (arith, c.ranges.toc)) c.if-toc-ge128.false c.if-toc-ge96.true

pub returns : goal.returns
returns c =
    c.silk_8k.ensures ∙ silk_8k_lem c.args.toc (omega (arith, c.ranges.toc)) c.if-toc-ge128.false c.if-toc-ge96.false
