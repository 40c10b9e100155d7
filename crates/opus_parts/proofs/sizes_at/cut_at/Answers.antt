-- `opus_parts::sizes_at::cut_at` meets its contract: the last length that was read by itself, then those behind it.
use mathlib.Core.Path.{◌∙◌}
use native.Mathlib.Omega.{arith}
use Rattle.opus_parts.proofs.AtSizes.{cut-last, cut_later}
use Rattle.opus_parts.proofs.sizes_at.cut_at.Goals as goal

pub overflow_sub-result : goal.overflow_sub-result
overflow_sub-result c =
    omega (arith, c.size_bytes.ensures, c.requires.1 (omega (arith, c.if-s-next.true)))

pub returns-then-s-next : goal.returns-then-s-next
returns-then-s-next c =
    rw c.size_bytes.ensures (cut-last c.args.s.now c.args.next c.args.last c.args.k c.if-s-next.true)

pub returns : goal.returns
returns c =
    c.break_at.ensures ∙ cut_later c.args.s.now c.args.next c.args.last c.args.k c.if-s-next.false
