-- `opus_parts::frames_at::own_last` meets its contract: the last frame's length stands behind the others'.
use mathlib.Core.Path.{sym, ◌∙◌}
use native.Mathlib.Omega.{arith}
use Rattle.opus_size.proofs.At.{whole_was, short_was}
use Rattle.opus_parts.proofs.AtFrames.{sizes_inside, own_short, own_over, own_read}
use Rattle.opus_parts.proofs.frames_at.own_last.Goals as goal

pub returns-in_default : goal.returns-in_default
returns-in_default c =
    λ r. own_short c.args.s.now c.args.k r c.args.next c.args.sum c.args.lengths.now c.requires.read
    (short_was _ _ (sym c.size_at-size.ensures ∙ c.in_default.is)) _

pub overflow_sub-s : goal.overflow_sub-s
overflow_sub-s c =
    (whole_was _ _ _ _ (sym c.size_at-size.ensures ∙ c.in-Some.is)).within

pub overflow_add-total : goal.overflow_add-total
overflow_add-total c =
    omega (arith, sizes_inside c.args.s.now c.args.k c.args.next c.args.sum c.args.lengths.now c.requires.read, c.wide.ensures.1)

pub returns-then-s-first : goal.returns-then-s-first
returns-then-s-first c =
    λ r. own_over c.args.s.now c.args.k r c.args.next c.args.sum c.args.lengths.now c.requires.read _ _ _
    (whole_was _ _ _ _ (sym c.size_at-size.ensures ∙ c.in-Some.is)) c.wide.ensures.0 c.if-s-first.true _

pub returns : goal.returns
returns c =
    λ r. own_read c.args.s.now c.args.k r c.args.next c.args.sum c.args.lengths.now c.requires.read _ _ _
    (whole_was _ _ _ _ (sym c.size_at-size.ensures ∙ c.in-Some.is)) c.wide.ensures.0 c.requires.few c.if-s-first.false
