-- `opus_parts::frames_at::own_equal` meets its contract: one field says the length of all frames.
use mathlib.Core.Path.{sym, ◌∙◌}
use native.Mathlib.Omega.{arith}
use Rattle.opus_size.proofs.At.{whole_was, short_was}
use Rattle.opus_toc.proofs.Samples.{product}
use Rattle.opus_parts.proofs.AtFrames.{each-short, each_over, each_read}
use Rattle.opus_parts.proofs.frames_at.own_equal.Goals as goal

pub returns-in_default : goal.returns-in_default
returns-in_default c =
    λ r. each-short c.args.s.now c.args.count r (short_was _ _ (sym c.size_at-size.ensures ∙ c.in_default.is)) _

pub overflow_mul-total : goal.overflow_mul-total
overflow_mul-total c =
    omega (arith, product c.args.count c.wide.result (omega (arith, c.requires.0, c.requires.1)) c.wide.ensures.1)

pub overflow_sub-s : goal.overflow_sub-s
overflow_sub-s c =
    (whole_was _ _ _ _ (sym c.size_at-size.ensures ∙ c.in-Some.is)).within

pub returns-then-s-first : goal.returns-then-s-first
returns-then-s-first c =
    λ r. each_over c.args.s.now c.args.count r _ _ _ (whole_was _ _ _ _ (sym c.size_at-size.ensures ∙ c.in-Some.is))
    c.wide.ensures.0 c.if-s-first.true _

pub returns : goal.returns
returns c =
    λ r. each_read c.args.s.now c.args.count r _ _ _ (whole_was _ _ _ _ (sym c.size_at-size.ensures ∙ c.in-Some.is))
    c.wide.ensures.0 _ c.same_lengths.ensures c.if-s-first.false
