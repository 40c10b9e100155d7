-- `opus_parts::sizes_at::break_at` meets its contract. The invariant: the fields from here on break where all of them do.
use mathlib.Core.Path.{sym, ◌∙◌}
use borrow.Author.Rules.{rules}
use Rattle.opus_size.proofs.At.{Found, whole_was, short_was}
use Rattle.opus_parts.proofs.AtSizes.{stops_start, stops_cut, stops_over, stops_more, stops_end}
use Rattle.opus_parts.proofs.sizes_at.break_at.Goals as goal
use Rattle.opus_parts.proofs.sizes_at.break_at.Goals.{In-Some}

-- the field that was read
found : (c : In-Some) → Found c.args.s.now c.loop.next c.in-Some.size c.in-Some.after
found c = whole_was _ _ _ _ (sym c.size_at-f.ensures ∙ c.in-Some.is)

pub loop-init : goal.loop-init
loop-init c =
    stops_start _ _ _ c.requires

pub returns-in_default : goal.returns-in_default
returns-in_default c =
    stops_cut _ _ _ _ _ c.loop.invariant (search rules) (short_was _ _ (sym c.size_at-f.ensures ∙ c.in_default.is))

pub overflow_sub-s : goal.overflow_sub-s
overflow_sub-s c =
    (found c).within

pub returns-then-s-after : goal.returns-then-s-after
returns-then-s-after c =
    stops_over _ _ _ _ _ c.loop.invariant (search rules) _ _ _ (found (goal.at.returns-then-s-after c).In-Some) c.wide.ensures.0 c.if-s-after.true

pub loop-preserved : goal.loop-preserved
loop-preserved c =
    stops_more _ _ _ _ _ c.loop.invariant (search rules) _ _ _ (found (goal.at.loop-preserved c).In-Some) c.wide.ensures.0 c.if-s-after.false

pub returns : goal.returns
returns c =
    stops_end _ _ _ _ _ c.loop.invariant (search rules)
