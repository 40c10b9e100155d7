-- `opus::own::own_unequal` meets its contract: each frame says its length.
use mathlib.Core.Path.{sym, ◌∙◌}
use Rattle.opus_size.proofs.At.{Found, whole_was, short_was}
use Rattle.opus.proofs.AtOwn.{own_unequal-cut, own_unequal-over, own_second_cut, own_second_over, own_second_fits}
use Rattle.opus.proofs.own.own_unequal.Goals as goal
use Rattle.opus.proofs.own.own_unequal.Goals.{In-Some, In-Some-last}

-- the first frame's length field
found : (c : In-Some) → Found c.args.«data».now 1 c.in-Some.m c.in-Some.next
found c = whole_was _ _ _ _ (sym c.size_at-size.ensures ∙ c.in-Some.is)

-- the second frame's length field
second : (c : In-Some-last)
    → Found c.args.«data».now c.in-Some.next c.in-Some-last.n c.in-Some-last.first
second c = whole_was _ _ _ _ (sym c.size_at-last.ensures ∙ c.in-Some-last.is)

pub returns-in_default : goal.returns-in_default
returns-in_default c =
    own_unequal-cut c.args.«data».now c.requires.0 c.requires.1 (short_was _ _ (sym c.size_at-size.ensures ∙ c.in_default.is))

pub overflow_sub-data : goal.overflow_sub-data
overflow_sub-data c =
    (found c).within

pub returns-then-data-next : goal.returns-then-data-next
returns-then-data-next c =
    own_unequal-over c.args.«data».now c.requires.0 c.requires.1 _ _ _ (found (goal.at.returns-then-data-next c).In-Some) c.wide.ensures.0 c.if-data-next.true

pub returns-in_default-last : goal.returns-in_default-last
returns-in_default-last c =
    own_second_cut c.args.«data».now c.requires.0 c.requires.1 _ _ _ (found (goal.at.returns-in_default-last c).In-Some) c.wide.ensures.0 c.if-data-next.false
    (short_was _ _ (sym c.size_at-last.ensures ∙ c.in_default-last.is))

pub overflow_sub-data-2 : goal.overflow_sub-data-2
overflow_sub-data-2 c =
    (second c).within

pub returns-then-data-first : goal.returns-then-data-first
returns-then-data-first c =
    own_second_over c.args.«data».now c.requires.0 c.requires.1 _ _ _ (found (goal.at.returns-then-data-first c).In-Some) c.wide.ensures.0 c.if-data-next.false
    _ _ _ _ (second (goal.at.returns-then-data-first c).In-Some-last) c.wide-2.ensures.0 c.wide-3.ensures.0 c.if-data-first.true

pub returns : goal.returns
returns c =
    own_second_fits c.args.«data».now c.requires.0 c.requires.1 _ _ _ (found (goal.at.returns c).In-Some) c.wide.ensures.0 c.if-data-next.false
    _ _ _ _ (second (goal.at.returns c).In-Some-last) c.wide-2.ensures.0 c.wide-3.ensures.0 c.if-data-first.false
