-- `opus::two_unequal` meets its contract: the second frame takes what the first leaves.
use mathlib.Core.Path.{sym, ◌∙◌}
use Rattle.opus_size.proofs.At.{Found, whole_was, short_was}
use Rattle.opus.proofs.AtShort.{unequal-cut, unequal-over, unequal_long, unequal-fits}
use Rattle.opus.proofs.two_unequal.Goals as goal
use Rattle.opus.proofs.two_unequal.Goals.{In-Some}

-- the first frame's length field
found : (c : In-Some) → Found c.args.«data».now 1 c.in-Some.n c.in-Some.first
found c = whole_was _ _ _ _ (sym c.size_at-size.ensures ∙ c.in-Some.is)

pub returns-in_default : goal.returns-in_default
returns-in_default c =
    unequal-cut c.args.«data».now c.requires.0 c.requires.1 (short_was _ _ (sym c.size_at-size.ensures ∙ c.in_default.is))

pub overflow_sub-left : goal.overflow_sub-left
overflow_sub-left c =
    (found c).within

pub returns-then-left-one : goal.returns-then-left-one
returns-then-left-one c =
    unequal-over c.args.«data».now c.requires.0 c.requires.1 _ _ _ (found (goal.at.returns-then-left-one c).In-Some) c.wide-one.ensures.0 c.if-left-one.true

pub returns-then-last-gt-MOST_BYTES : goal.returns-then-last-gt-MOST_BYTES
returns-then-last-gt-MOST_BYTES c =
    unequal_long c.args.«data».now c.requires.0 c.requires.1 _ _ _ (found (goal.at.returns-then-last-gt-MOST_BYTES c).In-Some) c.wide-one.ensures.0
    c.if-left-one.false c.if-last-gt-MOST_BYTES.true

pub returns : goal.returns
returns c =
    unequal-fits c.args.«data».now c.requires.0 c.requires.1 _ _ _ (found (goal.at.returns c).In-Some) c.wide-one.ensures.0 c.if-left-one.false
    c.if-last-gt-MOST_BYTES.false
