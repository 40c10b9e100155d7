-- `opus::own::own_one` meets its contract: the frame says its length.
use mathlib.Core.Path.{sym, ◌∙◌}
use Rattle.opus_size.proofs.At.{Found, whole_was, short_was}
use Rattle.opus.proofs.AtOwn.{own_one_cut, own_one_over, own_one_fits}
use Rattle.opus.proofs.own.own_one.Goals as goal
use Rattle.opus.proofs.own.own_one.Goals.{In-Some}

-- the length field
found : (c : In-Some) → Found c.args.«data».now 1 c.in-Some.n c.in-Some.first
found c = whole_was _ _ _ _ (sym c.size_at-size.ensures ∙ c.in-Some.is)

pub returns-in_default : goal.returns-in_default
returns-in_default c =
    own_one_cut c.args.«data».now c.requires.0 c.requires.1 (short_was _ _ (sym c.size_at-size.ensures ∙ c.in_default.is))

pub overflow_sub-data : goal.overflow_sub-data
overflow_sub-data c =
    (found c).within

pub returns-then-data-first : goal.returns-then-data-first
returns-then-data-first c =
    own_one_over c.args.«data».now c.requires.0 c.requires.1 _ _ _ (found (goal.at.returns-then-data-first c).In-Some) c.wide.ensures.0 c.if-data-first.true

pub returns : goal.returns
returns c =
    own_one_fits c.args.«data».now c.requires.0 c.requires.1 _ _ _ (found (goal.at.returns c).In-Some) c.wide.ensures.0 c.if-data-first.false
