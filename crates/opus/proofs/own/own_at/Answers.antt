-- `opus::own::own_at` meets its contract: by the code.
use mathlib.Core.Bool.{true}
use Rattle.opus.proofs.AtShort.{short-empty, short_low, short_even, short-counted}
use Rattle.opus.proofs.own.own_at.Goals as goal

pub returns-then-data-eq0 : goal.returns-then-data-eq0
returns-then-data-eq0 c =
    short-empty true c.args.«data».now c.if-data-eq0.true

pub returns-then-toc-eq0-2 : goal.returns-then-toc-eq0-2
returns-then-toc-eq0-2 c =
    short_low true c.args.«data».now c.if-toc-eq0.true c.own_one.ensures

pub returns-then-toc-eq0 : goal.returns-then-toc-eq0
returns-then-toc-eq0 c =
    short_low true c.args.«data».now c.if-toc-eq0.true c.own_equal.ensures

pub returns-then-toc-eq0-3 : goal.returns-then-toc-eq0-3
returns-then-toc-eq0-3 c =
    short_even true c.args.«data».now c.if-toc-eq0-3.true c.own_unequal.ensures

pub returns : goal.returns
returns c =
    short-counted true c.args.«data».now c.if-toc-eq0.false c.if-toc-eq0-3.false
