-- `collector::front_of` meets its contract: by the tests of the code.
use Rattle.std.proofs.Common.{sym, ◌∙◌}
use Rattle.collector.proofs.Checks.{front-none, front_unfit, front-held}
use Rattle.collector.proofs.front_of.Goals as goal

pub returns-then-n-eq0 : goal.returns-then-n-eq0
returns-then-n-eq0 c =
    front-none c.args.h c.wide-n.result c.wide-n.ensures.0 c.if-n-eq0.true

pub returns-then-not-head_fits : goal.returns-then-not-head_fits
returns-then-not-head_fits c =
    front_unfit c.args.h c.wide-n.result c.wide-n.ensures.0 c.if-n-eq0.false
    (sym c.head_fits.ensures ∙ c.if-not-head_fits.true)

pub returns : goal.returns
returns c =
    front-held c.args.h c.wide-n.result c.wide-n.ensures.0 c.if-n-eq0.false (sym c.head_fits.ensures ∙ c.if-not-head_fits.false)
