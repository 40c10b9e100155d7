-- `opus_head::checked_head` meets its contract: by the test of the rules.
use mathlib.Core.Path.{◌∙◌}
use Rattle.opus_head.proofs.Fitting.{checked_accepted, checked_refused}
use Rattle.opus_head.proofs.checked_head.Goals as goal

pub returns-then-fields_fit : goal.returns-then-fields_fit
returns-then-fields_fit c =
    checked_accepted c.args.head c.fields_fit.ensures c.if-fields_fit.true

pub returns : goal.returns
returns c =
    checked_refused c.args.head c.fields_fit.ensures c.if-fields_fit.false
