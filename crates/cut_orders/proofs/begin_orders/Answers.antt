-- `cut_orders::begin_orders` meets its contract.
use mathlib.Core.Path.{sym, ◌∙◌}
use Rattle.cut_orders.proofs.begin_orders.Goals as goal

pub returns : goal.returns
returns c =
    c.order_report.ensures ∙ sym c.guard.ensures
