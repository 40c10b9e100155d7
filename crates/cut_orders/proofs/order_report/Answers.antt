-- `cut_orders::order_report` meets its contract.
use mathlib.Core.Path.{◌≡◌, ◌∙◌}
use mir.Syntax.{w32}
use mir.Val.{to_z, of_z}
use borrow.Author.Rules.{rules}
use Rattle.cut_orders.proofs.Reports.{report_is}
use Rattle.cut_orders.proofs.order_report.Goals as goal

pub returns : goal.returns
returns c =
    let back : to_z w32 (of_z w32 c.number_of.result) ≡ c.number_of.result = search rules in
    report_is c.args.a c.args.position (back ∙ c.number_of.ensures)
