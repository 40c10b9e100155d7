-- `cut_orders::turns_of` meets its contract.
use borrow.Author.Rules.{rules}
use Rattle.opus_defines.proofs.Counts.{counted}
use Rattle.cut_orders.proofs.Reports.{turns-all, turns-none}
use Rattle.cut_orders.proofs.turns_of.Goals as goal

pub returns-in_default : goal.returns-in_default
returns-in_default c =
    turns-none c.args.m.number c.args.n
    (counted c.args.m.number (search rules) c.count_of.ensures.is c.in_default.is)

pub returns : goal.returns
returns c =
    turns-all c.args.m.number c.args.n _
    (counted c.args.m.number (search rules) c.count_of.ensures.is c.in-Some.is)
