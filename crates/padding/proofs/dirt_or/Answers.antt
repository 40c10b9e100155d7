-- `padding::dirt_or` meets its contract.
use borrow.Author.Tests.{eq-eqb, ne_eqb}
use Rattle.padding.proofs.dirt_or.Goals as goal

pub returns-then-b-ne0 : goal.returns-then-b-ne0
returns-then-b-ne0 c =
    simp (ne_eqb _ _ c.if-b-ne0.true)

pub returns-else-b-ne0 : goal.returns-else-b-ne0
returns-else-b-ne0 c =
    simp (eq-eqb _ _ c.if-b-ne0.false)
