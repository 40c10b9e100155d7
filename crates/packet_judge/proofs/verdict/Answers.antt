-- `packet_judge::verdict` meets its contract.
use borrow.Author.Tests.{lt-ltb, le-ltb}
use Rattle.packet_judge.proofs.verdict.Goals as goal

pub returns-then-dirt : goal.returns-then-dirt
returns-then-dirt c =
    simp c.if-dirt.true

pub returns-then-least-taken : goal.returns-then-least-taken
returns-then-least-taken c =
    simp (c.if-dirt.false, lt-ltb _ _ c.if-least-taken.true)

pub returns : goal.returns
returns c =
    simp (c.if-dirt.false, le-ltb _ _ c.if-least-taken.false)
