-- `multistream::further_on` meets its contract: the bytes are added, and a refusal is shifted.
use native.Mathlib.Omega.{arith}
use Rattle.multistream.proofs.further_on.Goals as goal

pub overflow_add-result : goal.overflow_add-result
overflow_add-result c =
    omega (arith, rw c.in-Ok.is at c.requires)

pub shift-requires : goal.shift-requires
shift-requires c =
    omega (arith, rw c.in-Err.is at c.requires)

pub returns-in-Ok : goal.returns-in-Ok
returns-in-Ok c =
    rw c.in-Ok.is

pub returns-in-Err : goal.returns-in-Err
returns-in-Err c =
    rw (c.in-Err.is, c.shift.ensures)
