-- `multistream::shift_answer` meets its contract: a refusal is shifted.
use Rattle.multistream.proofs.shift_answer.Goals as goal

pub shift-requires : goal.shift-requires
shift-requires c =
    rw c.in-Err.is at c.requires

pub returns-in-Ok : goal.returns-in-Ok
returns-in-Ok c =
    rw c.in-Ok.is

pub returns-in-Err : goal.returns-in-Err
returns-in-Err c =
    rw (c.in-Err.is, c.shift.ensures)
