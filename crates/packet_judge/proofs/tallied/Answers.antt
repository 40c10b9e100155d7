-- `packet_judge::tallied` meets its contract.
use Rattle.packet_judge.proofs.tallied.Goals as goal

pub returns-in-Unreadable : goal.returns-in-Unreadable
returns-in-Unreadable c =
    rw c.in-Unreadable.is

pub returns-in-Dirty : goal.returns-in-Dirty
returns-in-Dirty c =
    rw c.in-Dirty.is

pub returns-in-Longer : goal.returns-in-Longer
returns-in-Longer c =
    rw c.in-Longer.is

pub returns-in-Clean : goal.returns-in-Clean
returns-in-Clean c =
    rw c.in-Clean.is
