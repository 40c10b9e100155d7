-- What is settled goes on at the place that the loop has come to.
use Rattle.std.proofs.Common.{◌-◌, length}
use Rattle.capture_window.proofs.Settling.{Reaches}
use Rattle.capture_window.proofs.settled.Given as goal

abbrev pub invariant-loop-at : goal.invariant-loop-at
invariant-loop-at l = Reaches l.«data» l.at

abbrev pub decreases-loop-at : goal.decreases-loop-at
decreases-loop-at l = length l.«data» - l.at
