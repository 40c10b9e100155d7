-- The lines of the records before `at` are put. The measure is the bytes left.
use Rattle.std.proofs.Common.{◌-◌, length}
use Rattle.captures_text.proofs.Filled.{Filled}
use Rattle.captures_text.proofs.record_lines.Given as goal

abbrev pub invariant-loop-out : goal.invariant-loop-out
invariant-loop-out l = Filled l.«data» l.start l.fn.out l.out l.at l.n

abbrev pub decreases-loop-out : goal.decreases-loop-out
decreases-loop-out l = length l.«data» - l.at
