-- The room left falls.
use Rattle.std.proofs.Common.{◌≡◌, ◌≤◌, ◌-◌, length}
use Rattle.stdio.proofs.read_on.Given as goal

abbrev pub invariant-loop-held : goal.invariant-loop-held
invariant-loop-held g l = (length l.buf ≡ length l.fn.buf) × (l.held ≤ length l.buf) × (l.start ≤ l.held)

abbrev pub decreases-loop-held : goal.decreases-loop-held
decreases-loop-held g l = length l.buf - l.held
