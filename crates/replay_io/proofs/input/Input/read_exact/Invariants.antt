-- Each piece lies within the buffer, and none is empty.
use Rattle.std.proofs.Common.{length, ◌-◌, ◌≤◌}
use Rattle.replay_io.proofs.input.Input.read_exact.Given as goal

abbrev pub invariant-loop-done : goal.invariant-loop-done
invariant-loop-done g l = l.done ≤ length l.to

abbrev pub decreases-loop-done : goal.decreases-loop-done
decreases-loop-done g l = length l.initial.to - l.done
