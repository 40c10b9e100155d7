-- Each part has a byte, and no more than 2 ^ 60 are read.
use Prim.Native.Nat.{◌-◌, ◌*◌, ◌≤◌, ◌^◌}
use Rattle.capture_survey.specs.Survey.{bytes_in}
use Rattle.capture_parts.proofs.Told.{Reads}
use Rattle.survey.proofs.survey.Given as goal

abbrev pub invariant-loop-done : goal.invariant-loop-done
invariant-loop-done l = Reads l.buf l.done l.held × (bytes_in l.sum ≤ 3 * l.done)

abbrev pub decreases-loop-done : goal.decreases-loop-done
decreases-loop-done l = 2 ^ 61 - l.done
