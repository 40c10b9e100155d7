-- Each part has a byte, and no more than 2 ^ 60 are read.
use Prim.Native.Nat.{◌-◌, ◌≤◌, ◌^◌}
use lib.ListN.{length}
use Rattle.capture_parts.proofs.Told.{Reads}
use Rattle.same.proofs.compare.Given as goal

abbrev pub invariant-loop-done : goal.invariant-loop-done
invariant-loop-done g l = Reads l.buf l.done l.held × (l.left ≤ length l.new) × (l.records ≤ l.done)

abbrev pub decreases-loop-done : goal.decreases-loop-done
decreases-loop-done g l = 2 ^ 61 - l.done
