-- Each part has a byte, and no more than 2 ^ 60 are read.
use Prim.Native.Nat.{◌-◌, ◌^◌}
use Rattle.capture_parts.proofs.Told.{Reads}
use Rattle.compact.proofs.Sharing.{Shares}
use Rattle.compact.proofs.compact.Given as goal

abbrev pub invariant-loop-done : goal.invariant-loop-done
invariant-loop-done l = Reads l.buf l.done l.held × Shares l.all l.done

abbrev pub decreases-loop-done : goal.decreases-loop-done
decreases-loop-done l = 2 ^ 61 - l.done
