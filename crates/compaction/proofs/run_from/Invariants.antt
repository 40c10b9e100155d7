use Prim.Native.Nat.{◌-◌}
use lib.ListN.{length}
use Rattle.compaction.proofs.Running.{Found}
use Rattle.compaction.proofs.run_from.Given as goal

abbrev pub invariant-loop-n : goal.invariant-loop-n
invariant-loop-n l = Found l.data l.at l.left l.end l.records l.n

abbrev pub decreases-loop-n : goal.decreases-loop-n
decreases-loop-n l = length l.data - l.end
