use Prim.Native.Nat.{◌-◌}
use lib.ListN.{length}
use Rattle.sameness.proofs.Looking.{Looking}
use Rattle.sameness.proofs.same_records.Given as goal

abbrev pub invariant-loop-r : goal.invariant-loop-r
invariant-loop-r l = Looking l.data l.new l.at l.to l.records

abbrev pub decreases-loop-r : goal.decreases-loop-r
decreases-loop-r l = length l.data - l.at
