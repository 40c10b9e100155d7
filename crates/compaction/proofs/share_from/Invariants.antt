use Prim.Native.Nat.{◌-◌}
use lib.ListN.{length}
use Rattle.compaction.proofs.Going.{Going}
use Rattle.compaction.proofs.share_from.Given as goal

abbrev pub invariant-loop-dst : goal.invariant-loop-dst
invariant-loop-dst l = Going l.data l.start l.budget l.initial.dst l.dst l.at l.records l.written l.passed

abbrev pub decreases-loop-dst : goal.decreases-loop-dst
decreases-loop-dst l = length l.data - l.at
