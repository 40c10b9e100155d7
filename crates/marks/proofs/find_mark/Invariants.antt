use Prim.Native.Nat.{◌-◌}
use lib.ListN.{length}
use Rattle.marks.proofs.Finding.{Sought}
use Rattle.marks.proofs.find_mark.Given as goal

abbrev pub invariant-loop-place : goal.invariant-loop-place
invariant-loop-place l = Sought l.data l.at l.place

abbrev pub decreases-loop-place : goal.decreases-loop-place
decreases-loop-place l = length l.data - l.place
