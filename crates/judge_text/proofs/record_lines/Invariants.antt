use Prim.Native.Nat.{◌-◌}
use lib.ListN.{length}
use Rattle.judge_text.proofs.Filled.{Filled}
use Rattle.judge_text.proofs.record_lines.Given as goal

abbrev pub invariant-loop-out : goal.invariant-loop-out
invariant-loop-out l = Filled l.data l.start l.initial.t l.initial.out l.out l.at l.n l.t

abbrev pub decreases-loop-out : goal.decreases-loop-out
decreases-loop-out l = length l.data - l.at
