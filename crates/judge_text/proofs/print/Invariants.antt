use Rattle.std.proofs.Common.{false}
use Rattle.judge_text.proofs.Parts.{left}
use Rattle.judge_text.proofs.Ends.{Going}
use Rattle.judge_text.proofs.print.Given as goal

abbrev pub invariant-parts : goal.invariant-parts
invariant-parts l = Going l.data l.out l.at l.t

abbrev pub decreases-parts : goal.decreases-parts
decreases-parts l = left l.data false l.at
