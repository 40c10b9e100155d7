use Rattle.marks.proofs.Finding.{Sought}
use Rattle.marks.proofs.find_from.Given as goal

abbrev pub invariant-loop-at : goal.invariant-loop-at
invariant-loop-at l = Sought l.«data» l.from l.at
