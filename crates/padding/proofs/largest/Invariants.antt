use Rattle.padding.proofs.Looked.{Most}
use Rattle.padding.proofs.largest.Given as goal

abbrev pub invariant-loop-i : goal.invariant-loop-i
invariant-loop-i l = Most l.s l.most l.i
