use Rattle.padding.proofs.Words.{Seen}
use Rattle.padding.proofs.dirt_in_word.Given as goal

abbrev pub invariant-loop-b : goal.invariant-loop-b
invariant-loop-b l = Seen l.s l.dirt l.b-index
