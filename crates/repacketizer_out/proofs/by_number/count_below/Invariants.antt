use Rattle.repacketizer_out.proofs.Numbered.{Passed}
use Rattle.repacketizer_out.proofs.by_number.count_below.Given as goal

abbrev pub invariant-loop-x : goal.invariant-loop-x
invariant-loop-x l = Passed l.k l.ks l.n l.x-index
