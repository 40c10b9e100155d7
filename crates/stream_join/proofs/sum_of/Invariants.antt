use Rattle.stream_join.proofs.Surveyed.{Summing}
use Rattle.stream_join.proofs.sum_of.Given as goal

abbrev pub invariant-loop-n : goal.invariant-loop-n
invariant-loop-n l = Summing l.lengths l.sum l.n-index
