use Rattle.opus_header.proofs.Counted.{Counted}
use Rattle.opus_header.proofs.sums_of.Given as goal

abbrev pub invariant-loop-n : goal.invariant-loop-n
invariant-loop-n l = Counted l.ns l.total l.fields l.same l.n-index
