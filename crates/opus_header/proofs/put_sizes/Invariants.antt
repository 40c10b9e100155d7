use Rattle.opus_header.proofs.Sizes.{Written}
use Rattle.opus_header.proofs.put_sizes.Given as goal

abbrev pub invariant-loop-n : goal.invariant-loop-n
invariant-loop-n l = Written l.initial.data l.at l.ns l.data l.next l.n-index
