use Rattle.opus_parts.proofs.AtSizes.{Sizes}
use Rattle.opus_parts.proofs.sizes_at.read_sizes.Given as goal

abbrev pub invariant-loop-i : goal.invariant-loop-i
invariant-loop-i l = Sizes l.s l.k l.lengths l.next l.used l.last l.i
