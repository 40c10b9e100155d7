use Rattle.opus_parts.proofs.AtSizes.{Stops}
use Rattle.opus_parts.proofs.sizes_at.break_at.Given as goal

abbrev pub invariant-loop : goal.invariant-loop
invariant-loop l = Stops l.s l.from l.k l.next l.counter
