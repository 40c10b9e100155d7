use Rattle.opus_parts.proofs.AtPadding.{Chain}
use Rattle.opus_parts.proofs.padding_at.read_chain.Given as goal

abbrev pub invariant-loop-at : goal.invariant-loop-at
invariant-loop-at l = Chain l.s l.pad l.at
