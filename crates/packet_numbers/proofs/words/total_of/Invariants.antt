-- The invariant: four sums of the lengths passed, none of which is long.
use Rattle.std.proofs.Common.{◌*◌}
use Rattle.packet_numbers.proofs.Lanes.{Sums}
use Rattle.packet_numbers.proofs.words.total_of.Given as goal

abbrev pub invariant-loop-k : goal.invariant-loop-k
invariant-loop-k l = Sums l.ns l.sum (8 * l.k)
