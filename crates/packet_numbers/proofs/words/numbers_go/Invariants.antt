use Rattle.std.proofs.Common.{◌≡◌, ◌+◌, ◌-◌, ◌<◌, true, take}
use Rattle.packet_numbers.specs.Numbers.{numbered}
use Rattle.packet_numbers.proofs.words.numbers_go.Given as goal

abbrev pub invariant-loop-i : goal.invariant-loop-i
invariant-loop-i l = (l.i < l.n - 10 + 8) × (numbered (take (l.i + 1) l.ks) ≡ true)

abbrev pub decreases-loop-i : goal.decreases-loop-i
decreases-loop-i l = l.n - l.i
