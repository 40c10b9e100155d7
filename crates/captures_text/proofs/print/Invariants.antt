-- Each part moves on. The measure is the bytes left.
use Rattle.std.proofs.Common.{◌≡◌, ◌-◌, length}
use Rattle.captures_text.proofs.print.Given as goal

abbrev pub invariant-loop-at : goal.invariant-loop-at
invariant-loop-at l = length l.out ≡ 4096

abbrev pub decreases-loop-at : goal.decreases-loop-at
decreases-loop-at l = length l.«data» - l.at
