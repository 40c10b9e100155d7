-- All but the first i bytes are moved.
use Rattle.std.proofs.Common.{◌-◌, ◌+◌, ◌≡◌, ◌≤◌, length}
use Rattle.blocks.specs.Blocks.{moved}
use Rattle.blocks.proofs.moves.move_up.Given as goal

abbrev pub invariant-loop-i : goal.invariant-loop-i
invariant-loop-i l = (l.i ≤ l.n) × ((l.s ≡ moved l.fn.s (l.from + l.i) (l.to + l.i) (l.n - l.i)) × (length l.s ≡ length l.fn.s))

abbrev pub decreases-loop-i : goal.decreases-loop-i
decreases-loop-i l = l.i
