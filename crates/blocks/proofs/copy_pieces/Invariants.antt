-- The first i bytes are copied.
use Rattle.std.proofs.Common.{◌-◌, ◌≡◌, ◌≤◌, length}
use Rattle.blocks.specs.Blocks.{copied}
use Rattle.blocks.proofs.copy_pieces.Given as goal

abbrev pub invariant-loop-i : goal.invariant-loop-i
invariant-loop-i l = (l.i ≤ l.n) × ((l.dst ≡ copied l.fn.dst l.at l.src l.from l.i) × (length l.dst ≡ length l.fn.dst))

abbrev pub decreases-loop-i : goal.decreases-loop-i
decreases-loop-i l = l.n - l.i
