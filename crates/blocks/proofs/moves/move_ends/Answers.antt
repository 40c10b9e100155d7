-- The second piece, read before the first was written, begins among the bytes of the first, or right after them.
use Rattle.std.proofs.Common.{arith, ◌+◌, ◌-◌}
use lib.ListN.{replicate}
use Rattle.blocks.proofs.Pieces.{held, copied_more}
use Rattle.blocks.proofs.moves.move_ends.Goals as goal

pub returns : goal.returns
returns c =
    let a = c.args in
    let last =
    held (replicate 64 0) _ (a.to + (a.n - a.k)) a.s.now (a.from + (a.n - a.k)) a.k c.copy_bytes.ensures
    c.copy_bytes-2.ensures (omega arith) (omega arith) in
    copied_more a.s.now a.to a.s.now a.from a.k (a.n - a.k) a.k a.n c.move_piece.ensures last (omega arith) (omega arith)
    (omega arith) (omega arith)
