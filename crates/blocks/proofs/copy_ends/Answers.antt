-- The second piece begins among the bytes of the first, or right after them.
use Rattle.std.proofs.Common.{arith, ◌-◌}
use Rattle.blocks.proofs.Pieces.{copied_more}
use Rattle.blocks.proofs.copy_ends.Goals as goal

pub returns : goal.returns
returns c =
    let a = c.args in
    copied_more a.dst.now a.at a.src.now a.from a.k (a.n - a.k) a.k a.n c.copy_piece.ensures c.copy_piece-2.ensures (omega arith)
    (omega arith) (omega arith) (omega arith)
