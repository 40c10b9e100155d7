-- What is written from the buffer is what was read into it.
use Rattle.std.proofs.Common.{arith}
use lib.ListN.{replicate}
use Rattle.blocks.proofs.Pieces.{held}
use Rattle.blocks.proofs.moves.move_piece.Goals as goal

pub returns : goal.returns
returns c =
    let a = c.args in
    held (replicate 2048 0) a.s.now a.to a.s.now a.from a.k c.copy_bytes.ensures c.copy_bytes-2.ensures (omega arith) (omega arith)
