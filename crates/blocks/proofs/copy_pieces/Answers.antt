use Rattle.std.proofs.Common.{arith, ◌+◌, ◌-◌}
use Rattle.blocks.proofs.Pieces.{copied_more}
use Rattle.blocks.proofs.copy_pieces.Goals as goal

pub loop-i-preserved : goal.loop-i-preserved
loop-i-preserved c =
    let l = c.loop-i in
    let i = l.i in
    let a = c.args in (
      omega arith,
      (
        copied_more a.dst.now a.at a.src.now a.from i i a.most (i + a.most) l.invariant.1.0 c.copy_piece.ensures (omega arith)
            (omega arith) (omega arith) (omega arith),
        omega arith,
      ),
    )

pub returns : goal.returns
returns c =
    let l = c.loop-i in
    let i = l.i in
    let a = c.args in
    copied_more a.dst.now a.at a.src.now a.from i i (a.n - i) a.n l.invariant.1.0 c.copy_piece-2.ensures (omega arith)
    (omega arith) (omega arith) (omega arith)
