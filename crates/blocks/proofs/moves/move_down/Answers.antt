use Rattle.std.proofs.Common.{arith, ◌+◌, ◌-◌}
use Rattle.blocks.proofs.Pieces.{moved-next}
use Rattle.blocks.proofs.moves.move_down.Goals as goal

pub loop-i-preserved : goal.loop-i-preserved
loop-i-preserved c =
    let l = c.loop-i in
    let i = l.i in
    let a = c.args in (
      omega arith,
      (
        moved-next a.s.now a.from a.to i 2048 (i + 2048) l.invariant.1.0 c.move_piece.ensures (omega arith) (omega arith) (omega arith),
        omega (arith, c.move_piece.auto.s),
      ),
    )

pub returns : goal.returns
returns c =
    let l = c.loop-i in
    let i = l.i in
    let a = c.args in
    moved-next a.s.now a.from a.to i (a.n - i) a.n l.invariant.1.0 c.move_piece-2.ensures (omega arith) (omega arith) (omega arith)
