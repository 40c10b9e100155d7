use Rattle.std.proofs.Common.{arith, ◌+◌, ◌-◌}
use Rattle.blocks.proofs.Pieces.{moved_prev}
use Rattle.blocks.proofs.moves.move_up.Goals as goal

pub loop-i-preserved : goal.loop-i-preserved
loop-i-preserved c =
    let l = c.loop-i in
    let i = l.i in
    let j = i - 2048 in
    let a = c.args in (
      omega arith,
      (
        moved_prev a.s.now (a.from + j) (a.to + j) (a.n - j) (a.from + i) (a.to + i) (a.n - i) 2048 l.invariant.1.0 c.move_piece.ensures
            (omega arith) (omega arith) (omega arith) (omega arith) (omega arith),
        omega (arith, c.move_piece.auto.s),
      ),
    )

pub returns : goal.returns
returns c =
    let l = c.loop-i in
    let i = l.i in
    let a = c.args in
    moved_prev a.s.now a.from a.to a.n (a.from + i) (a.to + i) (a.n - i) i l.invariant.1.0 c.move_piece-2.ensures (omega arith)
    (omega arith) (omega arith) (omega arith) (omega arith)
