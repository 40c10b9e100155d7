-- `compaction::put_head` meets its contract: five bytes, one behind another.
use native.Mathlib.Omega.{arith}
use lib.ListN.{length-set}
use Rattle.compaction.proofs.Putting.{head_laid}
use Rattle.compaction.proofs.put_head.Goals as goal

pub bounds-dst-at-2 : goal.bounds-dst-at-2
bounds-dst-at-2 c =
    simp length-set (omega arith)

pub bounds-dst-at-3 : goal.bounds-dst-at-3
bounds-dst-at-3 c =
    simp length-set (omega arith)

pub bounds-dst-at-4 : goal.bounds-dst-at-4
bounds-dst-at-4 c =
    simp length-set (omega arith)

pub bounds-dst-at-5 : goal.bounds-dst-at-5
bounds-dst-at-5 c =
    simp length-set (omega arith)

pub returns : goal.returns
returns c =
    head_laid c.args.dst.now c.args.at c.args.line c.args.n
