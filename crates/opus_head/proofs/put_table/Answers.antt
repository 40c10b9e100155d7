-- `opus_head::put_table` meets its contract: two stores and a copy are one run.
use native.Mathlib.Omega.{arith}
use mathlib.Core.Path.{◌∙◌}
use lib.ListN.{length-set}
use Rattle.opus_head.proofs.put_table.Goals as goal

pub shape_of-dst : goal.shape_of-dst
shape_of-dst c =
    c.copy_into.auto.dst ∙ simp length-set

pub bounds-dst-20 : goal.bounds-dst-20
bounds-dst-20 c =
    simp length-set (omega arith)
