-- `opus_header::put_full` meets its contract: two bytes, and the chain behind them.
use native.Mathlib.Omega.{arith}
use mathlib.Core.Path.{◌∙◌}
use lib.Dec.{eqb}
use lib.ListN.{length-set}
use Rattle.opus_toc.specs.Toc.{upper_six}
use Rattle.opus_header.proofs.Put.{flag_most, put_full}
use Rattle.opus_header.proofs.put_full.Goals as goal

pub overflow_add-flags : goal.overflow_add-flags
overflow_add-flags c =
    omega (arith, flag_most c.args.same, flag_most (eqb c.args.missing 0))

pub overflow_add-data-2 : goal.overflow_add-data-2
overflow_add-data-2 c =
    omega (arith, flag_most c.args.same, flag_most (eqb c.args.missing 0))

pub overflow_cast-data : goal.overflow_cast-data
overflow_cast-data c =
    omega (arith, flag_most c.args.same, flag_most (eqb c.args.missing 0))

pub bounds-data-1 : goal.bounds-data-1
bounds-data-1 c =
    simp length-set (omega arith)

pub put_chain-requires : goal.put_chain-requires
put_chain-requires c =
    simp length-set (omega arith)

pub shape_of-data : goal.shape_of-data
shape_of-data c =
    c.put_chain.auto.data ∙ simp length-set

pub returns : goal.returns
returns c =
    let whole = put_full c.args.«data».now (upper_six c.args.toc) c.args.count c.args.same c.args.missing c.unequal_flag.ensures c.padding_flag.ensures
    c.put_chain.ensures.bytes c.put_chain.ensures.next in record { bytes = whole.0; next = whole.1 }
