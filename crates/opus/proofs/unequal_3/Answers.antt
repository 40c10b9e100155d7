-- `opus::unequal_3` meets its contract: the length fields, then the last frame.
use Prim.Native.Nat.{◌-◌, ◌≤◌}
use mathlib.Core.Path.{sym, ◌∙◌}
use native.Mathlib.Omega.{arith}
use lib.ListN.{length}
use Rattle.opus_defines.specs.declared.Rule.TheVariants.{R7}
use Rattle.opus.proofs.AtPacket.{uneven_place, uneven_cut, uneven_fits, uneven_read}
use Rattle.opus.proofs.Lent.{none-answered}
use Rattle.opus.proofs.unequal_3.Goals as goal
use Rattle.opus.proofs.unequal_3.Goals.{In-Err}

-- the place where the fields break is within the slice
within : (c : In-Err) → c.in-Err.place ≤ length c.args.s.now
within c =
    uneven_place c.args.s.now (c.args.count - 1) _ (sym c.in-Err.is ∙ c.read_sizes-f.ensures.0)

pub overflow_add-at : goal.overflow_add-at
overflow_add-at c =
    record { fits = omega (arith, c.requires.le_count, within c) }

pub broken_head-requires : goal.broken_head-requires
broken_head-requires c =
    omega (arith, c.requires.le_count, within c)

pub last_frame-requires : goal.last_frame-requires
last_frame-requires c =
    record {
      read = (sym c.in-Ok.is ∙ c.read_sizes-f.ensures.0, c.read_sizes-f.ensures.1);
      few = omega (arith, c.requires.le_count);
    }

pub packet_at-requires : goal.packet_at-requires
packet_at-requires c =
    omega (
      arith,
      c.requires.le_count,
      uneven_fits c.args.s.now c.args.self_delimited c.args.toc c.args.count c.args.at c.args.pad c.requires.le_count.0 c.last_frame.result _
          (c.last_frame.ensures R7),
    )

pub returns-in-Err : goal.returns-in-Err
returns-in-Err c =
    none-answered _ _ _ c.broken_head.ensures
    ∙ uneven_cut c.args.s.now c.args.self_delimited c.args.toc c.args.count c.args.at c.args.pad c.requires.le_count.0 _
    (sym c.in-Err.is ∙ c.read_sizes-f.ensures.0)

pub returns-in-Ok : goal.returns-in-Ok
returns-in-Ok c =
    uneven_read c.args.s.now c.args.self_delimited c.args.toc c.args.count c.args.at c.args.pad c.requires.le_count.0 c.last_frame.result _
    (c.last_frame.ensures R7)
    c.packet_at.result c.packet_at.ensures
