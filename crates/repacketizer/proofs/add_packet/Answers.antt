-- `repacketizer::add_packet` meets its contract: what was read of one frame or two is added, and any other packet is asked for dirt and read whole.
use mathlib.Core.List.{[], ◌∷◌}
use native.Mathlib.Omega.{arith}
use Rattle.opus.proofs.AtShort.{ShortRead, one_read, two_read}
use Rattle.collector.specs.Parts.{collector_of}
use Rattle.repacketizer.proofs.StrictAdds.{by_short}
use Rattle.repacketizer.proofs.add_packet.Goals as goal
use Rattle.repacketizer.proofs.add_packet.Goals.{In-One, In-Two}

one : (c : In-One)
    → ShortRead c.args.«data».now (c.in-One.n ∷ []) c.in-One.first
one c =
    one_read c.args.«data».now record { byte = λ i. (c.type_inv.«data» i).fits } c.short_at-s.result c.short_at-s.ensures _ _ c.in-One.is

two : (c : In-Two)
    → ShortRead c.args.«data».now (c.in-Two.m ∷ c.in-Two.n ∷ []) c.in-Two.first
two c =
    two_read c.args.«data».now record { byte = λ i. (c.type_inv.«data» i).fits } c.short_at-s.result c.short_at-s.ensures _ _ _ c.in-Two.is

pub returns-then-self_delimited : goal.returns-then-self_delimited
returns-then-self_delimited c =
    rw c.if-self_delimited.true c.add_by.ensures

pub bounds-data-0 : goal.bounds-data-0
bounds-data-0 c =
    let f = (one (goal.at.bounds-data-0 c).In-One).known in
    omega (arith, f.headed, f.block, f.within)

pub add_one-requires : goal.add_one-requires
add_one-requires c =
    let f = (one (goal.at.add_one-requires c).In-One).known in record {
      collector = c.requires;
      frames = (f.small, omega (arith, f.block, f.within));
    }

pub returns-in-One : goal.returns-in-One
returns-in-One c =
    let rp = collector_of c.args.h c.args.len.now c.args.packet.now in
    rw (
      c.if-self_delimited.false,
      by_short c.args.strict rp c.args.«data».now c.args.store.now (record { byte = λ i. (c.type_inv.«data» i).fits })
          (one (goal.at.returns-in-One c).In-One),
    ) c.add_one.ensures

pub bounds-data-0-in-Two : goal.bounds-data-0-in-Two
bounds-data-0-in-Two c =
    let f = (two (goal.at.bounds-data-0-in-Two c).In-Two).known in
    omega (arith, f.headed, f.block, f.within)

pub add_two-requires : goal.add_two-requires
add_two-requires c =
    let f = (two (goal.at.add_two-requires c).In-Two).known in record {
      collector = c.requires;
      frames = (f.small, omega (arith, f.block, f.within));
    }

pub returns-in-Two : goal.returns-in-Two
returns-in-Two c =
    let rp = collector_of c.args.h c.args.len.now c.args.packet.now in
    rw (
      c.if-self_delimited.false,
      by_short c.args.strict rp c.args.«data».now c.args.store.now (record { byte = λ i. (c.type_inv.«data» i).fits })
          (two (goal.at.returns-in-Two c).In-Two),
    ) c.add_two.ensures

pub returns-in_default : goal.returns-in_default
returns-in_default c =
    rw c.if-self_delimited.false c.add_by-in_default.ensures
