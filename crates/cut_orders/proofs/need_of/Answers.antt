-- `cut_orders::need_of` meets its contract: by the tests of the code, whatever stands in the store.
use Prim.Native.Nat.{ℕ, ◌≤◌, ◌<◌}
use mathlib.Core.Path.{◌≡◌}
use native.Mathlib.Omega.{arith}
use borrow.Author.Rules.{rules}
use lib.IntN.{pos}
use Rattle.opus_defines.proofs.Counts.{counted, is_natural}
use Rattle.opus_toc.specs.Toc.{upper_six}
use Rattle.opus_header.proofs.Forms.{sums_few}
use Rattle.collector.specs.Collector.{held}
use Rattle.collector.specs.Parts.{bare}
use Rattle.collector.proofs.Held.{Holding, holding}
use Rattle.repacketizer_out.specs.Output.{range}
use Rattle.repacketizer_out.proofs.Ranges.{Part, part_of}
use Rattle.cut_orders.proofs.Effects.{effect_before, effect_under, effect_none, held_past, need_short, need_fits}
use Rattle.cut_orders.proofs.need_of.Goals as goal
use Rattle.cut_orders.proofs.need_of.Goals.{Else-wide-e, In-Some-count_of, Start}

begins : (c : In-Some-count_of) → c.args.begin ≡ pos c.in-Some.b
begins c =
    is_natural c.args.begin _ (counted c.args.begin c.ranges.begin c.count_of.ensures.is c.in-Some.is)

ends : (c : In-Some-count_of) → c.args.end ≡ pos c.in-Some-count_of.e
ends c =
    is_natural c.args.end _ (counted c.args.end c.ranges.end c.count_of-2.ensures.is c.in-Some-count_of.is)

abbrev from : Else-wide-e → ℕ
from c = c.in-Some.b

abbrev to : Else-wide-e → ℕ
to c = c.in-Some-count_of.e

within : (c : Else-wide-e) → to c ≤ c.args.h.nb_frames
within c = omega (arith, c.wide.ensures.0)

part : (c : Else-wide-e) → Part (bare c.args.h c.args.len.now) (from c) (to c)
part c =
    let r = bare c.args.h c.args.len.now in
    part_of r (holding r (search rules) c.requires.0 c.requires.1) (from c) (to c) c.if-e-b.false (within c)

byte : (c : Start) → c.args.h.toc < 256
byte c = search rules

holds : (c : Start) → Holding (bare c.args.h c.args.len.now)
holds c = holding (bare c.args.h c.args.len.now) (byte c) c.requires.0 c.requires.1

pub slice_bounds-sums_of-end : goal.slice_bounds-sums_of-end
slice_bounds-sums_of-end c = (part (goal.at.slice_bounds-sums_of-end c).Else-wide-e).inside

pub returns-in_default : goal.returns-in_default
returns-in_default c =
    let negative = counted c.args.begin c.ranges.begin c.count_of.ensures.is c.in_default.is in record {
      most = omega arith;
      number = λ store dst k. rw (effect_before (upper_six c.args.h.toc) (held (bare c.args.h c.args.len.now) store) c.args.room c.args.begin
          c.args.end negative);
    }

pub returns-in_default-count_of : goal.returns-in_default-count_of
returns-in_default-count_of c =
    let negative = counted c.args.end c.ranges.end c.count_of-2.ensures.is c.in_default-count_of.is in record {
      most = omega arith;
      number = λ store dst k. rw (effect_under (upper_six c.args.h.toc) (held (bare c.args.h c.args.len.now) store) c.args.room c.args.begin
          c.args.end negative);
    }

pub returns-then-e-b : goal.returns-then-e-b
returns-then-e-b c =
    record {
      most = omega arith;
      number = λ store dst j. rw (effect_none (upper_six c.args.h.toc) (held (bare c.args.h c.args.len.now) store) c.args.room
          (begins (goal.at.returns-then-e-b c).In-Some-count_of) (ends (goal.at.returns-then-e-b c).In-Some-count_of)
          c.if-e-b.true);
    }

pub returns-then-wide-e : goal.returns-then-wide-e
returns-then-wide-e c =
    let past : c.args.h.nb_frames < c.in-Some-count_of.e = omega (arith, c.wide.ensures.0) in record {
      most = omega arith;
      number = λ store dst j.
          rw (held_past (bare c.args.h c.args.len.now) (holds (goal.at.returns-then-wide-e c).Start) store j c.args.room
          (begins (goal.at.returns-then-wide-e c).In-Some-count_of) (ends (goal.at.returns-then-wide-e c).In-Some-count_of) c.if-e-b.false past);
    }

pub sums_of-m-requires : goal.sums_of-m-requires
sums_of-m-requires c =
    let p = part (goal.at.sums_of-m-requires c).Else-wide-e in (omega (arith, p.count), omega (arith, p.count, p.few), p.small)

pub compact_bytes-need-requires : goal.compact_bytes-need-requires
compact_bytes-need-requires c =
    let p = part (goal.at.compact_bytes-need-requires c).Else-wide-e in
    sums_few (range (from (goal.at.compact_bytes-need-requires c).Else-wide-e) (to (goal.at.compact_bytes-need-requires c).Else-wide-e)
    c.args.len.now) c.sums_of-m.result c.sums_of-m.ensures (omega (arith, p.count, p.few)) p.small

pub returns-then-room-need : goal.returns-then-room-need
returns-then-room-need c =
    record {
      most = omega arith;
      number = λ store dst j.
          rw (need_short (bare c.args.h c.args.len.now) (holds (goal.at.returns-then-room-need c).Start) store j c.args.room
          (begins (goal.at.returns-then-room-need c).In-Some-count_of) (ends (goal.at.returns-then-room-need c).In-Some-count_of) c.if-e-b.false
          (within (goal.at.returns-then-room-need c).Else-wide-e)
          c.sums_of-m.ensures c.compact_bytes-need.ensures c.if-room-need.true);
    }

pub returns : goal.returns
returns c =
    record {
      most = c.if-room-need.false;
      number = λ store dst j.
          rw (need_fits (bare c.args.h c.args.len.now) (holds (goal.at.returns c).Start) store j c.args.room
          (begins (goal.at.returns c).In-Some-count_of) (ends (goal.at.returns c).In-Some-count_of) c.if-e-b.false (within (goal.at.returns c).Else-wide-e)
          c.sums_of-m.ensures c.compact_bytes-need.ensures c.if-room-need.false);
    }
