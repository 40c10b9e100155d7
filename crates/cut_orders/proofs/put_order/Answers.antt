-- `cut_orders::put_order` meets its contract: it is the single output into a part of the destination.
use Prim.Native.Nat.{◌-◌, ◌≤◌, ◌<◌}
use mathlib.Core.Path.{◌≡◌}
use native.Mathlib.Omega.{arith}
use borrow.Author.Rules.{rules}
use lib.ListN.{length}
use Rattle.opus_toc.specs.Toc.{upper_six}
use Rattle.collector.specs.Collector.{held}
use Rattle.collector.specs.Parts.{bare}
use Rattle.collector.proofs.Held.{Holding, holding}
use Rattle.repacketizer_out.proofs.Ranges.{length-held}
use Rattle.cut_orders.proofs.Puts.{Taken, taken, passed_fits, passed_range, passed_room, put_part_lem, put_fits}
use Rattle.cut_orders.proofs.put_order.Goals as goal
use Rattle.cut_orders.proofs.put_order.Goals.{After-put_range-arg-1, Start}

byte : (c : Start) → c.args.h.toc < 256
byte c = search rules

long : (c : After-put_range-arg-1) → length c.args.len.now ≡ 48
long c = search rules

holds : (c : After-put_range-arg-1) → Holding (bare c.args.h c.args.len.now)
holds c = holding (bare c.args.h c.args.len.now) (search rules) (long c) c.requires.collector

-- the order is not refused
takes : (c : After-put_range-arg-1)
    → Taken (upper_six c.args.h.toc) (held (bare c.args.h c.args.len.now) c.args.store.now) (length c.args.«data».now - c.args.at) c.args.begin c.args.end
takes c =
    taken (upper_six c.args.h.toc) (held (bare c.args.h c.args.len.now) c.args.store.now) (length c.args.«data».now - c.args.at) c.args.begin
    c.args.end c.requires.taken

few : (c : After-put_range-arg-1) → length (held (bare c.args.h c.args.len.now) c.args.store.now) ≤ c.args.h.nb_frames
few c = omega (arith, length-held (bare c.args.h c.args.len.now) c.args.store.now (holds c))

pub overflow_cast-begin : goal.overflow_cast-begin
overflow_cast-begin c =
    let t = takes c in
    passed_fits c.ranges.begin t.begins (omega (arith, t.some, t.within, few c, (holds c).few))

pub overflow_cast-end : goal.overflow_cast-end
overflow_cast-end c =
    let t = takes c in
    passed_fits c.ranges.end t.ends (omega (arith, t.within, few c, (holds c).few))

pub put_range-n-requires : goal.put_range-n-requires
put_range-n-requires c =
    let frames = held (bare c.args.h c.args.len.now) c.args.store.now in
    let r = passed_range (upper_six c.args.h.toc) frames c.ranges.begin c.ranges.end c.args.«data».now c.args.at
    (takes (goal.at.put_range-n-requires c).After-put_range-arg-1) in record {
      collector = (long (goal.at.put_range-n-requires c).After-put_range-arg-1, c.requires.collector);
      range = (r.0, omega (arith, r.1, few (goal.at.put_range-n-requires c).After-put_range-arg-1));
      store = c.requires.buffers.0;
      room = passed_room (upper_six c.args.h.toc) frames c.ranges.begin c.ranges.end c.args.«data».now c.args.at
          (takes (goal.at.put_range-n-requires c).After-put_range-arg-1);
    }

pub overflow_cast-result : goal.overflow_cast-result
overflow_cast-result c =
    let frames = held (bare c.args.h c.args.len.now) c.args.store.now in
    let room = passed_room (upper_six c.args.h.toc) frames c.ranges.begin c.ranges.end c.args.«data».now c.args.at
    (takes (goal.at.overflow_cast-result c).After-put_range-arg-1) in
    put_fits c.args.«data».now c.args.at c.put_range-n.ensures.length room c.requires.buffers.1

pub returns : goal.returns
returns c =
    let whole = put_part_lem (upper_six c.args.h.toc) (held (bare c.args.h c.args.len.now) c.args.store.now) c.ranges.begin c.ranges.end
    c.args.«data».now c.args.at (takes (goal.at.returns c).After-put_range-arg-1)
    c.put_range-n.ensures.length c.put_range-n.ensures.bytes in record { length = whole.0; bytes = whole.1 }
