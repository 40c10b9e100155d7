-- `cut_orders::put_range` meets its contract: the range of the lengths held, and where its frames stand in the store.
use Prim.Native.Nat.{◌<◌}
use mathlib.Core.Path.{◌≡◌, sym}
use native.Mathlib.Omega.{arith}
use borrow.Author.Rules.{rules}
use lib.ListN.{take}
use lib.Seq.{length-take-le}
use Rattle.opus_toc.specs.Toc.{upper_six}
use Rattle.opus_format.specs.Frames.{total}
use Rattle.collector.specs.Parts.{bare}
use Rattle.collector.proofs.Held.{Holding, holding}
use Rattle.repacketizer_out.proofs.Ranges.{Part, part_of, part_from_lem}
use Rattle.cut_orders.proofs.Puts.{range_room, range_put}
use Rattle.cut_orders.proofs.put_range.Goals as goal
use Rattle.cut_orders.proofs.put_range.Goals.{After-wide, Start}

byte : (c : Start) → c.args.h.toc < 256
byte c = search rules

part : (c : Start) → Part (bare c.args.h c.args.len.now) c.args.b c.args.e
part c =
    let holds : Holding (bare c.args.h c.args.len.now) = holding (bare c.args.h c.args.len.now) (byte c) c.requires.collector.0 c.requires.collector.1 in
    part_of (bare c.args.h c.args.len.now) holds c.args.b c.args.e c.requires.range.0 c.requires.range.1

-- where it begins
from : (c : After-wide) → c.wide.result ≡ total (take c.args.b c.args.len.now)
from c =
    let r = bare c.args.h c.args.len.now in
    let p =
    part_of r (holding r (search rules) c.requires.collector.0 c.requires.collector.1) c.args.b c.args.e c.requires.range.0 c.requires.range.1 in
    part_from_lem p c.total_16-before.ensures c.wide.ensures.0

pub put_compact-requires : goal.put_compact-requires
put_compact-requires c =
    let p = part (goal.at.put_compact-requires c).Start in record {
      some = (omega (arith, p.count, c.requires.range.0), omega (arith, p.count, p.few), p.small);
      block = omega (arith, from c, p.block, c.requires.store);
      room = range_room p c.args.store.now (from c) (upper_six c.args.h.toc) c.requires.room;
    }

pub returns : goal.returns
returns c =
    let whole = range_put (part (goal.at.returns c).Start) c.args.store.now (from (goal.at.returns c).After-wide) (upper_six c.args.h.toc)
    c.args.«data».now c.put_compact.ensures.next c.put_compact.ensures.bytes in record { length = whole.0; bytes = whole.1 }

pub slice_bounds-total_16-end : goal.slice_bounds-total_16-end
slice_bounds-total_16-end c =
    sym (length-take-le c.args.b c.args.len.now (omega (arith, (part (goal.at.slice_bounds-total_16-end c).Start).inside, c.requires.range.0)))

pub slice_bounds-put_compact-end : goal.slice_bounds-put_compact-end
slice_bounds-put_compact-end c = (part (goal.at.slice_bounds-put_compact-end c).Start).inside
