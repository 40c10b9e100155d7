-- `repacketizer_out::out_frames` meets its contract: the range of the lengths held, and where its frames stand in the store.
use Prim.Native.Nat.{◌≤◌, ◌<◌}
use mathlib.Core.Path.{◌≡◌, sym}
use native.Mathlib.Omega.{arith}
use borrow.Author.Rules.{rules}
use lib.ListN.{take}
use lib.Seq.{length-take-le}
use Rattle.opus_defines.specs.declared.Refusal.TheVariants.{BadArg}
use Rattle.opus_toc.specs.Toc.{upper_six}
use Rattle.opus_format.specs.Frames.{total}
use Rattle.collector.specs.Collector.{held}
use Rattle.collector.specs.Parts.{bare}
use Rattle.collector.proofs.Held.{Holding, holding}
use Rattle.repacketizer_out.proofs.Ranges.{Part, part_of, part_from_lem}
use Rattle.opus_defines.proofs.Outcomes.{meets_number}
use Rattle.repacketizer_out.proofs.Outputs.{refused_as, frames_none, held_past, held-within}
use Rattle.repacketizer_out.proofs.out_frames.Goals as goal
use Rattle.repacketizer_out.proofs.out_frames.Goals.{After-wide, Else-n-end, Start}

-- the collector is as the code can have it
byte : (c : Start) → c.args.h.toc < 256
byte c = search rules

holds : (c : Start) → Holding (bare c.args.h c.args.len.now)
holds c = holding (bare c.args.h c.args.len.now) (byte c) c.requires.collector.0 c.requires.collector.1

-- the range is within the frames held
within : (c : Else-n-end) → c.args.end ≤ c.args.h.nb_frames
within c = omega (arith, c.wide-n.ensures.0)

part : (c : Else-n-end) → Part (bare c.args.h c.args.len.now) c.args.begin c.args.end
part c =
    part_of (bare c.args.h c.args.len.now) (holding (bare c.args.h c.args.len.now) (search rules) c.requires.collector.0 c.requires.collector.1)
    c.args.begin c.args.end c.if-end-begin.false (within c)

-- where it begins
from : (c : After-wide)
    → c.wide.result ≡ total (take c.args.begin c.args.len.now)
from c =
    let r = bare c.args.h c.args.len.now in
    let p =
    part_of r (holding r (search rules) c.requires.collector.0 c.requires.collector.1) c.args.begin c.args.end c.if-end-begin.false
    (omega (arith, c.wide-n.ensures.0)) in
    part_from_lem p c.total_16-before.ensures c.wide.ensures.0

pub returns-then-end-begin : goal.returns-then-end-begin
returns-then-end-begin c =
    let whole = refused_as BadArg
    (frames_none c.args.self_delimited c.args.pad (upper_six c.args.h.toc) (held (bare c.args.h c.args.len.now) c.args.store.now) c.args.«data».now
    c.args.begin c.args.end c.if-end-begin.true) in record { number = whole.0; bytes = whole.1 }

pub returns-then-n-end : goal.returns-then-n-end
returns-then-n-end c =
    let whole = refused_as BadArg
    (held_past c.args.self_delimited c.args.pad (bare c.args.h c.args.len.now) c.args.store.now c.args.«data».now
    (holds (goal.at.returns-then-n-end c).Start) c.args.begin c.args.end
    c.if-end-begin.false (omega (arith, c.wide-n.ensures.0))) in record { number = whole.0; bytes = whole.1 }

pub slice_bounds-total_16-end : goal.slice_bounds-total_16-end
slice_bounds-total_16-end c =
    sym (length-take-le c.args.begin c.args.len.now (omega (arith, (part c).inside)))

pub put_frames-requires : goal.put_frames-requires
put_frames-requires c =
    let p = part (goal.at.put_frames-requires c).Else-n-end in record {
      some = (omega (arith, p.count), omega (arith, p.count, p.few), p.small);
      block = (omega (arith, from (goal.at.put_frames-requires c).After-wide, p.block, c.requires.buffers.0), c.requires.buffers.1);
    }

pub returns : goal.returns
returns c =
    let whole = meets_number
    (held-within c.args.self_delimited c.args.pad (bare c.args.h c.args.len.now) c.args.store.now c.args.«data».now (holds (goal.at.returns c).Start)
    c.args.begin c.args.end
    c.if-end-begin.false (within (goal.at.returns c).Else-n-end) (from (goal.at.returns c).After-wide))
    c.put_frames.ensures.number c.put_frames.ensures.bytes in record { number = whole.0; bytes = whole.1 }

pub slice_bounds-put_frames-end : goal.slice_bounds-put_frames-end
slice_bounds-put_frames-end c = (part (goal.at.slice_bounds-put_frames-end c).Else-n-end).inside
