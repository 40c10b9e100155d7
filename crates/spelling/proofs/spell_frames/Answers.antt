-- `spelling::spell_frames` meets its contract: where the compact packet is shorter and fits, its header is put, and the frames' block behind it.
use Prim.Native.Nat.{◌+◌}
use native.Mathlib.Omega.{arith}
use mathlib.Core.Path.{◌≡◌}
use mathlib.Core.Bool.{false}
use lib.ListN.{length}
use Rattle.opus_toc.specs.Toc.{upper_six}
use Rattle.opus_header.specs.Sums.{header_of}
use Rattle.opus_header.proofs.Forms.{sums_total, sums_few}
use Rattle.spelling.proofs.Put.{both_long, put_longer, put_cramped, put_compact_lem}
use Rattle.spelling.proofs.spell_frames.Goals as goal
use Rattle.spelling.proofs.spell_frames.Goals.{After-compact_form-form}

-- the header and the frames together are the bytes that were counted
long : (k : After-compact_form-form)
    → length (header_of false (upper_six k.args.toc) k.args.ns.now k.compact_form-form.result) + k.sums_of-m.result.total ≡ k.compact_bytes-need.result
long k =
    both_long (upper_six k.args.toc) k.args.ns.now k.args.packet.now k.args.first k.requires.block k.sums_of-m.result k.sums_of-m.ensures
    k.compact_bytes-need.result k.compact_bytes-need.ensures k.compact_form-form.result k.compact_form-form.ensures

pub compact_bytes-need-requires : goal.compact_bytes-need-requires
compact_bytes-need-requires c =
    sums_few c.args.ns.now c.sums_of-m.result c.sums_of-m.ensures c.requires.some.1 c.requires.some.2

pub returns-then-packet-need : goal.returns-then-packet-need
returns-then-packet-need c =
    let whole = put_longer (upper_six c.args.toc) c.args.ns.now c.args.packet.now c.args.first c.requires.block c.sums_of-m.result c.sums_of-m.ensures
    c.compact_bytes-need.result c.compact_bytes-need.ensures c.args.work.now c.if-packet-need.true in record { taken = whole.0; bytes = whole.1 }

pub returns-then-work-need : goal.returns-then-work-need
returns-then-work-need c =
    let whole = put_cramped (upper_six c.args.toc) c.args.ns.now c.args.packet.now c.args.first c.requires.block c.sums_of-m.result c.sums_of-m.ensures
    c.compact_bytes-need.result c.compact_bytes-need.ensures c.args.work.now c.if-packet-need.false c.if-work-need.true in
    record { taken = whole.0; bytes = whole.1 }

pub put_header-at-requires : goal.put_header-at-requires
put_header-at-requires c =
    record {
      measured = c.sums_of-m.ensures;
      some = c.requires.some;
      room = omega (arith, long (goal.at.put_header-at-requires c).After-compact_form-form, c.if-work-need.false);
    }

pub copy_into-requires : goal.copy_into-requires
copy_into-requires c =
    let sum = sums_total c.args.ns.now c.sums_of-m.ensures in (
      omega (
        arith,
        long (goal.at.copy_into-requires c).After-compact_form-form,
        c.if-work-need.false,
        c.put_header-at.ensures.next,
        c.put_header-at.auto.data,
      ),
      omega (arith, c.requires.block),
    )

pub returns : goal.returns
returns c =
    let whole = put_compact_lem (upper_six c.args.toc) c.args.ns.now c.args.packet.now c.args.first c.requires.block c.sums_of-m.result c.sums_of-m.ensures
    c.compact_bytes-need.result c.compact_bytes-need.ensures c.compact_form-form.result c.compact_form-form.ensures c.args.work.now
    c.if-packet-need.false c.if-work-need.false c.put_header-at.ensures.bytes c.put_header-at.ensures.next c.copy_into.ensures in
    record { taken = whole.0; bytes = whole.1 }
