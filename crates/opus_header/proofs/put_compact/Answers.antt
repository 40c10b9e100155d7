-- `opus_header::put_compact` meets its contract: the compact header is put, and the frames' block behind it.
use Prim.Native.Nat.{◌+◌}
use native.Mathlib.Omega.{arith}
use mathlib.Core.Path.{◌≡◌}
use lib.ListN.{length, drop}
use Rattle.opus_toc.specs.Toc.{upper_six}
use Rattle.opus_format.specs.Frames.{cut}
use Rattle.opus_header.specs.Compact.{compact}
use Rattle.opus_header.specs.Sums.{header_of}
use Rattle.opus_header.proofs.Forms.{sums_total}
use Rattle.opus_header.proofs.Behind.{both_long, put_small, put_compact_lem}
use Rattle.opus_header.proofs.put_compact.Goals as goal
use Rattle.opus_header.proofs.put_compact.Goals.{After-compact_form-form}

-- the header and the frames together are the compact packet's bytes
long : (k : After-compact_form-form)
    → length (header_of k.args.self_delimited (upper_six k.args.toc) k.args.ns.now k.compact_form-form.result) + k.sums_of-m.result.total
    ≡ length (compact k.args.self_delimited (upper_six k.args.toc) (cut k.args.ns.now (drop k.args.first k.args.«data».now)))
long k =
    both_long k.args.self_delimited (upper_six k.args.toc) k.args.ns.now k.args.«data».now k.args.first k.requires.block k.sums_of-m.result k.sums_of-m.ensures
    k.compact_form-form.result k.compact_form-form.ensures

pub put_header-at-requires : goal.put_header-at-requires
put_header-at-requires c =
    record {
      measured = c.sums_of-m.ensures;
      some = c.requires.some;
      room = omega (arith, long (goal.at.put_header-at-requires c).After-compact_form-form, c.requires.room);
    }

pub copy_into-requires : goal.copy_into-requires
copy_into-requires c =
    let sum = sums_total c.args.ns.now c.sums_of-m.ensures in (
      omega (
        arith,
        long (goal.at.copy_into-requires c).After-compact_form-form,
        c.requires.room,
        c.put_header-at.ensures.next,
        c.put_header-at.auto.data,
      ),
      omega (arith, c.requires.block),
    )

pub overflow_add-result : goal.overflow_add-result
overflow_add-result c =
    let small = put_small c.args.self_delimited (upper_six c.args.toc) c.args.ns.now c.args.«data».now c.args.first c.requires.block
    c.sums_of-m.result c.sums_of-m.ensures
    c.compact_form-form.result c.compact_form-form.ensures c.requires.some.1 c.requires.some.2 in
    omega (arith, long (goal.at.overflow_add-result c).After-compact_form-form, c.put_header-at.ensures.next, small)

pub returns : goal.returns
returns c =
    let whole = put_compact_lem c.args.self_delimited (upper_six c.args.toc) c.args.ns.now c.args.«data».now c.args.first c.requires.block
    c.sums_of-m.result c.sums_of-m.ensures
    c.compact_form-form.result c.compact_form-form.ensures c.args.dst.now c.put_header-at.ensures.bytes c.put_header-at.ensures.next
    c.copy_into.ensures in record { bytes = whole.0; next = whole.1 }
