-- `repacketizer_out::put_packet` meets its contract: the header, and the frames' block behind it.
use native.Mathlib.Omega.{arith}
use Rattle.opus_toc.specs.Toc.{upper_six}
use Rattle.opus_header.specs.Sums.{header_of}
use Rattle.opus_header.proofs.Forms.{sums_total}
use Rattle.repacketizer_out.proofs.Put.{put_block}
use Rattle.repacketizer_out.proofs.put_packet.Goals as goal

pub returns : goal.returns
returns c =
    let whole = put_block c.args.«data».now (header_of c.args.self_delimited (upper_six c.args.toc) c.args.ns.now c.args.form) c.args.store.now
    c.args.from c.args.ns.now c.requires.measured
    c.put_header-at.ensures.bytes c.put_header-at.ensures.next c.copy_into.ensures in record { bytes = whole.0; next = whole.1 }

pub copy_into-requires : goal.copy_into-requires
copy_into-requires c =
    let sum = sums_total c.args.ns.now c.requires.measured in
    (omega (arith, sum, c.put_header-at.ensures.next, c.put_header-at.auto.«data», c.requires.room), omega (arith, sum, c.requires.block))

pub overflow_add-result : goal.overflow_add-result
overflow_add-result c =
    let sum = sums_total c.args.ns.now c.requires.measured in
    record { fits = omega (arith, sum, c.put_header-at.ensures.next, c.requires.room, c.well_formed) }
