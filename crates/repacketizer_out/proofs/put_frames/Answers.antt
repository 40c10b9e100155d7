-- `repacketizer_out::put_frames` meets its contract: the packet of the chosen form, and zeros to the end where padding is asked for.
use Prim.Native.Nat.{◌+◌, ◌≤◌}
use native.Mathlib.Omega.{arith}
use lib.ListN.{length}
use Rattle.opus_toc.specs.Toc.{upper_six}
use Rattle.opus_format.specs.Frames.{total}
use Rattle.opus_header.specs.Sums.{header_of}
use Rattle.opus_header.proofs.Forms.{sums_few}
use Rattle.repacketizer_out.proofs.Put.{put_refused, put_room, put_plain, put_padded}
use Rattle.repacketizer_out.proofs.put_frames.Goals as goal
use Rattle.repacketizer_out.proofs.put_frames.Goals.{After-form_for-form, After-put_packet-end}

-- the header and the frames fit, so they end within the destination
room : (c : After-form_for-form)
    → length (header_of c.args.self_delimited (upper_six c.args.toc) c.args.ns.now c.form_for-form.result) + total c.args.ns.now ≤ length c.args.«data».now
room c =
    put_room c.args.self_delimited c.args.pad (upper_six c.args.toc) c.args.ns.now c.args.store.now c.args.from c.args.«data».now c.requires.block.0
    c.sums_of-m.ensures c.compact_bytes-need.ensures c.if-room-need.false c.form_for-form.ensures

within : (c : After-put_packet-end)
    → c.put_packet-end.result ≤ length c.args.«data».now
within c =
    let room =
    put_room c.args.self_delimited c.args.pad (upper_six c.args.toc) c.args.ns.now c.args.store.now c.args.from c.args.«data».now c.requires.block.0
    c.sums_of-m.ensures c.compact_bytes-need.ensures c.if-room-need.false c.form_for-form.ensures in
    omega (arith, c.put_packet-end.ensures.next, room)

pub compact_bytes-need-requires : goal.compact_bytes-need-requires
compact_bytes-need-requires c =
    sums_few c.args.ns.now c.sums_of-m.result c.sums_of-m.ensures c.requires.some.1 c.requires.some.2

pub returns-then-room-need : goal.returns-then-room-need
returns-then-room-need c =
    let whole = put_refused c.args.self_delimited c.args.pad (upper_six c.args.toc) c.args.ns.now c.args.store.now c.args.from c.args.«data».now
    c.requires.block.0
    c.sums_of-m.ensures c.compact_bytes-need.ensures c.if-room-need.true in record { number = whole.0; bytes = whole.1 }

pub put_packet-end-requires : goal.put_packet-end-requires
put_packet-end-requires c =
    record {
      measured = c.sums_of-m.ensures;
      some = c.requires.some;
      block = c.requires.block.0;
      room = room (goal.at.put_packet-end-requires c).After-form_for-form;
    }

pub overflow_sub-room : goal.overflow_sub-room
overflow_sub-room c =
    within (goal.at.overflow_sub-room c).After-put_packet-end

pub fill-requires : goal.fill-requires
fill-requires c =
    omega (arith, within (goal.at.fill-requires c).After-put_packet-end, c.put_packet-end.auto.data)

pub returns-then-pad : goal.returns-then-pad
returns-then-pad c =
    let whole = put_padded c.args.self_delimited c.args.pad (upper_six c.args.toc) c.args.ns.now c.args.store.now c.args.from c.args.«data».now
    c.requires.block.0
    c.sums_of-m.ensures c.compact_bytes-need.ensures c.if-room-need.false c.form_for-form.ensures c.put_packet-end.ensures.bytes
    c.put_packet-end.ensures.next c.if-pad.true c.fill.ensures in record { number = whole.0; bytes = whole.1 }

pub overflow_cast-result-2 : goal.overflow_cast-result-2
overflow_cast-result-2 c =
    omega (arith, within (goal.at.overflow_cast-result-2 c).After-put_packet-end, c.requires.block.1)

pub returns : goal.returns
returns c =
    let whole = put_plain c.args.self_delimited c.args.pad (upper_six c.args.toc) c.args.ns.now c.args.store.now c.args.from c.args.«data».now
    c.requires.block.0
    c.sums_of-m.ensures c.compact_bytes-need.ensures c.if-room-need.false c.form_for-form.ensures c.put_packet-end.ensures.bytes
    c.put_packet-end.ensures.next c.if-pad.false in record { number = whole.0; bytes = whole.1 }
