-- `packet_pad::rewrite` meets its contract: the block moves, then the header goes in front of it and zeros behind it.
use Prim.Native.Nat.{◌+◌, ◌≤◌}
use native.Mathlib.Omega.{arith}
use lib.ListN.{length}
use Rattle.opus_toc.specs.Toc.{upper_six}
use Rattle.opus_header.specs.Header.{pad_bytes}
use Rattle.opus_header.specs.Forms.{missing}
use Rattle.opus_header.proofs.Forms.{sums_few}
use Rattle.packet_pad.proofs.Rewritten.{header-length, parts_fit, rewritten}
use Rattle.packet_pad.proofs.rewrite.Goals as goal
use Rattle.packet_pad.proofs.rewrite.Goals.{After-header_bytes-at}

-- the block where it stands, and each part of the packet, are within the buffer
fit : (c : After-header_bytes-at)
    → let room = length c.args.«data».now in
    (c.args.first + c.args.m.total ≤ room) × (c.header_bytes-at.result + c.args.m.total + pad_bytes (missing c.args.form) ≤ room)
fit c =
    parts_fit c.args.self_delimited (upper_six c.args.toc) c.args.ns.now c.args.m c.args.form c.args.«data».now c.args.first c.header_bytes-at.result
    c.requires.measured
    c.requires.block c.header_bytes-at.ensures c.requires.room

pub header_bytes-at-requires : goal.header_bytes-at-requires
header_bytes-at-requires c =
    ((sums_few c.args.ns.now c.args.m c.requires.measured c.requires.some.1 c.requires.some.2).0, c.requires.few)

pub move_block-requires : goal.move_block-requires
move_block-requires c =
    ((fit (goal.at.move_block-requires c).After-header_bytes-at).0, omega (arith, fit (goal.at.move_block-requires c).After-header_bytes-at))

pub put_header-requires : goal.put_header-requires
put_header-requires c =
    let head =
    header-length c.args.self_delimited (upper_six c.args.toc) c.args.ns.now c.args.m c.args.form c.args.«data».now c.args.first
    c.header_bytes-at.result c.requires.measured
    c.requires.block c.header_bytes-at.ensures in record {
      measured = c.requires.measured;
      some = c.requires.some;
      room = omega (arith, head, fit (goal.at.put_header-requires c).After-header_bytes-at, c.move_block.auto.data);
    }

pub overflow_add-at : goal.overflow_add-at
overflow_add-at c =
    omega (arith, fit (goal.at.overflow_add-at c).After-header_bytes-at)

pub fill-requires : goal.fill-requires
fill-requires c =
    omega (arith, fit (goal.at.fill-requires c).After-header_bytes-at, c.pad_bytes-zeros.ensures, c.put_header.auto.data, c.move_block.auto.data)

pub overflow_add-result : goal.overflow_add-result
overflow_add-result c =
    omega (arith, fit (goal.at.overflow_add-result c).After-header_bytes-at)

pub overflow_add-result-2 : goal.overflow_add-result-2
overflow_add-result-2 c =
    omega (arith, fit (goal.at.overflow_add-result-2 c).After-header_bytes-at, c.pad_bytes-zeros.ensures)

pub returns : goal.returns
returns c =
    let whole = rewritten c.args.self_delimited (upper_six c.args.toc) c.args.ns.now c.args.m c.args.form c.args.«data».now c.args.first
    c.header_bytes-at.result c.requires.measured
    c.requires.block c.header_bytes-at.ensures
    c.move_block.ensures c.put_header.ensures.bytes c.pad_bytes-zeros.ensures c.fill.ensures in record { bytes = whole.0; next = whole.1 }
