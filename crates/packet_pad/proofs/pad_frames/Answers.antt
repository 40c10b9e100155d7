-- `packet_pad::pad_frames` meets its contract: the form that fills the room is rewritten in place.
use Prim.Native.Nat.{◌≤◌}
use native.Mathlib.Omega.{arith}
use mathlib.Core.Bool.{true, false}
use lib.ListN.{length}
use Rattle.opus_toc.specs.Toc.{upper_six}
use Rattle.opus_header.proofs.Forms.{sums_few, compact_bytes_lem}
use Rattle.opus_header.proofs.Standing.{few_missing, padded_room, laid}
use Rattle.packet_pad.proofs.pad_frames.Goals as goal
use Rattle.packet_pad.proofs.pad_frames.Goals.{After-compact_bytes-need}

-- the compact packet fits
need : (c : After-compact_bytes-need) → c.compact_bytes-need.result ≤ c.args.new_len
need c =
    omega (
      arith,
      c.compact_bytes-need.ensures,
      c.requires.room.0,
      compact_bytes_lem false (upper_six c.args.toc) c.args.ns.now c.sums_of-m.result c.sums_of-m.ensures,
    )

pub compact_bytes-need-requires : goal.compact_bytes-need-requires
compact_bytes-need-requires c =
    sums_few c.args.ns.now c.sums_of-m.result c.sums_of-m.ensures c.requires.some.1 c.requires.some.2

pub rewrite-requires : goal.rewrite-requires
rewrite-requires c =
    record {
      measured = c.sums_of-m.ensures;
      some = c.requires.some;
      few = omega (
        arith,
        few_missing (length c.args.ns.now) c.compact_bytes-need.result c.args.new_len true c.form_for-form.result c.form_for-form.ensures,
        c.requires.room.2,
      );
      block = c.requires.block;
      room = padded_room false (upper_six c.args.toc) c.args.ns.now c.args.«data».now c.args.first c.requires.block c.sums_of-m.result c.sums_of-m.ensures
          c.compact_bytes-need.result c.compact_bytes-need.ensures c.args.new_len c.form_for-form.result c.form_for-form.ensures
          (need (goal.at.rewrite-requires c).After-compact_bytes-need) c.requires.room.1;
    }

pub returns : goal.returns
returns c =
    laid false (upper_six c.args.toc) c.args.ns.now c.args.«data».now c.args.first c.requires.block c.sums_of-m.result c.sums_of-m.ensures
    c.compact_bytes-need.result c.compact_bytes-need.ensures c.args.new_len true c.form_for-form.result c.form_for-form.ensures c.rewrite.ensures.bytes

pub form_for-form-requires : goal.form_for-form-requires
form_for-form-requires c =
    need c
