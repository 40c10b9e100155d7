-- `opus::read_body` meets its contract: the padding is read behind the count byte, and the frames up to it.
use Prim.Native.Nat.{◌+◌, ◌≤◌}
use mathlib.Core.Path.{sym, ◌∙◌}
use native.Mathlib.Omega.{arith}
use borrow.Author.Rules.{rules}
use lib.ListN.{length}
use Rattle.opus.proofs.AtPacket.{body_unfit, body_room, body_bytes, body_fits, body_equal, body_unequal}
use Rattle.opus.proofs.Lent.{none-answered}
use Rattle.opus.proofs.read_body.Goals as goal
use Rattle.opus.proofs.read_body.Goals.{In-Some}

-- the padding lengths and the padding lie within the packet
room : (c : In-Some)
    → 2 + c.in-Some.next + c.in-Some.pad ≤ length c.args.«data».now
room c =
    body_room c.args.self_delimited c.args.«data».now c.args.count c.requires.in_bounds.0 _ _
    (sym c.read_padding-padding.ensures ∙ c.in-Some.is)

pub returns-in_default : goal.returns-in_default
returns-in_default c =
    let unfit = body_unfit c.args.self_delimited c.args.«data».now c.args.count (sym c.read_padding-padding.ensures ∙ c.in_default.is) in
    cc (c.broken_head.ensures, unfit)

pub overflow_add-at : goal.overflow_add-at
overflow_add-at c =
    omega (arith, room c, c.requires.in_bounds)

pub overflow_sub-end : goal.overflow_sub-end
overflow_sub-end c =
    omega (arith, room c)

pub slice_bounds-s-count : goal.slice_bounds-s-count
slice_bounds-s-count c =
    omega (arith, room c)

pub packet_at-requires : goal.packet_at-requires
packet_at-requires c =
    omega (
      arith,
      c.requires.in_bounds,
      body_fits c.args.self_delimited c.args.«data».now c.args.count c.requires.in_bounds.0 _ _
          (sym c.read_padding-padding.ensures ∙ c.in-Some.is) c.equal_frames-f.result _ c.equal_frames-f.ensures,
    )

pub returns-then-count_byte-eq0 : goal.returns-then-count_byte-eq0
returns-then-count_byte-eq0 c =
    body_equal c.args.self_delimited c.args.«data».now c.args.count c.requires.in_bounds.0 _ _
    (sym c.read_padding-padding.ensures ∙ c.in-Some.is) c.equal_frames-f.result _ c.equal_frames-f.ensures c.if-count_byte-eq0.true
    c.packet_at.result c.packet_at.ensures

pub unequal_3-requires : goal.unequal_3-requires
unequal_3-requires c =
    let all = body_bytes c.args.self_delimited c.args.«data».now c.args.count c.requires.in_bounds.0 _ _
    (sym c.read_padding-padding.ensures ∙ c.in-Some.is) in record {
      le_count = (c.requires.in_bounds.2, c.requires.in_bounds.3, omega (arith, all, c.requires.in_bounds));
      zeros = c.requires.zeros;
    }

pub returns : goal.returns
returns c =
    body_unequal c.args.self_delimited c.args.«data».now c.args.count c.requires.in_bounds.0 _ _
    (sym c.read_padding-padding.ensures ∙ c.in-Some.is) c.if-count_byte-eq0.false _ c.unequal_3.ensures

pub slice_bounds-s-start : goal.slice_bounds-s-start
slice_bounds-s-start c = let h = room c in search rules
