-- `opus_header::put_header` meets its contract: the front, the length fields, and the self-delimited form's length, one behind another.
use native.Mathlib.Omega.{arith}
use mathlib.Core.Path.{sym, ◌∙◌}
use Prim.Native.Nat.{◌-◌, ◌≤◌}
use lib.ListN.{length}
use lib.Seq.{length-take-le}
use Rattle.opus_toc.specs.Toc.{upper_six}
use Rattle.opus_format.proofs.Lengths.{longest-take}
use Rattle.opus_header.proofs.Put.{Middle, front_room, fields_room, middle_same, middle_differ, middle_length, own_room, put_own, put_end}
use Rattle.opus_header.proofs.put_header.Goals as goal
use Rattle.opus_header.proofs.put_header.Goals.{Joined-not-same, then-not-same, else-not-same}

-- where the ways to the second `if` meet
middle : (c : Joined-not-same)
    → Middle c.args.«data».now (upper_six c.args.toc) c.args.ns.now c.args.form c.args.m c.if-not-same.«data» c.if-not-same.at
middle c =
    elim c.if-not-same.branch [
      | then-not-same w ↦ middle_differ (upper_six c.args.toc) c.args.ns.now c.args.form c.args.m c.requires.measured c.args.«data».now
          c.put_front-at.ensures.bytes c.put_front-at.ensures.next w.if-not-same.true
          (rw w.data-is w.put_sizes-at.ensures.bytes) (rw w.at-is w.put_sizes-at.ensures.next)
      | else-not-same w ↦ middle_same (upper_six c.args.toc) c.args.ns.now c.args.form c.args.m c.requires.measured c.args.«data».now
          (rw w.data-is c.put_front-at.ensures.bytes) (rw w.at-is c.put_front-at.ensures.next) w.if-not-same.false
    ]

pub put_front-at-requires : goal.put_front-at-requires
put_front-at-requires c = (
  c.requires.some.1,
  front_room (upper_six c.args.toc) c.args.ns.now c.args.form c.args.m c.requires.measured c.args.self_delimited
      c.args.«data».now c.requires.room,
)

pub put_size-at-requires : goal.put_size-at-requires
put_size-at-requires c =
    own_room (middle (goal.at.put_size-at-requires c).Joined-not-same) c.requires.measured c.args.self_delimited c.if-self_delimited.true
    c.requires.some.0 c.requires.some.2 c.requires.room

pub shape_of-data-then-self_delimited : goal.shape_of-data-then-self_delimited
shape_of-data-then-self_delimited c =
    c.put_size-at.auto.data ∙ middle_length (middle (goal.at.shape_of-data-then-self_delimited c).Joined-not-same)

pub returns-then-self_delimited : goal.returns-then-self_delimited
returns-then-self_delimited c =
    let whole = put_own (middle (goal.at.returns-then-self_delimited c).Joined-not-same) c.requires.measured c.args.self_delimited
    c.if-self_delimited.true c.put_size-at.ensures.bytes c.put_size-at.ensures.next in record { bytes = whole.0; next = whole.1 }

pub shape_of-data-else-self_delimited : goal.shape_of-data-else-self_delimited
shape_of-data-else-self_delimited c =
    middle_length (middle (goal.at.shape_of-data-else-self_delimited c).Joined-not-same)

pub returns-else-self_delimited : goal.returns-else-self_delimited
returns-else-self_delimited c =
    let whole = put_end (middle (goal.at.returns-else-self_delimited c).Joined-not-same) c.requires.measured c.args.self_delimited
    c.if-self_delimited.false in record { bytes = whole.0; next = whole.1 }

pub slice_bounds-put_sizes-length : goal.slice_bounds-put_sizes-length
slice_bounds-put_sizes-length c =
    sym (length-take-le (length c.args.ns.now - 1) c.args.ns.now (omega arith))

pub put_sizes-at-requires : goal.put_sizes-at-requires
put_sizes-at-requires c =
    let most : length c.args.ns.now - 1 ≤ length c.args.ns.now = omega arith in (
      omega (arith, longest-take c.args.ns.now (length c.args.ns.now - 1), c.requires.some.2),
      fields_room (upper_six c.args.toc) c.args.ns.now c.args.form c.args.m c.requires.measured c.args.«data».now
          c.put_front-at.ensures.bytes c.put_front-at.ensures.next c.if-not-same.true c.args.self_delimited c.requires.room c.put_front-at.auto.data,
    )
