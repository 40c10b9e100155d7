-- `sameness::same_frames` meets its contract: both packets are read, and what was read is held against each other.
use Prim.Native.Nat.{◌+◌, ◌≤◌}
use native.Mathlib.Omega.{arith}
use mathlib.Core.Path.{sym}
use borrow.Author.Rules.{rules}
use lib.ListN.{length}
use lib.Seq.{length-take-le}
use Rattle.opus.proofs.Lent.{lent_accepted, lent_refused}
use Rattle.sameness.proofs.Alike.{Taken, taken, unread, first_unread, second_unread, six_apart, lengths-apart, blocks-within, blocks-told}
use Rattle.sameness.proofs.same_frames.Goals as goal
use Rattle.sameness.proofs.same_frames.Goals.{After-sums_of-m, In-Ok-second}

reading : (c : In-Ok-second)
    → Taken c.args.p.now c.in-Ok.a c.read_into-first.new.lengths
reading c =
    taken c.args.p.now c.in-Ok.a c.read_into-first.new.lengths (lent_accepted _ _ _ _ c.read_into-first.ensures _ c.in-Ok.is) (record { byte = λ i. search rules })

reading-2 : (c : In-Ok-second)
    → Taken c.args.q.now c.in-Ok-second.b c.read_into-second.new.lengths
reading-2 c =
    taken c.args.q.now c.in-Ok-second.b c.read_into-second.new.lengths (lent_accepted _ _ _ _ c.read_into-second.ensures _ c.in-Ok-second.is) (record { byte = λ i. search rules })

within : (c : After-sums_of-m) → Taken c.args.p.now c.in-Ok.a c.read_into-first.new.lengths
    → Taken c.args.q.now c.in-Ok-second.b c.read_into-second.new.lengths
    → (c.in-Ok.a.first + c.sums_of-m.result.total ≤ length c.args.p.now)
    × (c.in-Ok-second.b.first + c.sums_of-m.result.total ≤ length c.args.q.now)
within c r s =
    blocks-within c.args.p.now c.args.q.now c.requires.unlike r s c.equal_lengths.ensures c.if-not-equal_lengths.false c.sums_of-m.ensures

pub returns-in_default-second : goal.returns-in_default-second
returns-in_default-second c =
    second_unread c.args.p.now c.args.q.now c.requires.unlike
    (unread c.args.q.now (lent_refused _ _ _ _ c.read_into-second.ensures _ c.in_default-second.is) c.requires.short.1)

pub returns-then-a-b : goal.returns-then-a-b
returns-then-a-b c =
    six_apart c.args.p.now c.args.q.now c.requires.unlike (reading (goal.at.returns-then-a-b c).In-Ok-second)
    (reading-2 (goal.at.returns-then-a-b c).In-Ok-second) c.if-a-b.true

pub slice_bounds-ns-end : goal.slice_bounds-ns-end
slice_bounds-ns-end c =
    (reading (goal.at.slice_bounds-ns-end c).In-Ok-second).inside

pub slice_bounds-equal_lengths-end : goal.slice_bounds-equal_lengths-end
slice_bounds-equal_lengths-end c =
    sym (length-take-le _ _ (reading (goal.at.slice_bounds-equal_lengths-end c).In-Ok-second).inside)

pub slice_bounds-ms-end : goal.slice_bounds-ms-end
slice_bounds-ms-end c =
    (reading-2 (goal.at.slice_bounds-ms-end c).In-Ok-second).inside

pub slice_bounds-equal_lengths-end-2 : goal.slice_bounds-equal_lengths-end-2
slice_bounds-equal_lengths-end-2 c =
    sym (length-take-le _ _ (reading-2 (goal.at.slice_bounds-equal_lengths-end-2 c).In-Ok-second).inside)

pub returns-then-not-equal_lengths : goal.returns-then-not-equal_lengths
returns-then-not-equal_lengths c =
    lengths-apart c.args.p.now c.args.q.now c.requires.unlike (reading (goal.at.returns-then-not-equal_lengths c).In-Ok-second)
    (reading-2 (goal.at.returns-then-not-equal_lengths c).In-Ok-second) c.equal_lengths.ensures
    (c.if-not-equal_lengths.true)

pub slice_bounds-ns-end-2 : goal.slice_bounds-ns-end-2
slice_bounds-ns-end-2 c =
    (reading (goal.at.slice_bounds-ns-end-2 c).In-Ok-second).inside

pub slice_bounds-sums_of-end : goal.slice_bounds-sums_of-end
slice_bounds-sums_of-end c =
    sym (length-take-le _ _ (reading (goal.at.slice_bounds-sums_of-end c).In-Ok-second).inside)

pub sums_of-m-requires : goal.sums_of-m-requires
sums_of-m-requires c =
    (reading (goal.at.sums_of-m-requires c).In-Ok-second).some

pub overflow_add-from : goal.overflow_add-from
overflow_add-from c =
    omega (
      arith,
      within (goal.at.overflow_add-from c).After-sums_of-m (reading (goal.at.overflow_add-from c).In-Ok-second)
          (reading-2 (goal.at.overflow_add-from c).In-Ok-second),
      c.requires.short,
    )

pub slice_bounds-equal_bytes-end : goal.slice_bounds-equal_bytes-end
slice_bounds-equal_bytes-end c =
    (within (goal.at.slice_bounds-equal_bytes-end c).After-sums_of-m (reading (goal.at.slice_bounds-equal_bytes-end c).In-Ok-second)
    (reading-2 (goal.at.slice_bounds-equal_bytes-end c).In-Ok-second)).0

pub overflow_add-into : goal.overflow_add-into
overflow_add-into c =
    omega (
      arith,
      within (goal.at.overflow_add-into c).After-sums_of-m (reading (goal.at.overflow_add-into c).In-Ok-second)
          (reading-2 (goal.at.overflow_add-into c).In-Ok-second),
      c.requires.short,
    )

pub slice_bounds-equal_bytes-end-2 : goal.slice_bounds-equal_bytes-end-2
slice_bounds-equal_bytes-end-2 c =
    (within (goal.at.slice_bounds-equal_bytes-end-2 c).After-sums_of-m (reading (goal.at.slice_bounds-equal_bytes-end-2 c).In-Ok-second)
    (reading-2 (goal.at.slice_bounds-equal_bytes-end-2 c).In-Ok-second)).1

pub returns : goal.returns
returns c =
    blocks-told c.args.p.now c.args.q.now c.requires.unlike (reading (goal.at.returns c).In-Ok-second) (reading-2 (goal.at.returns c).In-Ok-second)
    c.equal_lengths.ensures
    (c.if-not-equal_lengths.false) c.sums_of-m.ensures c.if-a-b.false
    c.equal_bytes.ensures

pub returns-in_default : goal.returns-in_default
returns-in_default c =
    first_unread c.args.p.now c.args.q.now c.requires.unlike
    (unread c.args.p.now (lent_refused _ _ _ _ c.read_into-first.ensures _ c.in_default.is) c.requires.short.0)
