-- `compaction::put_record` meets its contract, at each of its four ways out.
use Prim.Native.Nat.{ℕ, ◌+◌, ◌-◌, ◌≤◌}
use native.Mathlib.Omega.{arith}
use mathlib.Core.Path.{◌≡◌}
use borrow.Author.Rules.{rules}
use borrow.Rule.Slice.PartMut.{put_mid}
use lib.ListN.{length}
use Rattle.spelling.specs.declared.Spelling.TheVariants.{Compact}
use Rattle.capture.proofs.Laws.{within}
use Rattle.compaction.proofs.Putting.{Spelt, without_head, same_long, too_long, as_it_is, few, compact_put}
use Rattle.compaction.proofs.put_record.Goals as goal
use Rattle.compaction.proofs.put_record.Goals.{Start, After-spell-s}

-- where the record ends
ends : (c : Start) → c.args.place + 5 + c.args.n ≤ length c.args.«data».now
ends c = within c.args.«data».now c.args.place c.args.n c.requires.stands.0 (λ z. omega (arith, c.requires.stands.1))

spelt : (c : After-spell-s)
    → Spelt c.args.«data».now c.args.place c.args.n c.args.dst.now c.args.at c.args.budget c.spell-s.result c.spell-s.new.work
spelt c =
    record {
      asked = record {
        bytes = record { byte = λ i. search rules };
        is = c.requires.stands.0;
        some = c.requires.stands.1;
        fit = c.requires.room.0;
        within = c.requires.room.1;
      };
      head = c.if-left-lt-HEAD_BYTES.false;
      took = c.spell-s.ensures.taken;
      wrote = c.spell-s.ensures.bytes;
    }

-- the destination is as long as it was
kept-length : (c : After-spell-s)
    → length (put_mid (c.args.at + 5) (c.args.budget - (c.args.at + 5)) c.args.dst.now c.spell-s.new.work) ≡ length c.args.dst.now
kept-length c = same_long (spelt c) c.spell-s.auto.work

-- where the compact packet was taken
compact-few : (c : After-spell-s) (k : ℕ) → c.spell-s.result ≡ Compact k → k ≤ 65535
compact-few c k e = few (spelt c) k e

pub returns-then-left-lt-HEAD_BYTES : goal.returns-then-left-lt-HEAD_BYTES
returns-then-left-lt-HEAD_BYTES c =
    let whole = without_head c.args.«data».now c.args.place c.args.dst.now c.args.at c.args.budget c.if-left-lt-HEAD_BYTES.true in
    record { next = whole.0; bytes = whole.1 }

pub overflow_add-from : goal.overflow_add-from
overflow_add-from c =
    omega (arith, ends (goal.at.overflow_add-from c).Start)

pub overflow_add-from-2 : goal.overflow_add-from-2
overflow_add-from-2 c =
    omega (arith, ends (goal.at.overflow_add-from-2 c).Start)

pub slice_bounds-spell-end : goal.slice_bounds-spell-end
slice_bounds-spell-end c =
    omega (arith, ends (goal.at.slice_bounds-spell-end c).Start)

pub returns-then-left-n : goal.returns-then-left-n
returns-then-left-n c =
    let whole = too_long (spelt (goal.at.returns-then-left-n c).After-spell-s) c.in_default.is c.if-left-n.true in
    record { next = whole.0; bytes = whole.1 }

pub copy_run-requires : goal.copy_run-requires
copy_run-requires c = (
  omega (arith, kept-length (goal.at.copy_run-requires c).After-spell-s, c.if-left-n.false, c.requires.room),
  omega
      (arith, ends (goal.at.copy_run-requires c).Start),
)

pub returns-in_default : goal.returns-in_default
returns-in_default c =
    let whole = as_it_is (spelt (goal.at.returns-in_default c).After-spell-s) c.in_default.is c.if-left-n.false c.copy_run.ensures in
    record { next = whole.0; bytes = whole.1 }

pub overflow_add-place : goal.overflow_add-place
overflow_add-place c =
    omega (arith, ends (goal.at.overflow_add-place c).Start)

pub bounds-data-place : goal.bounds-data-place
bounds-data-place c =
    omega (arith, ends (goal.at.bounds-data-place c).Start)

pub put_head-requires : goal.put_head-requires
put_head-requires c = (
  omega (
    arith,
    kept-length (goal.at.put_head-requires c).After-spell-s,
    (spelt (goal.at.put_head-requires c).After-spell-s).head,
    c.requires.room.1,
  ),
  compact-few (goal.at.put_head-requires c).After-spell-s
      c.in-Compact.k c.in-Compact.is,
)

pub overflow_add-result-2 : goal.overflow_add-result-2
overflow_add-result-2 c =
    omega (arith, compact-few (goal.at.overflow_add-result-2 c).After-spell-s c.in-Compact.k c.in-Compact.is)

pub returns : goal.returns
returns c =
    let whole = compact_put (spelt (goal.at.returns c).After-spell-s) c.in-Compact.k c.in-Compact.is c.put_head.ensures in
    record { next = whole.0; bytes = whole.1 }
