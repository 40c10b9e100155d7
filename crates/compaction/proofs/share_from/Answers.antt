-- `compaction::share_from` meets its contract. The loop's invariant is `Going`: what is done up to `at`, and that the share from there on is the rest of it.
use Prim.Native.Nat.{◌+◌, ◌-◌, ◌≤◌}
use native.Mathlib.Omega.{arith}
use mathlib.Core.Path.{◌≡◌, ◌∙◌}
use borrow.Author.Rules.{rules}
use lib.ListN.{length}
use Rattle.laws.specs.Bytes.{Bytes}
use Rattle.compaction.proofs.Going.{Going, same_long, begun}
use Rattle.compaction.proofs.Running.{runs_move, run_done}
use Rattle.compaction.proofs.Turns.{advanced, last_one, stands_there, on_move, nothing_put, one_put}
use Rattle.compaction.proofs.share_from.Goals as goal
use Rattle.compaction.proofs.share_from.Goals.{At-loop-dst, After-run_from-run, After-put_record-k, After-next_record-next}

-- at the loop: the capture's bytes
known : (c : At-loop-dst) → Bytes c.args.«data».now
known c = record { byte = λ i. search rules }

-- the destination has room for the budget
roomy : (c : At-loop-dst) → c.args.budget ≤ length c.loop-dst.dst
roomy c = omega (arith, same_long c.loop-dst.invariant, c.requires.1)

-- a run
bounds : (c : After-run_from-run)
    → (c.run_from-run.result.end - c.loop-dst.at ≤ c.args.budget - c.loop-dst.written)
    × (c.loop-dst.at + c.run_from-run.result.records ≤ c.run_from-run.result.end)
    × (c.run_from-run.result.end ≤ length c.args.«data».now)
bounds c = let e = c.run_from-run.ensures in (e.fits.0, runs_move e.run, e.fits.2)

-- a record
moves : (c : After-next_record-next)
    → (c.loop-dst.passed + c.next_record-next.result.passed ≤ length c.args.«data».now)
    × (c.args.start + c.loop-dst.written + (c.loop-dst.passed + c.next_record-next.result.passed) ≤ c.next_record-next.result.place)
    × (c.next_record-next.result.place ≤ length c.args.«data».now)
moves c = advanced c.loop-dst.invariant c.next_record-next.result c.next_record-next.ensures

-- behind `put_record`, where it put the record
gone-on : (c : After-put_record-k) → (c.put_record-k.result ≡ 0 → ⊥)
    → Going c.args.«data».now c.args.start c.args.budget c.args.dst.now c.put_record-k.new.dst
    (c.next_record-next.result.place + 5 + c.next_record-next.result.length) (c.loop-dst.records + 1)
    (c.loop-dst.written + c.put_record-k.result) (c.loop-dst.passed + c.next_record-next.result.passed)
gone-on c some =
    one_put c.loop-dst.invariant c.next_record-next.result c.next_record-next.ensures c.put_record-k.result c.put_record-k.ensures.next
    c.put_record-k.new.dst c.put_record-k.ensures.bytes c.if-n-eq0.false some

pub loop-dst-init : goal.loop-dst-init
loop-dst-init c =
    begun c.args.«data».now c.args.start c.args.budget c.args.dst.now c.requires.0

pub overflow_sub-budget : goal.overflow_sub-budget
overflow_sub-budget c =
    omega (arith, c.loop-dst.invariant.room)

pub run_from-run-requires : goal.run_from-run-requires
run_from-run-requires c =
    c.loop-dst.invariant.inside

pub overflow_sub-end : goal.overflow_sub-end
overflow_sub-end c =
    omega (arith, bounds (goal.at.overflow_sub-end c).After-run_from-run)

pub copy_run-requires : goal.copy_run-requires
copy_run-requires c = (
  omega (
    arith,
    bounds (goal.at.copy_run-requires c).After-run_from-run,
    roomy (goal.at.copy_run-requires c).At-loop-dst,
    c.loop-dst.invariant.room,
  ),
  omega (arith, bounds (goal.at.copy_run-requires c).After-run_from-run),
)

pub overflow_sub-written : goal.overflow_sub-written
overflow_sub-written c =
    omega (arith, bounds (goal.at.overflow_sub-written c).After-run_from-run)

pub overflow_add-written : goal.overflow_add-written
overflow_add-written c =
    omega (arith, bounds (goal.at.overflow_add-written c).After-run_from-run, roomy (goal.at.overflow_add-written c).At-loop-dst, c.loop-dst.invariant.room)

pub overflow_add-records : goal.overflow_add-records
overflow_add-records c =
    omega (arith, bounds (goal.at.overflow_add-records c).After-run_from-run, c.loop-dst.invariant.few)

pub loop-dst-smaller-then-run-ne0 : goal.loop-dst-smaller-then-run-ne0
loop-dst-smaller-then-run-ne0 c =
    omega (arith, bounds (goal.at.loop-dst-smaller-then-run-ne0 c).After-run_from-run, c.if-run-ne0.true)

pub loop-dst-preserved-then-run-ne0 : goal.loop-dst-preserved-then-run-ne0
loop-dst-preserved-then-run-ne0 c =
    run_done (known (goal.at.loop-dst-preserved-then-run-ne0 c).At-loop-dst) c.loop-dst.invariant c.run_from-run.ensures.run
    (bounds (goal.at.loop-dst-preserved-then-run-ne0 c).After-run_from-run).0 c.copy_run.ensures

pub overflow_add-passed : goal.overflow_add-passed
overflow_add-passed c =
    omega (arith, moves (goal.at.overflow_add-passed c).After-next_record-next)

pub stopped-requires : goal.stopped-requires
stopped-requires c =
    (moves (goal.at.stopped-requires c).After-next_record-next).1

pub shape_of-dst-then-n-eq0 : goal.shape_of-dst-then-n-eq0
shape_of-dst-then-n-eq0 c =
    same_long c.loop-dst.invariant

pub returns-then-n-eq0 : goal.returns-then-n-eq0
returns-then-n-eq0 c =
    let e = last_one c.loop-dst.invariant c.next_record-next.result c.next_record-next.ensures c.if-n-eq0.true in record {
      answer = c.stopped.ensures ∙ e.0;
      bytes = e.1;
    }

pub put_record-k-requires : goal.put_record-k-requires
put_record-k-requires c =
    let g = c.loop-dst.invariant in record {
      room = (g.room, roomy (goal.at.put_record-k-requires c).At-loop-dst);
      stands = stands_there g c.next_record-next.result c.next_record-next.ensures c.if-n-eq0.false;
    }

pub stopped-requires-then-k-eq0 : goal.stopped-requires-then-k-eq0
stopped-requires-then-k-eq0 c =
    (moves (goal.at.stopped-requires-then-k-eq0 c).After-next_record-next).1

pub shape_of-dst-then-k-eq0 : goal.shape_of-dst-then-k-eq0
shape_of-dst-then-k-eq0 c =
    c.put_record-k.auto.dst ∙ same_long c.loop-dst.invariant

pub returns-then-k-eq0 : goal.returns-then-k-eq0
returns-then-k-eq0 c =
    let e = nothing_put c.loop-dst.invariant c.next_record-next.result c.next_record-next.ensures c.put_record-k.result c.put_record-k.ensures.next
    c.put_record-k.new.dst c.put_record-k.ensures.bytes c.if-k-eq0.true in record {
      answer = c.stopped-then-k-eq0.ensures ∙ e.0;
      bytes = e.1;
    }

pub overflow_add-written-else-run-ne0 : goal.overflow_add-written-else-run-ne0
overflow_add-written-else-run-ne0 c =
    omega (
      arith,
      (gone-on (goal.at.overflow_add-written-else-run-ne0 c).After-put_record-k c.if-k-eq0.false).room,
      roomy
          (goal.at.overflow_add-written-else-run-ne0 c).At-loop-dst,
    )

pub overflow_add-records-else-run-ne0 : goal.overflow_add-records-else-run-ne0
overflow_add-records-else-run-ne0 c =
    let g = gone-on (goal.at.overflow_add-records-else-run-ne0 c).After-put_record-k c.if-k-eq0.false in omega (arith, g.few, g.inside)

pub overflow_add-at : goal.overflow_add-at
overflow_add-at c =
    omega (arith, (gone-on (goal.at.overflow_add-at c).After-put_record-k c.if-k-eq0.false).inside)

pub overflow_add-at-else-run-ne0 : goal.overflow_add-at-else-run-ne0
overflow_add-at-else-run-ne0 c =
    omega (arith, (gone-on (goal.at.overflow_add-at-else-run-ne0 c).After-put_record-k c.if-k-eq0.false).inside)

pub loop-dst-smaller : goal.loop-dst-smaller
loop-dst-smaller c =
    let on = on_move c.loop-dst.invariant c.next_record-next.result c.next_record-next.ensures c.if-n-eq0.false in
    omega (arith, on, (gone-on (goal.at.loop-dst-smaller c).After-put_record-k c.if-k-eq0.false).inside)

pub loop-dst-preserved : goal.loop-dst-preserved
loop-dst-preserved c =
    gone-on (goal.at.loop-dst-preserved c).After-put_record-k c.if-k-eq0.false
