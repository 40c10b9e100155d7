-- `compaction::run_from` meets its contract. The loop's invariant is `Found`: the records up to `end` are such, and a packet of n bytes comes next.
use Prim.Native.Nat.{◌+◌, ◌≤◌}
use native.Mathlib.Omega.{arith}
use mathlib.Core.Path.{refl}
use lib.ListN.{length}
use Rattle.compaction.proofs.Running.{Found, none_found, told, next-within, next_found}
use Rattle.compaction.proofs.run_from.Goals as goal
use Rattle.compaction.proofs.run_from.Goals.{In-loop-n}

-- in the loop: what was found, and where the next record ends
abbrev found : (c : In-loop-n) → Found c.args.«data».now c.args.at c.args.left c.loop-n.end c.loop-n.records c.loop-n.n
found c = c.loop-n.invariant

ends : (c : In-loop-n) → c.loop-n.end + 5 + c.loop-n.n ≤ length c.args.«data».now
ends c = next-within (found c) c.loop-n-test.true

pub loop-n-init : goal.loop-n-init
loop-n-init c =
    none_found c.args.«data».now c.args.at c.args.left c.packet_length-n.result c.requires c.packet_length-n.ensures

pub overflow_sub-end : goal.overflow_sub-end
overflow_sub-end c =
    omega (arith, (found c).from)

pub overflow_sub-left : goal.overflow_sub-left
overflow_sub-left c =
    omega (arith, (found c).few)

pub overflow_add-n : goal.overflow_add-n
overflow_add-n c =
    omega (arith, ends c)

pub returns-then-left-end : goal.returns-then-left-end
returns-then-left-end c =
    let whole = told (found (goal.at.returns-then-left-end c).In-loop-n) in record { run = whole.0; fits = whole.1 }

pub overflow_add-first : goal.overflow_add-first
overflow_add-first c =
    omega (arith, ends (goal.at.overflow_add-first c).In-loop-n)

pub overflow_add-first-in-loop-n : goal.overflow_add-first-in-loop-n
overflow_add-first-in-loop-n c =
    omega (arith, ends (goal.at.overflow_add-first-in-loop-n c).In-loop-n)

pub slice_bounds-stays-count : goal.slice_bounds-stays-count
slice_bounds-stays-count c =
    omega (arith, ends (goal.at.slice_bounds-stays-count c).In-loop-n)

pub slice_bounds-stays-start : goal.slice_bounds-stays-start
slice_bounds-stays-start c =
    omega (arith, ends (goal.at.slice_bounds-stays-start c).In-loop-n)

pub slice_bounds-stays-end : goal.slice_bounds-stays-end
slice_bounds-stays-end c =
    omega (arith, ends (goal.at.slice_bounds-stays-end c).In-loop-n)

pub returns-then-not-stays : goal.returns-then-not-stays
returns-then-not-stays c =
    let whole = told (found (goal.at.returns-then-not-stays c).In-loop-n) in record { run = whole.0; fits = whole.1 }

pub overflow_add-end : goal.overflow_add-end
overflow_add-end c =
    omega (arith, ends (goal.at.overflow_add-end c).In-loop-n)

pub overflow_add-end-in-loop-n : goal.overflow_add-end-in-loop-n
overflow_add-end-in-loop-n c =
    omega (arith, ends (goal.at.overflow_add-end-in-loop-n c).In-loop-n)

pub overflow_add-records : goal.overflow_add-records
overflow_add-records c =
    omega (arith, ends (goal.at.overflow_add-records c).In-loop-n, (found (goal.at.overflow_add-records c).In-loop-n).count)

pub overflow_sub-end-in-loop-n : goal.overflow_sub-end-in-loop-n
overflow_sub-end-in-loop-n c =
    omega (arith, (found (goal.at.overflow_sub-end-in-loop-n c).In-loop-n).from)

pub returns-then-end-at-ge-RUN_BYTES : goal.returns-then-end-at-ge-RUN_BYTES
returns-then-end-at-ge-RUN_BYTES c =
    let whole = told (next_found (found (goal.at.returns-then-end-at-ge-RUN_BYTES c).In-loop-n) c.loop-n-test.true c.if-left-end.false
    (c.stays.ensures c.if-not-stays.false) _ refl) in record { run = whole.0; fits = whole.1 }

pub loop-n-smaller : goal.loop-n-smaller
loop-n-smaller c =
    omega (arith, ends (goal.at.loop-n-smaller c).In-loop-n)

pub loop-n-preserved : goal.loop-n-preserved
loop-n-preserved c =
    next_found (found (goal.at.loop-n-preserved c).In-loop-n) c.loop-n-test.true c.if-left-end.false (c.stays.ensures c.if-not-stays.false)
    c.packet_length-n-in-loop-n.result
    c.packet_length-n-in-loop-n.ensures

pub returns : goal.returns
returns c =
    let whole = told c.loop-n.invariant in record { run = whole.0; fits = whole.1 }
