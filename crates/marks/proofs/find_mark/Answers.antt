-- `marks::find_mark` meets its contract: 32 bytes at a time, and the last ones by themselves.
use native.Mathlib.Omega.{arith}
use Rattle.marks.proofs.Finding.{first_here, sought_start, sought_on, sought_here, sought_rest}
use Rattle.marks.proofs.find_mark.Goals as goal

pub returns-then-data-at-eq75 : goal.returns-then-data-at-eq75
returns-then-data-at-eq75 c =
    let whole = first_here c.args.«data».now c.args.at c.if-at-data.true c.if-data-at-eq75.true in record { place = whole.0; within = whole.1 }

pub loop-place-init : goal.loop-place-init
loop-place-init c =
    sought_start c.args.«data».now c.args.at c.requires

pub overflow_sub-data : goal.overflow_sub-data
overflow_sub-data c =
    omega (arith, c.loop-place.invariant.inside)

pub in_32-m-requires : goal.in_32-m-requires
in_32-m-requires c =
    omega (arith, c.loop-place-test.true, c.loop-place.invariant.inside)

pub overflow_add-result : goal.overflow_add-result
overflow_add-result c =
    omega (arith, c.if-m-lt32.true, c.loop-place-test.true, c.loop-place.invariant.inside)

pub overflow_add-place : goal.overflow_add-place
overflow_add-place c =
    omega (arith, c.loop-place-test.true, c.loop-place.invariant.inside)

pub loop-place-smaller : goal.loop-place-smaller
loop-place-smaller c =
    omega (arith, c.loop-place-test.true, c.loop-place.invariant.inside)

pub returns-then-m-lt32 : goal.returns-then-m-lt32
returns-then-m-lt32 c =
    let e = c.in_32-m.ensures in
    let whole = sought_here c.loop-place.invariant c.loop-place-test.true (e.most, (e.found, e.none)) c.if-m-lt32.true in
    record { place = whole.0; within = whole.1 }

pub loop-place-preserved : goal.loop-place-preserved
loop-place-preserved c =
    let e = c.in_32-m.ensures in
    sought_on c.loop-place.invariant c.loop-place-test.true (e.most, (e.found, e.none)) c.if-m-lt32.false

pub returns : goal.returns
returns c =
    let e = c.find_from.ensures in
    let whole = sought_rest c.loop-place.invariant (e.place, e.within) in
    record { place = whole.0; within = whole.1 }
