-- `multistream::pass_streams` meets its contract. The invariant: the bytes so far with the streams from here on are all of them.
use Prim.Native.Nat.{◌+◌}
use native.Mathlib.Omega.{arith}
use Rattle.multistream.proofs.Bounds.{part-short}
use Rattle.multistream.proofs.Passing.{Passing, passing_start, passing_end, passing_stuck, passing_more_lem}
use Rattle.multistream.proofs.pass_streams.Goals as goal
use Rattle.multistream.proofs.pass_streams.Goals.{In-Ok}

next : (c : In-Ok)
    → Passing c.args.«data».now c.args.k (c.loop.at + c.in-Ok.taken) (c.loop.counter + 1)
next c =
    passing_more_lem c.args.«data».now c.args.k c.loop.at c.loop.counter c.loop.invariant c.pass_stream-p.result c.pass_stream-p.ensures c.loop-test.true
    c.in-Ok.taken c.in-Ok.is (record { byte = λ j. (c.shared_slice_known-1.given j).fits })

pub loop-init : goal.loop-init
loop-init c =
    passing_start _ _

pub pass_stream-p-requires : goal.pass_stream-p-requires
pass_stream-p-requires c =
    part-short c.args.«data».now c.loop.at 65535 c.requires

pub returns-in_default : goal.returns-in_default
returns-in_default c =
    let stuck = passing_stuck c.args.«data».now c.args.k c.loop.at c.loop.counter c.loop.invariant c.pass_stream-p.result c.pass_stream-p.ensures
    c.loop-test.true _ c.in_default.is in
    cc stuck

pub returns : goal.returns
returns c =
    passing_end c.args.«data».now c.args.k c.loop.at c.loop.counter c.loop.invariant c.loop-test.false

pub slice_bounds-pass_stream-count : goal.slice_bounds-pass_stream-count
slice_bounds-pass_stream-count c =
    c.loop.invariant.inside

pub overflow_add-at : goal.overflow_add-at
overflow_add-at c =
    omega (arith, (next c).inside)

pub loop-preserved : goal.loop-preserved
loop-preserved c = next (goal.at.loop-preserved c).In-Ok
