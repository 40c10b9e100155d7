-- `stream_join::put_packets` meets its contract. The invariant: what is written so far and the packets from here on are all that is to be written.
use Prim.Native.Nat.{◌+◌, ◌≤◌}
use native.Mathlib.Omega.{arith}
use lib.ListN.{length}
use Rattle.stream_join.proofs.Putting.{putting_start, putting_end, put_within, put_long}
use Rattle.stream_join.proofs.Putting.{putting_reads, putting_room, putting_fits, putting_more}
use Rattle.stream_join.proofs.put_packets.Goals as goal
use Rattle.stream_join.proofs.put_packets.Goals.{After-wide}

-- the lent packet is there
within : (c : After-wide)
    → c.loop-i.at + c.wide.result ≤ length c.args.«data».now
within c =
    put_within c.args.«data».now c.args.lengths.now c.args.dst.now c.loop-i.dst c.loop-i.at c.loop-i.to c.loop-i.i c.loop-i.invariant
    c.loop-i-test.true c.wide.result
    c.wide.ensures.0

pub loop-i-init : goal.loop-i-init
loop-i-init c =
    putting_start _ _ _ c.requires.dst_len_bound.2 c.requires.reads c.requires.room

pub overflow_add-next : goal.overflow_add-next
overflow_add-next c =
    omega (arith, within c, c.requires.dst_len_bound.1)

pub put_stream-to-requires : goal.put_stream-to-requires
put_stream-to-requires c =
    let long = put_long c.args.«data».now c.args.lengths.now c.args.dst.now c.loop-i.dst c.loop-i.at c.loop-i.to c.loop-i.i c.loop-i.invariant
    c.loop-i-test.true c.wide.result
    c.wide.ensures.0 in
    let reads = putting_reads c.args.«data».now c.args.lengths.now c.args.dst.now c.loop-i.dst c.loop-i.at c.loop-i.to c.loop-i.i c.loop-i.invariant
    c.loop-i-test.true
    c.wide.result c.wide.ensures.0 in
    let room = putting_room c.args.«data».now c.args.lengths.now c.args.dst.now c.loop-i.dst c.loop-i.at c.loop-i.to c.loop-i.i c.loop-i.invariant
    c.loop-i-test.true
    c.wide.result c.wide.ensures.0 in record {
      reads = (omega (arith, long, within (goal.at.put_stream-to-requires c).After-wide, c.requires.dst_len_bound.1), reads);
      room = room;
    }

pub overflow_add-to : goal.overflow_add-to
overflow_add-to c =
    let fits = putting_fits c.args.«data».now c.args.lengths.now c.args.dst.now c.loop-i.dst c.loop-i.at c.loop-i.to c.loop-i.i c.loop-i.invariant
    c.loop-i-test.true
    c.wide.result c.wide.ensures.0 in
    omega (arith, fits, c.put_stream-to.ensures.next, c.loop-i.invariant.size, c.requires.dst_len_bound.0)

pub loop-i-preserved : goal.loop-i-preserved
loop-i-preserved c =
    putting_more c.args.«data».now c.args.lengths.now c.args.dst.now c.loop-i.dst c.loop-i.at c.loop-i.to c.loop-i.i c.loop-i.invariant
    c.loop-i-test.true c.wide.result
    c.wide.ensures.0 c.put_stream-to.ensures.bytes c.put_stream-to.ensures.next

pub returns : goal.returns
returns c =
    putting_end c.args.«data».now c.args.lengths.now c.args.dst.now c.loop-i.dst c.loop-i.at c.loop-i.to c.loop-i.i c.loop-i.invariant c.loop-i-test.false

pub slice_bounds-put_stream-end : goal.slice_bounds-put_stream-end
slice_bounds-put_stream-end c =
    within c

pub slice_bounds-put_stream-count-in-loop-i : goal.slice_bounds-put_stream-count-in-loop-i
slice_bounds-put_stream-count-in-loop-i c =
    omega (arith, c.loop-i.invariant.room)

pub slice_bounds-put_stream-start-in-loop-i : goal.slice_bounds-put_stream-start-in-loop-i
slice_bounds-put_stream-start-in-loop-i c =
    omega (arith, c.loop-i.invariant.room)

pub shape_of-dst : goal.shape_of-dst
shape_of-dst c =
    c.loop-i.invariant.size
