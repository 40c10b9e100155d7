-- `multistream::repack_streams` meets its contract. The invariant: the streams so far stand in compact form at the front, and the
-- unread ones are as they were.
use mathlib.Core.Path.{◌∙◌}
use Rattle.multistream.proofs.Repacking.{same_size, in_places}
use Rattle.multistream.proofs.Repacking.{repacking_start, repacking_reads, repacking_more, repacking_last, repacking_end}
use Rattle.multistream.proofs.repack_streams.Goals as goal

pub loop-init : goal.loop-init
loop-init c =
    repacking_start c.args.«data».now c.args.len c.args.k

pub repack_stream-places-requires : goal.repack_stream-places-requires
repack_stream-places-requires c =
    record {
      places = in_places c.args.«data».now c.args.len c.args.k c.requires.0 c.requires.1 c.requires.2 c.loop.«data» c.loop.to c.loop.from
          c.loop.counter c.loop.invariant;
      reads = repacking_reads c.args.«data».now c.args.len c.args.k c.requires.0 c.requires.1 c.requires.2 c.loop.«data» c.loop.to c.loop.from
          c.loop.counter c.loop.invariant c.loop-test.true;
    }

pub loop-preserved : goal.loop-preserved
loop-preserved c =
    repacking_more c.args.«data».now c.args.len c.args.k c.requires.0 c.requires.1 c.requires.2 c.loop.«data» c.loop.to c.loop.from c.loop.counter
    c.loop.invariant c.loop-test.true
    (record { byte = λ j. (c.slice_known-1.given j).fits }) _ c.repack_stream-places.ensures.bytes c.repack_stream-places.result
    c.repack_stream-places.ensures.next

pub repack_stream-last-requires : goal.repack_stream-last-requires
repack_stream-last-requires c =
    record {
      places = in_places c.args.«data».now c.args.len c.args.k c.requires.0 c.requires.1 c.requires.2 c.loop.«data» c.loop.to c.loop.from
          c.loop.counter c.loop.invariant;
      reads = repacking_last c.args.«data».now c.args.len c.args.k c.requires.0 c.requires.1 c.requires.2 c.loop.«data» c.loop.to c.loop.from
          c.loop.counter c.loop.invariant c.loop-test.false;
    }

pub shape_of-data : goal.shape_of-data
shape_of-data c =
    c.repack_stream-last.auto.data
    ∙ same_size c.args.«data».now c.args.len c.args.k c.requires.0 c.requires.1 c.requires.2 c.loop.«data» c.loop.to c.loop.from c.loop.counter
    c.loop.invariant

pub returns : goal.returns
returns c =
    let whole = repacking_end c.args.«data».now c.args.len c.args.k c.requires.0 c.requires.1 c.requires.2 c.loop.«data» c.loop.to c.loop.from
    c.loop.counter c.loop.invariant c.loop-test.false
    (record { byte = λ j. (c.slice_known-1.given j).fits }) _ c.repack_stream-last.ensures.bytes c.repack_stream-last.result
    c.repack_stream-last.ensures.next in record { bytes = whole.0; next = whole.1 }
