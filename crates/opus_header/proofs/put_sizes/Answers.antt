-- `opus_header::put_sizes` meets its contract. The invariant of its loop: the fields of the first i lengths are written, and `next` is behind
-- them. The measure is the lengths left.
use native.Mathlib.Omega.{arith}
use Rattle.opus_header.proofs.Sizes.{written_start, written-length, written_room, written_more, written_end}
use Rattle.opus_header.proofs.put_sizes.Goals as goal

pub loop-n-init : goal.loop-n-init
loop-n-init c =
    written_start c.args.«data».now c.args.at c.args.ns.now

pub loop-n-preserved : goal.loop-n-preserved
loop-n-preserved c =
    written_more c.loop-n.invariant c.wide.ensures.0 (omega arith) c.put_size-next.ensures.bytes c.put_size-next.ensures.next

pub shape_of-data : goal.shape_of-data
shape_of-data c =
    written-length c.loop-n.invariant

pub returns : goal.returns
returns c =
    let whole = written_end c.loop-n.invariant (omega arith) in record { bytes = whole.0; next = whole.1 }

pub put_size-next-requires : goal.put_size-next-requires
put_size-next-requires c =
    written_room c.loop-n.invariant c.wide.ensures.0 (omega arith) c.requires.0 c.requires.1
