-- `stream_join::put_stream` meets its contract: the packet is read again, and the compact packet of its frames is put.
use mathlib.Core.Path.{sym}
use lib.Seq.{length-take-le}
use Rattle.laws.specs.Bytes.{Bytes}
use Rattle.opus.specs.Answers.{packet_with}
use Rattle.opus.proofs.Lent.{lent_accepted}
use Rattle.multistream.proofs.Repacking.{lent_ok}
use Rattle.stream_join.proofs.Looked.{Readable, readable, put_is}
use Rattle.stream_join.proofs.put_stream.Goals as goal
use Rattle.stream_join.proofs.put_stream.Goals.{After-unwrap-p}

bytes : (c : After-unwrap-p) → Bytes c.args.«data».now
bytes c = record { byte = λ i. (c.shared_slice_known-1.given i).fits }

reading : (c : After-unwrap-p)
    → Readable c.args.self_delimited c.args.«data».now (packet_with c.unwrap-p.result c.read_into.new.lengths)
    (lent_accepted _ _ _ _ c.read_into.ensures _ c.unwrap-p.ensures)
reading c = readable _ _ _ _ (bytes c)

pub unwrap-p-requires : goal.unwrap-p-requires
unwrap-p-requires c =
    lent_ok _ _ c.requires.reads.0 c.requires.reads.1 _ _ c.read_into.ensures

pub slice_bounds-ns-end : goal.slice_bounds-ns-end
slice_bounds-ns-end c =
    (reading (goal.at.slice_bounds-ns-end c).After-unwrap-p).inside

pub slice_bounds-put_compact-end : goal.slice_bounds-put_compact-end
slice_bounds-put_compact-end c =
    sym (length-take-le _ _ (reading (goal.at.slice_bounds-put_compact-end c).After-unwrap-p).inside)

pub put_compact-requires : goal.put_compact-requires
put_compact-requires c =
    let r = reading (goal.at.put_compact-requires c).After-unwrap-p in
    let is = put_is _ _ _ (lent_accepted _ _ _ _ c.read_into.ensures _ c.unwrap-p.ensures) c.args.compact_delimited
    (bytes (goal.at.put_compact-requires c).After-unwrap-p) in record {
      some = r.some;
      block = r.block;
      room = rw is c.requires.room;
    }

pub returns : goal.returns
returns c =
    let is = put_is _ _ _ (lent_accepted _ _ _ _ c.read_into.ensures _ c.unwrap-p.ensures) c.args.compact_delimited
    (bytes (goal.at.returns c).After-unwrap-p) in record {
      bytes = rw is at c.put_compact.ensures.bytes;
      next = rw is at c.put_compact.ensures.next;
    }
