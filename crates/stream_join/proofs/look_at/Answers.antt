-- `stream_join::look_at` meets its contract: the packet is read, and its compact packet's bytes are counted.
use native.Mathlib.Omega.{arith}
use mathlib.Core.Path.{sym}
use lib.Seq.{length-take-le}
use Rattle.std.proofs.lemmas.Result.{err_from_is_err_and}
use Rattle.laws.specs.Bytes.{Bytes}
use Rattle.opus.specs.Answers.{packet_with}
use Rattle.opus.proofs.Lent.{lent_accepted, lent_refused}
use Rattle.opus_header.proofs.Forms.{sums_few}
use Rattle.stream_join.proofs.Looked.{Readable, readable, look_told, look_refused}
use Rattle.stream_join.proofs.look_at.Goals as goal
use Rattle.stream_join.proofs.look_at.Goals.{In_ok-p}

bytes : (c : In_ok-p) → Bytes c.args.«data».now
bytes c = record { byte = λ i. (c.shared_slice_known-1.given i).fits }

reading : (c : In_ok-p)
    → Readable c.args.self_delimited c.args.«data».now (packet_with c.in_ok-p.p c.read_into.new.lengths)
    (lent_accepted _ _ _ _ c.read_into.ensures _ c.in_ok-p.was)
reading c = readable _ _ _ _ (bytes c)

pub slice_bounds-ns-end : goal.slice_bounds-ns-end
slice_bounds-ns-end c =
    (reading (goal.at.slice_bounds-ns-end c).In_ok-p).inside

pub slice_bounds-sums_of-end : goal.slice_bounds-sums_of-end
slice_bounds-sums_of-end c =
    sym (length-take-le _ _ (reading (goal.at.slice_bounds-sums_of-end c).In_ok-p).inside)

pub sums_of-m-requires : goal.sums_of-m-requires
sums_of-m-requires c =
    (reading (goal.at.sums_of-m-requires c).In_ok-p).some

pub compact_bytes-bytes-requires : goal.compact_bytes-bytes-requires
compact_bytes-bytes-requires c =
    let s = (reading (goal.at.compact_bytes-bytes-requires c).In_ok-p).some in
    sums_few _ c.sums_of-m.result c.sums_of-m.ensures s.1 s.2

pub returns : goal.returns
returns c =
    let whole = look_told _ _ _ (lent_accepted _ _ _ _ c.read_into.ensures _ c.in_ok-p.was) c.args.compact_delimited
    (bytes (goal.at.returns c).In_ok-p) c.sums_of-m.result c.sums_of-m.ensures c.compact_bytes-bytes.result
    c.compact_bytes-bytes.ensures
    c.time_48k.result c.time_48k.ensures in record { says = whole.0; small = whole.1 }

pub returns-in_err-p : goal.returns-in_err-p
returns-in_err-p c =
    let p = err_from_is_err_and c.from_residual.result c.from_residual.ensures.1 in
    let says = look_refused _ _ (lent_refused _ _ _ _ c.read_into.ensures _ c.in_err-p.was) c.requires c.args.compact_delimited in record {
      says = rw (p.1, p.2) says;
      small = rw p.1 (omega arith);
    }
