-- `stream_join::take_stream` meets its contract: the stream's place is found, its compact packet's bytes are counted, and it is put.
use Prim.Native.Nat.{◌≤◌}
use native.Mathlib.Omega.{arith}
use mathlib.Core.Path.{◌≡◌, refl, ap}
use lib.IntN.{pos}
use lib.ListN.{length}
use Rattle.opus_defines.specs.Numbers.{plain}
use Rattle.opus_defines.specs.Outcome.{leaves}
use Rattle.opus_defines.proofs.Outcomes.{meets}
use Rattle.multistream.proofs.Bounds.{part-short}
use Rattle.stream_join.specs.Join.{packet_of}
use Rattle.stream_join.specs.Parts.{held_streams, held_streams_in}
use Rattle.stream_join.proofs.Taking.{take_inside, take_reads, take_puts, take_bytes, take_no_room, take_done}
use Rattle.stream_join.proofs.take_stream.Goals as goal
use Rattle.stream_join.proofs.take_stream.Goals.{After-bytes_of-bytes, After-place_of-at}

inside : (c : After-place_of-at) → c.place_of-at.result ≤ length c.args.«data».now
inside c =
    take_inside c.args.«data».now c.args.n c.args.k c.requires.k_lt_n.0 c.requires.reads c.pass_streams.result c.pass_streams.ensures
    c.place_of-at.result c.place_of-at.ensures
    (record { byte = λ i. (c.shared_slice_known-1.given i).fits })

bytes : (c : After-bytes_of-bytes)
    → c.bytes_of-bytes.result ≡ length (packet_of c.args.k (held_streams (held_streams_in c.args.n c.args.«data».now)))
bytes c =
    take_bytes c.args.«data».now c.args.n c.args.k c.requires.k_lt_n.0 c.requires.reads c.pass_streams.result c.pass_streams.ensures
    c.place_of-at.result c.place_of-at.ensures
    c.look_at.result c.look_at.ensures.says c.bytes_of-bytes.result c.bytes_of-bytes.ensures

pub look_at-requires : goal.look_at-requires
look_at-requires c =
    part-short c.args.«data».now c.place_of-at.result 65535 c.requires.k_lt_n.2

pub returns-then-dst-bytes : goal.returns-then-dst-bytes
returns-then-dst-bytes c =
    let is = take_no_room c.args.«data».now c.args.n c.args.k c.requires.k_lt_n.0 c.requires.reads c.pass_streams.result c.pass_streams.ensures
    c.place_of-at.result c.place_of-at.ensures
    c.look_at.result c.look_at.ensures.says c.bytes_of-bytes.result c.bytes_of-bytes.ensures (length c.args.dst.now) c.if-dst-bytes.true in
    let whole = meets (ap (leaves c.args.dst.now) is) refl refl in record { report = whole.0; bytes = whole.1 }

pub put_stream-requires : goal.put_stream-requires
put_stream-requires c =
    let reads = take_reads c.args.«data».now c.args.n c.args.k c.requires.k_lt_n.0 c.requires.reads c.pass_streams.result c.pass_streams.ensures
    c.place_of-at.result
    c.place_of-at.ensures in
    let puts = take_puts c.args.«data».now c.args.n c.args.k c.requires.k_lt_n.0 c.requires.reads c.pass_streams.result c.pass_streams.ensures
    c.place_of-at.result
    c.place_of-at.ensures in record {
      reads = (part-short c.args.«data».now c.place_of-at.result 65535 c.requires.k_lt_n.2, reads);
      room = omega (arith, ap length puts, bytes (goal.at.put_stream-requires c).After-bytes_of-bytes, c.if-dst-bytes.false);
    }

pub overflow_cast-result : goal.overflow_cast-result
overflow_cast-result c =
    omega (arith, c.if-dst-bytes.false, c.requires.k_lt_n.3)

pub returns : goal.returns
returns c =
    let is = take_done c.args.«data».now c.args.n c.args.k c.requires.k_lt_n.0 c.requires.reads c.pass_streams.result c.pass_streams.ensures
    c.place_of-at.result c.place_of-at.ensures
    c.look_at.result c.look_at.ensures.says c.bytes_of-bytes.result c.bytes_of-bytes.ensures (length c.args.dst.now) c.if-dst-bytes.false in
    let puts = take_puts c.args.«data».now c.args.n c.args.k c.requires.k_lt_n.0 c.requires.reads c.pass_streams.result c.pass_streams.ensures
    c.place_of-at.result
    c.place_of-at.ensures in let whole = meets (ap (leaves c.args.dst.now) is)
    (ap (λ n. plain (pos n)) (bytes (goal.at.returns c).After-bytes_of-bytes)) (rw puts at c.put_stream.ensures.bytes) in
    record { report = whole.0; bytes = whole.1 }

pub slice_bounds-look_at-count : goal.slice_bounds-look_at-count
slice_bounds-look_at-count c =
    inside c

pub slice_bounds-look_at-start : goal.slice_bounds-look_at-start
slice_bounds-look_at-start c =
    inside c

pub slice_bounds-put_stream-count : goal.slice_bounds-put_stream-count
slice_bounds-put_stream-count c =
    inside (goal.at.slice_bounds-put_stream-count c).After-place_of-at

pub slice_bounds-put_stream-start : goal.slice_bounds-put_stream-start
slice_bounds-put_stream-start c =
    inside (goal.at.slice_bounds-put_stream-start c).After-place_of-at
