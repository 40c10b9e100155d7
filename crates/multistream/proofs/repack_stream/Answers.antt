-- `multistream::repack_stream` meets its contract: the stream is read, and its frames are rewritten further to the front.
use Prim.Native.Nat.{◌-◌, ◌≤◌, ◌+◌}
use native.Mathlib.Omega.{arith}
use mathlib.Core.Path.{◌≡◌, sym}
use lib.ListN.{drop}
use lib.Seq.{length-take-le}
use Rattle.laws.specs.Bytes.{Bytes}
use Rattle.opus.specs.Answers.{parsed, packet_with}
use Rattle.opus.specs.declared.Packet.{Packet}
use Rattle.std.specs.Prelude.{Ok}
use Rattle.opus.proofs.Lent.{lent_accepted}
use Rattle.packet_pad.proofs.Framed.{Lies}
use Rattle.multistream.specs.Parts.{stream}
use Rattle.multistream.proofs.Repacking.{lent_ok, stream_short, lying, taken_fits, rewrite_fits, rewritten}
use Rattle.multistream.proofs.repack_stream.Goals as goal
use Rattle.multistream.proofs.repack_stream.Goals.{After-compact_frames-bytes, After-unwrap-p}

-- what was read
abbrev reads : (c : After-unwrap-p) → Packet
reads c = packet_with c.unwrap-p.result c.read_into.new.lengths

answer : (c : After-unwrap-p)
    → Ok (reads c) ≡ parsed c.args.self_delimited (stream c.args.«data».now c.args.from c.args.len)
answer c = lent_accepted _ _ _ _ c.read_into.ensures _ c.unwrap-p.ensures

-- how the stream's frames lie
lies : (c : After-unwrap-p)
    → Lies c.args.self_delimited (drop c.args.from c.args.«data».now) (c.args.len - c.args.from) (reads c)
lies c =
    lying c.args.self_delimited c.args.«data».now c.args.to c.args.from c.args.len c.requires.places c.requires.reads
    (record { byte = λ i. (c.slice_known-1.given i).fits })
    (reads c) (answer c)

taken : (c : After-unwrap-p) → c.args.from + c.unwrap-p.result.taken ≤ c.args.len
taken c =
    taken_fits c.args.self_delimited c.args.«data».now c.args.to c.args.from c.args.len c.requires.places c.requires.reads
    (record { byte = λ i. (c.slice_known-1.given i).fits }) (reads c) (answer c)

put : (c : After-compact_frames-bytes) → c.args.to + c.compact_frames-bytes.result ≤ c.args.len
put c =
    let bytes : Bytes c.args.«data».now = record { byte = λ i. (c.slice_known-1.given i).fits } in
    (rewritten c.args.self_delimited c.args.«data».now c.args.to c.args.from c.args.len c.requires.places c.requires.reads bytes
    (packet_with c.unwrap-p.result c.read_into.new.lengths)
    (lent_accepted _ _ _ _ c.read_into.ensures _ c.unwrap-p.ensures) c.compact_frames-bytes.ensures.bytes
    c.compact_frames-bytes.ensures.next).2

pub unwrap-p-requires : goal.unwrap-p-requires
unwrap-p-requires c =
    lent_ok _ _ (stream_short c.args.«data».now c.args.from c.args.len c.requires.places.3) c.requires.reads _ _ c.read_into.ensures

pub compact_frames-bytes-requires : goal.compact_frames-bytes-requires
compact_frames-bytes-requires c =
    let bytes : Bytes c.args.«data».now = record { byte = λ i. (c.slice_known-1.given i).fits } in
    let w = rewrite_fits c.args.self_delimited c.args.«data».now c.args.to c.args.from c.args.len c.requires.places c.requires.reads bytes
    (reads (goal.at.compact_frames-bytes-requires c).After-unwrap-p) (answer (goal.at.compact_frames-bytes-requires c).After-unwrap-p) in record {
      some = (lies (goal.at.compact_frames-bytes-requires c).After-unwrap-p).some;
      block = w.0;
      short = w.1;
    }

pub returns : goal.returns
returns c =
    let bytes : Bytes c.args.«data».now = record { byte = λ i. (c.slice_known-1.given i).fits } in
    let d =
    rewritten c.args.self_delimited c.args.«data».now c.args.to c.args.from c.args.len c.requires.places c.requires.reads bytes
    (reads (goal.at.returns c).After-unwrap-p) (answer (goal.at.returns c).After-unwrap-p) c.compact_frames-bytes.ensures.bytes
    c.compact_frames-bytes.ensures.next in record {
      bytes = d.0;
      next = d.1;
    }

pub overflow_add-first : goal.overflow_add-first
overflow_add-first c =
    omega (arith, (lies (goal.at.overflow_add-first c).After-unwrap-p).within, c.requires.places)

pub slice_bounds-lengths-end : goal.slice_bounds-lengths-end
slice_bounds-lengths-end c =
    (lies (goal.at.slice_bounds-lengths-end c).After-unwrap-p).inside

pub slice_bounds-ns-end : goal.slice_bounds-ns-end
slice_bounds-ns-end c =
    sym (length-take-le _ _ (lies (goal.at.slice_bounds-ns-end c).After-unwrap-p).inside)

pub overflow_add-result : goal.overflow_add-result
overflow_add-result c =
    omega (arith, put (goal.at.overflow_add-result c).After-compact_frames-bytes, c.requires.places)

pub overflow_add-result-2 : goal.overflow_add-result-2
overflow_add-result-2 c =
    omega (arith, taken (goal.at.overflow_add-result-2 c).After-unwrap-p, c.requires.places)
