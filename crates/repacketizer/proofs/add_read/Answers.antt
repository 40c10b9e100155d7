-- `repacketizer::add_read` meets its contract: by the test on the length; the frames that were read are added as one block.
use Prim.Native.Nat.{◌≤◌}
use mathlib.Core.Path.{sym}
use native.Mathlib.Omega.{arith}
use borrow.Author.Rules.{rules}
use lib.Seq.{length-take-le}
use Rattle.laws.specs.Bytes.{Bytes}
use Rattle.opus_format.proofs.Facts.{facts}
use Rattle.opus.specs.Answers.{packet_with}
use Rattle.opus.proofs.Parsed.{Read, lengths_of, parsed_accepted}
use Rattle.opus.proofs.Lent.{lent_accepted, lent_refused}
use Rattle.collector.specs.Parts.{collector_of}
use Rattle.repacketizer.proofs.Parsed.{refused_lem}
use Rattle.repacketizer.proofs.Adds.{head_few, add_long, add_read, why_refused, refused_as}
use Rattle.repacketizer.proofs.add_read.Goals as goal
use Rattle.repacketizer.proofs.add_read.Goals.{In-Ok, Start}

-- what was read of an accepted packet
reading : (c : In-Ok)
    → Read c.args.self_delimited c.args.«data».now (packet_with c.in-Ok.p c.read_into.new.lengths)
reading c =
    parsed_accepted _ _ _ (lent_accepted _ _ _ _ c.read_into.ensures _ c.in-Ok.is)

-- the frames held are at most 48
few : (c : Start) → c.args.h.nb_frames ≤ 48
few c = head_few (search rules) c.requires

pub returns-then-data-gt-MOST_PACKET : goal.returns-then-data-gt-MOST_PACKET
returns-then-data-gt-MOST_PACKET c =
    let rp = collector_of c.args.h c.args.len.now c.args.packet.now in
    refused_as (add_long c.args.self_delimited rp c.args.«data».now c.args.store.now c.if-data-gt-MOST_PACKET.true) c.refused_add.ensures

pub slice_bounds-lengths-end : goal.slice_bounds-lengths-end
slice_bounds-lengths-end c =
    (reading (goal.at.slice_bounds-lengths-end c).In-Ok).inside

pub slice_bounds-add_block-end : goal.slice_bounds-add_block-end
slice_bounds-add_block-end c =
    sym (length-take-le _ _ (reading (goal.at.slice_bounds-add_block-end c).In-Ok).inside)

pub why_not-requires : goal.why_not-requires
why_not-requires c =
    few (goal.at.why_not-requires c).Start

pub add_block-requires : goal.add_block-requires
add_block-requires c =
    let q = packet_with c.in-Ok.p c.read_into.new.lengths in
    let bytes : Bytes c.args.«data».now = record { byte = λ i. (c.type_inv.«data» i).fits } in
    let f = facts c.args.self_delimited c.args.«data».now q.toc (lengths_of q) q.first q.taken bytes
    (reading (goal.at.add_block-requires c).In-Ok).means in record {
      collector = c.requires;
      frames = (f.some, f.few, f.small, omega (arith, f.block, f.within));
    }

pub returns-in-Ok : goal.returns-in-Ok
returns-in-Ok c =
    let q = packet_with c.in-Ok.p c.read_into.new.lengths in
    let rp = collector_of c.args.h c.args.len.now c.args.packet.now in
    rw (add_read c.args.self_delimited rp c.args.«data».now c.args.store.now q.toc (lengths_of q) q.first q.taken
    (record { byte = λ i. (c.type_inv.«data» i).fits }) (reading (goal.at.returns-in-Ok c).In-Ok).short
    (reading (goal.at.returns-in-Ok c).In-Ok).means)
    c.add_block.ensures

pub returns-in-Err : goal.returns-in-Err
returns-in-Err c =
    let rp = collector_of c.args.h c.args.len.now c.args.packet.now in
    let refused =
    refused_lem c.args.self_delimited c.args.«data».now (lent_refused _ _ _ _ c.read_into.ensures _ c.in-Err.is)
    c.if-data-gt-MOST_PACKET.false rp c.args.store.now in
    refused_as (why_refused c.args.h c.args.len.now c.args.packet.now c.args.«data».now c.args.store.now _ c.why_not.ensures refused)
    c.refused_add-in-Err.ensures
