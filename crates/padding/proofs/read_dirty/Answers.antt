-- `padding::read_dirty` meets its contract: the packet is read, and the bytes behind its frames are looked at.
use native.Mathlib.Omega.{arith}
use mathlib.Core.Path.{◌≡◌, sym}
use lib.Seq.{length-take-le}
use Rattle.opus_format.specs.Frames.{total}
use Rattle.opus.proofs.Parsed.{lengths_of}
use Rattle.opus.specs.Answers.{packet_with}
use Rattle.opus.proofs.Lent.{lent_accepted, lent_refused}
use Rattle.opus_header.proofs.Forms.{sums_total}
use Rattle.padding.proofs.Looked.{Framed, framed, dirt_told, dirt_refused}
use Rattle.padding.proofs.read_dirty.Goals as goal
use Rattle.padding.proofs.read_dirty.Goals.{After-sums_of-m, In-Ok}

reading : (c : In-Ok) → Framed c.args.self_delimited c.args.«data».now (packet_with c.in-Ok.p c.read_into.new.lengths)
reading c =
    framed _ _ _ (lent_accepted _ _ _ _ c.read_into.ensures _ c.in-Ok.is) (record { byte = λ i. (c.shared_slice_known-1.given i).fits })

summed : (c : After-sums_of-m) → c.sums_of-m.result.total ≡ total (lengths_of (packet_with c.in-Ok.p c.read_into.new.lengths))
summed c = sums_total (lengths_of (packet_with c.in-Ok.p c.read_into.new.lengths)) c.sums_of-m.ensures

pub returns-in_default : goal.returns-in_default
returns-in_default c =
    dirt_refused _ _ (lent_refused _ _ _ _ c.read_into.ensures _ c.in_default.is) c.requires

pub slice_bounds-lengths-end : goal.slice_bounds-lengths-end
slice_bounds-lengths-end c =
    (reading (goal.at.slice_bounds-lengths-end c).In-Ok).inside

pub slice_bounds-sums_of-end : goal.slice_bounds-sums_of-end
slice_bounds-sums_of-end c =
    sym (length-take-le _ _ (reading (goal.at.slice_bounds-sums_of-end c).In-Ok).inside)

pub sums_of-m-requires : goal.sums_of-m-requires
sums_of-m-requires c =
    (reading (goal.at.sums_of-m-requires c).In-Ok).some

pub overflow_add-from : goal.overflow_add-from
overflow_add-from c =
    let f = reading (goal.at.overflow_add-from c).In-Ok in
    omega (arith, summed (goal.at.overflow_add-from c).After-sums_of-m, f.block, f.within, c.requires)

pub slice_bounds-dirt_in-count : goal.slice_bounds-dirt_in-count
slice_bounds-dirt_in-count c =
    omega (arith, summed (goal.at.slice_bounds-dirt_in-count c).After-sums_of-m, (reading (goal.at.slice_bounds-dirt_in-count c).In-Ok).block)

pub slice_bounds-dirt_in-start : goal.slice_bounds-dirt_in-start
slice_bounds-dirt_in-start c =
    omega (arith, summed (goal.at.slice_bounds-dirt_in-start c).After-sums_of-m, (reading (goal.at.slice_bounds-dirt_in-start c).In-Ok).block)

pub slice_bounds-dirt_in-end : goal.slice_bounds-dirt_in-end
slice_bounds-dirt_in-end c =
    (reading (goal.at.slice_bounds-dirt_in-end c).In-Ok).within

pub returns : goal.returns
returns c =
    dirt_told c.args.self_delimited c.args.«data».now (packet_with c.in-Ok.p c.read_into.new.lengths)
    (reading (goal.at.returns c).In-Ok) c.sums_of-m.result c.sums_of-m.ensures c.dirt_in.result c.dirt_in.ensures
