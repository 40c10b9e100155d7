-- `repacketizer::add_block` meets its contract: frames that go with those held are copied behind them.
use Prim.Native.Nat.{◌+◌}
use mathlib.Core.Path.{◌≡◌, ◌∙◌, ap}
use mathlib.Core.Bool.{not}
use native.Mathlib.Omega.{arith}
use borrow.Author.Rules.{rules}
use lib.ListN.{length}
use Rattle.opus_format.specs.Frames.{total}
use Rattle.collector.proofs.Counts.{sum_small}
use Rattle.repacketizer.proofs.Lengths.{numbers_kept}
use Rattle.repacketizer.proofs.Adds.{Joins, joins, joins_numbers, joins_block, head_few, block_stays}
use Rattle.repacketizer.proofs.add_block.Goals as goal
use Rattle.repacketizer.proofs.add_block.Goals.{After-wide, Else-not-goes_with}

-- the frames go with those held
fits : (c : Else-not-goes_with)
    → Joins c.args.h c.args.len.now c.args.packet.now c.args.at c.args.toc c.args.ns.now c.args.store.now
fits c =
    joins (search rules) c.requires.collector c.args.toc c.args.ns.now c.goes_with.ensures (ap not c.if-not-goes_with.false) c.requires.frames.1
    c.requires.frames.2

-- the bytes of the new frames, as the code counts them
sum : (c : After-wide)
    → c.wide.result ≡ total c.args.ns.now
sum c =
    c.wide.ensures.0 ∙ (c.total_16-sum.ensures ∙ sum_small c.args.ns.now c.requires.frames.1 c.requires.frames.2)

pub goes_with-requires : goal.goes_with-requires
goes_with-requires c =
    (head_few (search rules) c.requires.collector, omega (arith, c.requires.frames.1))

pub copy_into-requires : goal.copy_into-requires
copy_into-requires c =
    (omega (arith, sum c, (fits (goal.at.copy_into-requires c).Else-not-goes_with).room), omega (arith, sum c, c.requires.frames.3))

pub put_lengths-requires : goal.put_lengths-requires
put_lengths-requires c = (
  c.requires.frames.0,
  omega (
    arith,
    c.wide-place.ensures.0,
    (fits (goal.at.put_lengths-requires c).Else-not-goes_with).few,
    (fits (goal.at.put_lengths-requires c).Else-not-goes_with).ready.lengths48,
  ),
)

pub overflow_add-place : goal.overflow_add-place
overflow_add-place c =
    omega (arith, c.wide-place.ensures.0, (fits (goal.at.overflow_add-place c).Else-not-goes_with).few)

pub put_numbers-requires : goal.put_numbers-requires
put_numbers-requires c =
    joins_numbers (fits (goal.at.put_numbers-requires c).Else-not-goes_with) c.wide-place.ensures.0 (omega arith)

pub more_frames-requires : goal.more_frames-requires
more_frames-requires c =
    (fits (goal.at.more_frames-requires c).Else-not-goes_with).few

pub shape_of-packet : goal.shape_of-packet
shape_of-packet c =
    numbers_kept c.args.packet.now c.wide-place.result (c.wide-place.result + length c.args.ns.now) c.put_numbers.ensures

pub returns : goal.returns
returns c =
    joins_block (fits (goal.at.returns c).Else-not-goes_with) c.args.«data».now c.args.first c.wide-place.ensures.0 c.copy_into.ensures c.put_lengths.ensures
    c.put_numbers.ensures c.more_frames.ensures (sum (goal.at.returns c).After-wide) (omega arith)

pub returns-then-not-goes_with : goal.returns-then-not-goes_with
returns-then-not-goes_with c =
    block_stays c.args.h c.args.len.now c.args.packet.now c.args.toc c.args.ns.now c.args.«data».now c.args.first c.args.store.now c.goes_with.ensures
    (ap not c.if-not-goes_with.true) c.refused_add.ensures
