-- `repacketizer::add_two` meets its contract: frames that go with those held are copied behind them.
use Prim.Native.Nat.{◌+◌}
use mathlib.Core.Path.{◌≡◌, ap}
use mathlib.Core.Bool.{not}
use mathlib.Core.List.{[], ◌∷◌}
use native.Mathlib.Omega.{arith}
use borrow.Author.Rules.{rules}
use lib.ListN.{length-set}
use Rattle.opus_format.specs.Frames.{total}
use Rattle.repacketizer.proofs.Lengths.{two_put, numbers_kept}
use Rattle.repacketizer.proofs.Adds.{Joins, joins, joins_numbers, joins_block, head_few, block_stays}
use Rattle.repacketizer.proofs.add_two.Goals as goal
use Rattle.repacketizer.proofs.add_two.Goals.{After-wide-2, Else-not-goes_with}

-- the frames go with those held
fits : (c : Else-not-goes_with)
    → Joins c.args.h c.args.len.now c.args.packet.now c.args.at c.args.toc (c.args.m ∷ c.args.n ∷ []) c.args.store.now
fits c =
    joins (search rules) c.requires.collector c.args.toc (c.args.m ∷ c.args.n ∷ []) c.goes_with.ensures (ap not c.if-not-goes_with.false)
    (omega arith) c.requires.frames.0

-- the bytes of the frames, as the code counts them
sum : (c : After-wide-2)
    → c.wide.result + c.wide-2.result ≡ total (c.args.m ∷ c.args.n ∷ [])
sum c = omega (arith, c.wide.ensures.0, c.wide-2.ensures.0)

pub goes_with-requires : goal.goes_with-requires
goes_with-requires c =
    (head_few (search rules) c.requires.collector, omega arith)

pub copy_into-requires : goal.copy_into-requires
copy_into-requires c =
    (omega (arith, sum c, (fits (goal.at.copy_into-requires c).Else-not-goes_with).room), omega (arith, sum c, c.requires.frames.1))

pub bounds-len-place : goal.bounds-len-place
bounds-len-place c =
    let j = fits (goal.at.bounds-len-place c).Else-not-goes_with in
    omega (arith, c.wide-place.ensures.0, j.few, j.ready.lengths48)

pub bounds-len-place-2 : goal.bounds-len-place-2
bounds-len-place-2 c =
    let j = fits (goal.at.bounds-len-place-2 c).Else-not-goes_with in
    simp length-set (omega (arith, c.wide-place.ensures.0, j.few, j.ready.lengths48))

pub overflow_add-place : goal.overflow_add-place
overflow_add-place c =
    omega (arith, c.wide-place.ensures.0, (fits (goal.at.overflow_add-place c).Else-not-goes_with).few)

pub put_numbers-requires : goal.put_numbers-requires
put_numbers-requires c =
    joins_numbers (fits (goal.at.put_numbers-requires c).Else-not-goes_with) c.wide-place.ensures.0 (omega arith)

pub more_frames-requires : goal.more_frames-requires
more_frames-requires c =
    omega (arith, (fits (goal.at.more_frames-requires c).Else-not-goes_with).few)

pub shape_of-packet : goal.shape_of-packet
shape_of-packet c =
    numbers_kept c.args.packet.now c.wide-place.result (c.wide-place.result + 2) c.put_numbers.ensures

pub returns : goal.returns
returns c =
    joins_block (fits (goal.at.returns c).Else-not-goes_with) c.args.«data».now c.args.first c.wide-place.ensures.0 c.copy_into.ensures
    (two_put c.args.len.now c.wide-place.result c.args.m c.args.n) c.put_numbers.ensures c.more_frames.ensures (sum (goal.at.returns c).After-wide-2)
    (omega arith)

pub returns-then-not-goes_with : goal.returns-then-not-goes_with
returns-then-not-goes_with c =
    block_stays c.args.h c.args.len.now c.args.packet.now c.args.toc (c.args.m ∷ c.args.n ∷ []) c.args.«data».now c.args.first c.args.store.now
    c.goes_with.ensures (ap not c.if-not-goes_with.true) c.refused_add.ensures
