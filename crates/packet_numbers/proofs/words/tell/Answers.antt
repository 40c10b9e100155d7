-- `packet_numbers::words::tell` meets its contract: what the words accept is sound, and all else is looked at frame by frame.
use Rattle.std.proofs.Common.{take}
use Rattle.packet_numbers.proofs.Lanes.{told_quick, told_wrong, told_well}
use Rattle.packet_numbers.proofs.words.tell.Goals as goal

pub returns-then-numbers_go : goal.returns-then-numbers_go
returns-then-numbers_go c =
    told_quick (take c.args.n c.args.ns.now) (take c.args.n c.args.ks.now) (c.total_of-t.ensures c.if-t-ne-NOT_SOUND.true)
    (c.numbers_go.ensures c.if-numbers_go.true)

pub returns-then-l-gt1 : goal.returns-then-l-gt1
returns-then-l-gt1 c =
    told_wrong c.args.ns.now c.args.ks.now c.args.n c.look-l.ensures.1 c.if-l-gt1.true

pub returns : goal.returns
returns c =
    told_well c.args.ns.now c.args.ks.now c.args.n c.look-l.ensures.1 c.look-l.ensures.0 c.if-l-gt1.false c.requires.1
