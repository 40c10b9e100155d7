-- `repacketizer::more_frames` meets its contract: the first packet sets the TOC byte and the frame size.
use Rattle.repacketizer.proofs.Adds.{more_first, more_later}
use Rattle.repacketizer.proofs.more_frames.Goals as goal

pub returns-then-count-eq0 : goal.returns-then-count-eq0
returns-then-count-eq0 c =
    more_first c.args.h c.wide-count.result c.wide-count.ensures.0 c.args.toc c.args.n c.if-count-eq0.true c.samples_8k-each.result c.samples_8k-each.ensures

pub returns : goal.returns
returns c =
    more_later c.args.h c.wide-count.result c.wide-count.ensures.0 c.args.toc c.args.n c.if-count-eq0.false
