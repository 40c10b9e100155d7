-- `opus_parts::frames_at::shared_equal` meets its contract: the slice is cut into equal parts.
use Rattle.opus_parts.proofs.AtFrames.{shared_uneven, shared_long, shared_read}
use Rattle.opus_parts.proofs.frames_at.shared_equal.Goals as goal

pub returns-then-len-count-ne0 : goal.returns-then-len-count-ne0
returns-then-len-count-ne0 c =
    shared_uneven c.args.s.now c.args.count c.args.rule c.if-len-count-ne0.true _

pub returns-then-each-gt-MOST_BYTES : goal.returns-then-each-gt-MOST_BYTES
returns-then-each-gt-MOST_BYTES c =
    shared_long c.args.s.now c.args.count c.args.rule c.if-len-count-ne0.false c.if-each-gt-MOST_BYTES.true _

pub returns : goal.returns
returns c =
    shared_read c.args.s.now c.args.count c.args.rule c.if-len-count-ne0.false _ c.same_lengths.ensures c.if-each-gt-MOST_BYTES.false
