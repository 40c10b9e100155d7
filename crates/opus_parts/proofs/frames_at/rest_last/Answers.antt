-- `opus_parts::frames_at::rest_last` meets its contract: the last frame's length is what the others leave.
use Rattle.opus_parts.proofs.AtFrames.{sizes_inside, rest_long, rest_read}
use Rattle.opus_parts.proofs.frames_at.rest_last.Goals as goal

pub overflow_sub-left : goal.overflow_sub-left
overflow_sub-left c =
    (sizes_inside c.args.s.now c.args.k c.args.next c.args.sum c.args.lengths.now c.requires.read).0

pub overflow_sub-last : goal.overflow_sub-last
overflow_sub-last c =
    (sizes_inside c.args.s.now c.args.k c.args.next c.args.sum c.args.lengths.now c.requires.read).1

pub returns-then-last-gt-MOST_BYTES : goal.returns-then-last-gt-MOST_BYTES
returns-then-last-gt-MOST_BYTES c =
    λ r. rest_long c.args.s.now c.args.k r c.args.next c.args.sum c.args.lengths.now c.requires.read c.if-last-gt-MOST_BYTES.true _

pub returns : goal.returns
returns c =
    λ r. rest_read c.args.s.now c.args.k r c.args.next c.args.sum c.args.lengths.now c.requires.read c.requires.few c.if-last-gt-MOST_BYTES.false
