-- `opus_parts::frames_at::equal_frames` meets its contract: by the delimiting.
use Rattle.opus_parts.proofs.frames_at.equal_frames.Goals as goal

pub returns-then-self_delimited : goal.returns-then-self_delimited
returns-then-self_delimited c =
    rw c.if-self_delimited.true (c.own_equal.ensures c.args.rule)

pub returns-else-self_delimited : goal.returns-else-self_delimited
returns-else-self_delimited c =
    rw c.if-self_delimited.false c.shared_equal.ensures
