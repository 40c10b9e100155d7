-- `opus_parts::frames_at::last_frame` meets its contract: by the delimiting.
use Rattle.opus_parts.proofs.frames_at.last_frame.Goals as goal

pub returns-then-self_delimited : goal.returns-then-self_delimited
returns-then-self_delimited c =
    λ r. rw c.if-self_delimited.true (c.own_last.ensures r)

pub returns-else-self_delimited : goal.returns-else-self_delimited
returns-else-self_delimited c =
    λ r. rw c.if-self_delimited.false (c.rest_last.ensures r)
