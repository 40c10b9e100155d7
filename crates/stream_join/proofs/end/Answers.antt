-- `stream_join::end` meets its contract: by whether all last equally long.
use Rattle.stream_join.proofs.end.Goals as goal

pub returns-then-t : goal.returns-then-t
returns-then-t c =
    rw c.if-t.true

pub returns : goal.returns
returns c =
    rw c.if-t.false
