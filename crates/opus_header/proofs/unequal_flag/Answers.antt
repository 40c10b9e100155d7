-- `opus_header::unequal_flag` meets its contract: the flag by its test.
use Rattle.opus_header.proofs.unequal_flag.Goals as goal

pub returns-then-same : goal.returns-then-same
returns-then-same c =
    rw c.if-same.true

pub returns-else-same : goal.returns-else-same
returns-else-same c =
    rw c.if-same.false
