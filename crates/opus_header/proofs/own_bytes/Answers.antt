-- `opus_header::own_bytes` meets its contract, by the delimiting.
use Rattle.opus_header.proofs.own_bytes.Goals as goal

pub returns-then-self_delimited : goal.returns-then-self_delimited
returns-then-self_delimited c =
    rw c.if-self_delimited.true c.size_bytes.ensures
