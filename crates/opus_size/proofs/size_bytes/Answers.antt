-- `opus_size::size_bytes` meets its contract: the two forms of a field.
-- Assumes nothing.
use Rattle.opus_size.proofs.Fields.{short, two_bytes}
use Rattle.opus_size.proofs.size_bytes.Goals as goal

pub returns-then-size-lt252 : goal.returns-then-size-lt252
returns-then-size-lt252 c =
    rw (short c.args.size c.if-size-lt252.true)

pub returns-else-size-lt252 : goal.returns-else-size-lt252
returns-else-size-lt252 c =
    rw (two_bytes c.args.size c.if-size-lt252.false)
