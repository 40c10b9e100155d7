-- `opus_header::field_bytes` meets its contract: the two forms of a field.
use Rattle.opus_size.proofs.Fields.{short, two_bytes}
use Rattle.opus_header.proofs.field_bytes.Goals as goal

pub returns-then-n-lt252 : goal.returns-then-n-lt252
returns-then-n-lt252 c =
    rw (short c.args.n c.if-n-lt252.true)

pub returns-else-n-lt252 : goal.returns-else-n-lt252
returns-else-n-lt252 c =
    rw (two_bytes c.args.n c.if-n-lt252.false)
