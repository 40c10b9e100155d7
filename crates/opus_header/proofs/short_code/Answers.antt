-- `opus_header::short_code` meets its contract: the code by the tests on the way.
use borrow.Author.Tests.{lt-ltb, le-ltb}
use Rattle.opus_header.proofs.short_code.Goals as goal

pub returns-then-count-lt2 : goal.returns-then-count-lt2
returns-then-count-lt2 c =
    rw (lt-ltb c.args.count 2 c.if-count-lt2.true)

pub returns-then-same : goal.returns-then-same
returns-then-same c =
    rw (le-ltb c.args.count 2 c.if-count-lt2.false, c.if-same.true)

pub returns-else-same : goal.returns-else-same
returns-else-same c =
    rw (le-ltb c.args.count 2 c.if-count-lt2.false, c.if-same.false)
