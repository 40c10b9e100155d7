-- `opus_header::compact_form` meets its contract, by its test.
use borrow.Author.Tests.{lt-ltb, le-ltb}
use Rattle.opus_header.proofs.compact_form.Goals as goal

pub returns-then-count-lt3 : goal.returns-then-count-lt3
returns-then-count-lt3 c =
    rw (lt-ltb _ _ c.if-count-lt3.true)

pub returns : goal.returns
returns c =
    rw (le-ltb _ _ c.if-count-lt3.false)
