-- `opus_header::padding_flag` meets its contract: the flag by its test.
use borrow.Author.Tests.{eq-eqb, ne_eqb}
use Rattle.opus_header.proofs.padding_flag.Goals as goal

pub returns-then-missing-eq0 : goal.returns-then-missing-eq0
returns-then-missing-eq0 c =
    rw (eq-eqb c.args.missing 0 c.if-missing-eq0.true)

pub returns-else-missing-eq0 : goal.returns-else-missing-eq0
returns-else-missing-eq0 c =
    rw (ne_eqb c.args.missing 0 c.if-missing-eq0.false)
