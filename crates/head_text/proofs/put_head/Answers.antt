-- The fields are passed one by one.
use borrow.Author.Rules.{rules}
use Rattle.opus_head.proofs.Laid.{passed_is}
use Rattle.head_text.proofs.put_head.Goals as goal

pub returns : goal.returns
returns g c = rw (passed_is c.args.head (search rules)) at c.put_fields.ensures
