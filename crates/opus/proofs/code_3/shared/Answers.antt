-- `opus::code_3::shared` meets its contract: by its tests.
use Rattle.opus.proofs.AtEqual.{shared_uneven, shared_long, shared_same}
use Rattle.opus.proofs.code_3.shared.Goals as goal

pub returns-then-rest-n-ne0 : goal.returns-then-rest-n-ne0
returns-then-rest-n-ne0 c =
    shared_uneven c.args.rest c.args.count c.args.first c.wide-n.result c.wide-n.ensures.0 c.if-rest-n-ne0.true

pub returns-then-each-gt-MOST_BYTES : goal.returns-then-each-gt-MOST_BYTES
returns-then-each-gt-MOST_BYTES c =
    shared_long c.args.rest c.args.count c.args.first c.wide-n.result c.wide-n.ensures.0 c.if-rest-n-ne0.false c.if-each-gt-MOST_BYTES.true

pub returns : goal.returns
returns c =
    shared_same c.args.rest c.args.count c.args.first c.wide-n.result c.wide-n.ensures.0 c.if-rest-n-ne0.false c.if-each-gt-MOST_BYTES.false
