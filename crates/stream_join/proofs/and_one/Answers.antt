-- `stream_join::and_one` meets its contract: by whether it is the first.
use Rattle.stream_join.proofs.Surveyed.{one_first, one_later}
use Rattle.stream_join.proofs.and_one.Goals as goal

pub returns-then-i-eq0 : goal.returns-then-i-eq0
returns-then-i-eq0 c =
    one_first c.args.t c.args.i c.args.lasts c.args.bytes c.if-i-eq0.true

pub returns : goal.returns
returns c =
    one_later c.args.t c.args.i c.args.lasts c.args.bytes c.if-i-eq0.false c.still_equal.ensures
