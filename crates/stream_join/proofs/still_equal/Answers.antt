-- `stream_join::still_equal` meets its contract: by the test.
use Rattle.stream_join.proofs.Surveyed.{equal_so, equal-not}
use Rattle.stream_join.proofs.still_equal.Goals as goal

pub returns-then-a-b : goal.returns-then-a-b
returns-then-a-b c =
    equal_so c.args.equal c.args.a c.args.b c.if-a-b.true

pub returns : goal.returns
returns c =
    equal-not c.args.equal c.args.a c.args.b c.if-a-b.false
