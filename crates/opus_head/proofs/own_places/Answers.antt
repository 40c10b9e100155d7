-- `opus_head::own_places` meets its contract.
use Rattle.opus_head.proofs.Fields.{own_one_lem, own_two}
use Rattle.opus_head.proofs.own_places.Goals as goal

pub returns-then-channels-gt1 : goal.returns-then-channels-gt1
returns-then-channels-gt1 c =
    own_two c.args.channels c.if-channels-gt1.true

pub returns-else-channels-gt1 : goal.returns-else-channels-gt1
returns-else-channels-gt1 c =
    own_one_lem c.args.channels c.if-channels-gt1.false
