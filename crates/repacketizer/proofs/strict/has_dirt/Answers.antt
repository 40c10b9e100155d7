-- `repacketizer::strict::has_dirt` meets its contract: a packet that is too long is not looked at.
use Rattle.repacketizer.proofs.StrictAdds.{has_long, has_short}
use Rattle.repacketizer.proofs.strict.has_dirt.Goals as goal

pub returns-then-data-gt-MOST_PACKET : goal.returns-then-data-gt-MOST_PACKET
returns-then-data-gt-MOST_PACKET c =
    has_long c.args.self_delimited c.args.«data».now c.if-data-gt-MOST_PACKET.true

pub returns : goal.returns
returns c =
    has_short c.args.self_delimited c.args.«data».now c.if-data-gt-MOST_PACKET.false c.is_dirty.ensures
