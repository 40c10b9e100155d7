-- `repacketizer::strict::asks_dirt` meets its contract.
use Rattle.repacketizer.proofs.StrictAdds.{asks_ordinary, asks_strict}
use Rattle.repacketizer.proofs.strict.asks_dirt.Goals as goal

pub returns-then-strict : goal.returns-then-strict
returns-then-strict c =
    asks_strict c.args.strict c.args.self_delimited c.args.«data».now c.if-strict.true c.has_dirt.ensures

pub returns : goal.returns
returns c =
    asks_ordinary c.args.strict c.args.self_delimited c.args.«data».now c.if-strict.false
