-- `repacketizer::add_by` meets its contract: dirty padding is refused where it is asked for, and all else is read and added.
use mathlib.Core.Path.{sym, ◌∙◌}
use borrow.Author.Rules.{rules}
use Rattle.collector.specs.Parts.{collector_of}
use Rattle.repacketizer.proofs.Adds.{head_few, refused_as}
use Rattle.repacketizer.proofs.StrictAdds.{by_dirt, by_no_dirt}
use Rattle.repacketizer.proofs.add_by.Goals as goal

pub dirty_refusal-requires : goal.dirty_refusal-requires
dirty_refusal-requires c =
    head_few (search rules) c.requires

pub returns-then-asks_dirt : goal.returns-then-asks_dirt
returns-then-asks_dirt c =
    refused_as
    (by_dirt c.args.strict c.args.self_delimited c.args.h c.args.len.now c.args.packet.now c.args.«data».now c.args.store.now
    (sym c.asks_dirt.ensures ∙ c.if-asks_dirt.true) c.dirty_refusal.ensures)
    c.refused_add.ensures

pub returns : goal.returns
returns c =
    rw (by_no_dirt c.args.strict c.args.self_delimited (collector_of c.args.h c.args.len.now c.args.packet.now) c.args.«data».now
    c.args.store.now (sym c.asks_dirt.ensures ∙ c.if-asks_dirt.false))
    c.add_read.ensures
