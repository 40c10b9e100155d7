-- `compaction::compact_share` meets its contract: two refusals, a share, and the refusal of one that has done nothing before a record.
use Rattle.compaction.proofs.Nights.{past_told, short-told, some_done, none_left, over_budget}
use Rattle.compaction.proofs.compact_share.Goals as goal

pub returns-then-data-start : goal.returns-then-data-start
returns-then-data-start c =
    let whole = past_told c.args.«data».now c.args.start c.args.budget c.args.dst.now c.if-data-start.true in
    record { answer = whole.0; bytes = whole.1 }

pub returns-then-dst-budget : goal.returns-then-dst-budget
returns-then-dst-budget c =
    let whole = short-told c.args.«data».now c.args.start c.args.budget c.args.dst.now c.if-data-start.false c.if-dst-budget.true in
    record { answer = whole.0; bytes = whole.1 }

pub returns-then-s-data : goal.returns-then-s-data
returns-then-s-data c =
    let whole = over_budget c.args.«data».now c.args.start c.args.budget c.args.dst.now c.share_from-s.new.dst c.if-data-start.false
    c.if-dst-budget.false c.share_from-s.result c.share_from-s.ensures.answer c.share_from-s.ensures.bytes c.if-s-eq0.true c.if-s-data.true in
    record { answer = whole.0; bytes = whole.1 }

pub returns-else-s-data : goal.returns-else-s-data
returns-else-s-data c =
    let whole = none_left c.args.«data».now c.args.start c.args.budget c.args.dst.now c.share_from-s.new.dst c.if-data-start.false
    c.if-dst-budget.false c.share_from-s.result c.share_from-s.ensures.answer c.share_from-s.ensures.bytes c.if-s-eq0.true c.if-s-data.false in
    record { answer = whole.0; bytes = whole.1 }

pub returns-else-s-eq0 : goal.returns-else-s-eq0
returns-else-s-eq0 c =
    let whole = some_done c.args.«data».now c.args.start c.args.budget c.args.dst.now c.share_from-s.new.dst c.if-data-start.false
    c.if-dst-budget.false c.share_from-s.result c.share_from-s.ensures.answer c.share_from-s.ensures.bytes c.if-s-eq0.false in
    record { answer = whole.0; bytes = whole.1 }
