-- `packet_judge::weigh_packet` meets its contract: by what was read without an array, and any other packet is read whole.
use mathlib.Core.Path.{sym}
use mathlib.Core.Bool.{false}
use borrow.Author.Rules.{rules}
use Rattle.laws.specs.Bytes.{Bytes}
use Rattle.opus.proofs.AtShort.{none_read}
use Rattle.packet_judge.proofs.Verdicts.{judged_long, unreadable-said, least_long, least_unread}
use Rattle.packet_judge.proofs.Short.{one_clean, equal-said, unequal_clean}
use Rattle.packet_judge.proofs.weigh_packet.Goals as goal
use Rattle.packet_judge.proofs.weigh_packet.Goals.{After-short_at-s}

bytes : (c : After-short_at-s) → Bytes c.args.«data».now
bytes c = record { byte = λ i. search rules }

pub returns-then-self_delimited : goal.returns-then-self_delimited
returns-then-self_delimited c =
    record { verdict = rw c.if-self_delimited.true c.weigh_whole.ensures.verdict; least = rw c.if-self_delimited.true c.weigh_whole.ensures.least }

pub returns-then-m-n : goal.returns-then-m-n
returns-then-m-n c =
    let whole = unequal_clean c.args.«data».now (bytes (goal.at.returns-then-m-n c).After-short_at-s) c.short_at-s.result c.short_at-s.ensures _ _ _
    c.in-Two.is c.if-m-n.true in
    record { verdict = rw c.if-self_delimited.false whole.0; least = rw c.if-self_delimited.false whole.1 }

pub returns-then-data-gt-MOST_PACKET : goal.returns-then-data-gt-MOST_PACKET
returns-then-data-gt-MOST_PACKET c = record {
  verdict = rw c.if-self_delimited.false (sym (judged_long _ c.args.«data».now c.if-data-gt-MOST_PACKET.true));
  least = rw c.if-self_delimited.false (sym (least_long _ c.args.«data».now c.if-data-gt-MOST_PACKET.true));
}

pub returns-in-One : goal.returns-in-One
returns-in-One c =
    let whole = one_clean c.args.«data».now (bytes (goal.at.returns-in-One c).After-short_at-s) c.short_at-s.result c.short_at-s.ensures _ _ c.in-One.is in
    record { verdict = rw c.if-self_delimited.false whole.0; least = rw c.if-self_delimited.false whole.1 }

pub returns-else-m-n : goal.returns-else-m-n
returns-else-m-n c =
    let whole = equal-said c.args.«data».now (bytes (goal.at.returns-else-m-n c).After-short_at-s) c.short_at-s.result c.short_at-s.ensures _ _ _ c.in-Two.is
    c.if-m-n.false c.verdict.ensures in
    record { verdict = rw c.if-self_delimited.false whole.0; least = rw c.if-self_delimited.false whole.1 }

pub returns-else-data-gt-MOST_PACKET : goal.returns-else-data-gt-MOST_PACKET
returns-else-data-gt-MOST_PACKET c =
    let unread = none_read false c.args.«data».now (bytes (goal.at.returns-else-data-gt-MOST_PACKET c).After-short_at-s) c.short_at-s.result
    c.short_at-s.ensures _ _ c.in-Broken.is in
    record {
      verdict = rw c.if-self_delimited.false (sym (unreadable-said _ c.args.«data».now c.if-data-gt-MOST_PACKET.false _ _ unread));
      least = rw c.if-self_delimited.false (sym (least_unread _ c.args.«data».now _ _ unread));
    }

pub returns-in-Counted : goal.returns-in-Counted
returns-in-Counted c = record {
  verdict = rw c.if-self_delimited.false c.weigh_whole-in-Counted.ensures.verdict;
  least = rw c.if-self_delimited.false c.weigh_whole-in-Counted.ensures.least;
}
