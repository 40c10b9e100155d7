-- `aveluafi::reading::aveluafi_packet_parse` meets its contract: each arm is the record of what was read, and any other packet is read whole.
use native.Mathlib.Omega.{arith}
use mathlib.Core.Path.{◌≡◌, sym, ap, ◌∙◌}
use mathlib.Core.Bool.{false}
use mathlib.Core.List.{[], ◌∷◌}
use borrow.Author.Rules.{rules}
use lib.ListN.{replicate}
use Rattle.opus_format.specs.Frames.{padded48}
use Rattle.opus_format.specs.Reading.{refused, read}
use Rattle.opus_format.proofs.Facts.{facts}
use Rattle.opus_format.proofs.Within.{refused_within}
use Rattle.opus.specs.Answers.{answer_of, parsed}
use Rattle.opus.proofs.AtPacket.{parse_read}
use Rattle.opus.proofs.AtShort.{ShortRead, one_read, two_read, none_read, counted_some}
use Rattle.opus.proofs.AtEqual.{EqualRead, same_read, wrong_read}
use Rattle.opus.proofs.Lent.{lent_accepted, lent_refused}
use Rattle.aveluafi.proofs.Records.{record_read, record_unread, one_record, two_record, same_record, long_record, broken_record}
use Rattle.aveluafi.proofs.reading.aveluafi_packet_parse.Goals as goal
use Rattle.aveluafi.proofs.reading.aveluafi_packet_parse.Goals.{After-read_packet, After-short_at-s, In-Broken, In-One, In-Same, In-Two, In-Wrong}

one : (c : In-One)
    → ShortRead c.args.«data».now (c.in-One.n ∷ []) c.in-One.first
one c =
    one_read c.args.«data».now (record { byte = λ i. (c.shared_slice_known-1.given i).fits }) c.short_at-s.result c.short_at-s.ensures _ _ c.in-One.is

two : (c : In-Two)
    → ShortRead c.args.«data».now (c.in-Two.m ∷ c.in-Two.n ∷ []) c.in-Two.first
two c =
    two_read c.args.«data».now (record { byte = λ i. (c.shared_slice_known-1.given i).fits }) c.short_at-s.result c.short_at-s.ensures _ _ _ c.in-Two.is

-- a packet that breaks a rule
none : (c : In-Broken)
    → read false c.args.«data».now ≡ refused c.in-Broken.rule c.in-Broken.place
none c =
    none_read false c.args.«data».now (record { byte = λ i. (c.shared_slice_known-1.given i).fits }) c.short_at-s.result c.short_at-s.ensures _ _ c.in-Broken.is

same : (c : In-Same)
    → EqualRead c.args.«data».now c.in-Same.n c.in-Same.each c.in-Same.first
same c =
    same_read c.args.«data».now (record { byte = λ i. (c.shared_slice_known-1.given i).fits }) c.equal_at-e.result c.equal_at-e.ensures _ _ _ c.in-Same.is

wrong : (c : In-Wrong)
    → read false c.args.«data».now ≡ refused c.in-Wrong.rule c.in-Wrong.place
wrong c =
    wrong_read c.args.«data».now (record { byte = λ i. (c.shared_slice_known-1.given i).fits }) c.equal_at-e.result c.equal_at-e.ensures _ _ c.in-Wrong.is

-- what was read is what is to be answered
answered : (c : After-read_packet) → answer_of c.read_packet.result c.read_packet.new.lengths ≡ parsed false c.args.«data».now
answered c =
    c.read_packet.ensures ∙ parse_read false _ (omega (arith, c.if-data-gt-MOST_PACKET-2.false))

pub bounds-data-0 : goal.bounds-data-0
bounds-data-0 c =
    let f = (one (goal.at.bounds-data-0 c).In-One).known in
    omega (arith, f.headed, f.block, f.within)

pub returns-in-One : goal.returns-in-One
returns-in-One c =
    let k = one (goal.at.returns-in-One c).In-One in
    one_record false c.args.«data».now k.short _ _ k.taken k.means c.report_of.ensures
    (sym k.whole)

pub bounds-data-0-in-Two : goal.bounds-data-0-in-Two
bounds-data-0-in-Two c =
    let f = (two (goal.at.bounds-data-0-in-Two c).In-Two).known in
    omega (arith, f.headed, f.block, f.within)

pub returns-in-Two : goal.returns-in-Two
returns-in-Two c =
    let k = two (goal.at.returns-in-Two c).In-Two in
    two_record false c.args.«data».now k.short _ _ _ k.taken k.means c.report_of-in-Two.ensures
    (sym k.whole)

pub returns-then-data-gt-MOST_PACKET : goal.returns-then-data-gt-MOST_PACKET
returns-then-data-gt-MOST_PACKET c =
    c.no_packet.ensures ∙ long_record false c.args.«data».now c.if-data-gt-MOST_PACKET.true

pub rule_refusal-requires : goal.rule_refusal-requires
rule_refusal-requires c =
    omega (arith, refused_within false c.args.«data».now _ _ (none (goal.at.rule_refusal-requires c).In-Broken), c.if-data-gt-MOST_PACKET.false)

pub returns-in-Broken : goal.returns-in-Broken
returns-in-Broken c =
    c.no_packet-in-Broken.ensures
    ∙ broken_record false c.args.«data».now c.if-data-gt-MOST_PACKET.false _ _ (none (goal.at.returns-in-Broken c).In-Broken) c.rule_refusal.ensures

pub returns-then-data-gt-MOST_PACKET-2 : goal.returns-then-data-gt-MOST_PACKET-2
returns-then-data-gt-MOST_PACKET-2 c =
    c.no_packet-then-data-gt-MOST_PACKET-2.ensures ∙ long_record false c.args.«data».now c.if-data-gt-MOST_PACKET-2.true

pub same_lengths-requires : goal.same_lengths-requires
same_lengths-requires c =
    (omega (arith, c.wide.ensures.0, (same (goal.at.same_lengths-requires c).In-Same).few), search rules)

pub bounds-data-0-in-Same : goal.bounds-data-0-in-Same
bounds-data-0-in-Same c =
    let f = facts false c.args.«data».now _ _ _ _ (record { byte = λ i. (c.type_inv.«data» i).fits }) (same (goal.at.bounds-data-0-in-Same c).In-Same).means in
    omega (arith, f.headed, f.block, f.within)

pub returns-in-Same : goal.returns-in-Same
returns-in-Same c =
    same_record c.args.«data».now c.if-data-gt-MOST_PACKET-2.false _ _ _ (same (goal.at.returns-in-Same c).In-Same) c.report_of-in-Same.ensures
    (c.same_lengths.ensures ∙ ap (λ n. padded48 (replicate n c.in-Same.each)) c.wide.ensures.0)

pub rule_refusal-requires-in-Wrong : goal.rule_refusal-requires-in-Wrong
rule_refusal-requires-in-Wrong c =
    omega (arith, refused_within false c.args.«data».now _ _ (wrong c), c.if-data-gt-MOST_PACKET-2.false)

pub returns-in-Wrong : goal.returns-in-Wrong
returns-in-Wrong c =
    c.no_packet-in-Wrong.ensures
    ∙ broken_record false c.args.«data».now c.if-data-gt-MOST_PACKET-2.false _ _ (wrong (goal.at.returns-in-Wrong c).In-Wrong) c.rule_refusal-in-Wrong.ensures

pub read_packet-requires : goal.read_packet-requires
read_packet-requires c =
    let some = counted_some false _ (sym c.in-Counted.is ∙ c.short_at-s.ensures) in record {
      in_bounds = (omega (arith, some), omega (arith, c.if-data-gt-MOST_PACKET-2.false));
      zeros = search rules;
    }

pub returns-in-Ok : goal.returns-in-Ok
returns-in-Ok c =
    c.whole_packet.ensures ∙ record_read _ _ _ _ (lent_accepted _ _ _ _ (answered (goal.at.returns-in-Ok c).After-read_packet) _ c.in-Ok.is)

pub returns-in-Err : goal.returns-in-Err
returns-in-Err c =
    c.no_packet-in-Err.ensures ∙ record_unread _ _ (lent_refused _ _ _ _ (answered (goal.at.returns-in-Err c).After-read_packet) _ c.in-Err.is)
