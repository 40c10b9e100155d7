-- `aveluafi::reading::aveluafi_packet_parse_impl` meets its contract: a self-delimited packet that was read without an array is that record, and any
-- other is read whole.
use native.Mathlib.Omega.{arith}
use mathlib.Core.Path.{◌≡◌, sym, ap, ◌∙◌}
use mathlib.Core.List.{[], ◌∷◌}
use Rattle.opus_format.specs.Reading.{refused, read}
use Rattle.opus_format.proofs.Within.{refused_within}
use Rattle.opus.specs.Answers.{short_at}
use Rattle.opus.proofs.AtShort.{Seen, one_seen, two_seen, none_read, one_ends, two_ends}
use Rattle.opus.proofs.Lent.{lent_accepted, lent_refused}
use Rattle.aveluafi.proofs.Records.{record_read, record_unread, one_record, two_record, long_record, broken_record}
use Rattle.aveluafi.proofs.reading.aveluafi_packet_parse_impl.Goals as goal
use Rattle.aveluafi.proofs.reading.aveluafi_packet_parse_impl.Goals.{After-own_at-s, Else-data-gt-MOST_PACKET, In-Broken, In-One, In-Two}

one : (c : In-One)
    → Seen c.args.self_delimited c.args.«data».now (c.in-One.size ∷ []) c.in-One.first
one c =
    one_seen c.args.self_delimited c.args.«data».now (record { byte = λ i. (c.shared_slice_known-1.given i).fits }) c.own_at-s.result
    (c.own_at-s.ensures ∙ ap (λ b. short_at b c.args.«data».now) (sym c.if-self_delimited.true)) _ _ c.in-One.is

two : (c : In-Two)
    → Seen c.args.self_delimited c.args.«data».now (c.in-Two.size ∷ c.in-Two.last ∷ []) c.in-Two.first
two c =
    two_seen c.args.self_delimited c.args.«data».now (record { byte = λ i. (c.shared_slice_known-1.given i).fits }) c.own_at-s.result
    (c.own_at-s.ensures ∙ ap (λ b. short_at b c.args.«data».now) (sym c.if-self_delimited.true)) _ _ _ c.in-Two.is

-- a packet that breaks a rule
none : (c : In-Broken)
    → read c.args.self_delimited c.args.«data».now ≡ refused c.in-Broken.rule c.in-Broken.place
none c =
    none_read c.args.self_delimited c.args.«data».now (record { byte = λ i. (c.shared_slice_known-1.given i).fits }) c.own_at-s.result
    (c.own_at-s.ensures ∙ ap (λ b. short_at b c.args.«data».now) (sym c.if-self_delimited.true)) _ _ c.in-Broken.is

pub returns-then-data-gt-MOST_PACKET : goal.returns-then-data-gt-MOST_PACKET
returns-then-data-gt-MOST_PACKET c =
    c.no_packet.ensures ∙ long_record c.args.self_delimited c.args.«data».now c.if-data-gt-MOST_PACKET.true

pub bounds-data-0 : goal.bounds-data-0
bounds-data-0 c =
    let f = (one (goal.at.bounds-data-0 c).In-One).known in
    omega (arith, f.headed, f.block, f.within)

pub overflow_add-result : goal.overflow_add-result
overflow_add-result c =
    let f = (one (goal.at.overflow_add-result c).In-One).known in
    omega (arith, f.block, f.within, c.if-data-gt-MOST_PACKET.false)

pub returns-in-One : goal.returns-in-One
returns-in-One c =
    one_record c.args.self_delimited c.args.«data».now c.if-data-gt-MOST_PACKET.false _ _ (one (goal.at.returns-in-One c).In-One).taken
    (one (goal.at.returns-in-One c).In-One).means c.report_of.ensures
    (one_ends _ _ (one (goal.at.returns-in-One c).In-One))

pub bounds-data-0-in-Two : goal.bounds-data-0-in-Two
bounds-data-0-in-Two c =
    let f = (two (goal.at.bounds-data-0-in-Two c).In-Two).known in
    omega (arith, f.headed, f.block, f.within)

pub overflow_add-result-in-Two : goal.overflow_add-result-in-Two
overflow_add-result-in-Two c =
    let f = (two (goal.at.overflow_add-result-in-Two c).In-Two).known in
    omega (arith, f.block, f.within, c.if-data-gt-MOST_PACKET.false)

pub overflow_add-result-in-Two-2 : goal.overflow_add-result-in-Two-2
overflow_add-result-in-Two-2 c =
    let f = (two (goal.at.overflow_add-result-in-Two-2 c).In-Two).known in
    omega (arith, f.block, f.within, c.if-data-gt-MOST_PACKET.false)

pub returns-in-Two : goal.returns-in-Two
returns-in-Two c =
    two_record c.args.self_delimited c.args.«data».now c.if-data-gt-MOST_PACKET.false _ _ _ (two (goal.at.returns-in-Two c).In-Two).taken
    (two (goal.at.returns-in-Two c).In-Two).means c.report_of-in-Two.ensures
    (two_ends _ _ _ (two (goal.at.returns-in-Two c).In-Two))

pub rule_refusal-requires : goal.rule_refusal-requires
rule_refusal-requires c =
    omega (arith, refused_within c.args.self_delimited c.args.«data».now _ _ (none c), c.if-data-gt-MOST_PACKET.false)

pub returns-in-Broken : goal.returns-in-Broken
returns-in-Broken c =
    c.no_packet-in-Broken.ensures
    ∙ broken_record c.args.self_delimited c.args.«data».now c.if-data-gt-MOST_PACKET.false _ _ (none (goal.at.returns-in-Broken c).In-Broken)
    c.rule_refusal.ensures

pub returns-in-Ok : goal.returns-in-Ok
returns-in-Ok c =
    c.whole_packet.ensures ∙ record_read _ _ _ _ (lent_accepted _ _ _ _ c.read_into.ensures _ c.in-Ok.is)

pub returns-in-Err : goal.returns-in-Err
returns-in-Err c =
    c.no_packet-in-Err.ensures ∙ record_unread _ _ (lent_refused _ _ _ _ c.read_into.ensures _ c.in-Err.is)
