-- `stream_join::take_answer` meets its contract: what no call takes is refused, then all streams are read, and then one is taken out.
use Prim.Native.Nat.{◌≤◌}
use mathlib.Core.Path.{◌≡◌, refl, sym, ◌∙◌}
use lib.ListN.{length}
use Rattle.opus_defines.specs.Numbers.{count_of}
use Rattle.opus_defines.proofs.Outcomes.{meets}
use Rattle.std.specs.Prelude.{Some}
use Rattle.opus_defines.proofs.Counts.{counted}
use Rattle.multistream.specs.Streams.{streams_of}
use Rattle.multistream.proofs.Counted.{streams_told}
use Rattle.stream_join.specs.Join.{by_held, packet_of}
use Rattle.stream_join.specs.Join as Join
use Rattle.stream_join.specs.Parts.{held_streams_in}
use Rattle.stream_join.proofs.Joining.{Told, needs_told, unequal-told, stuck_told}
use Rattle.stream_join.proofs.Taking.{take_long, take_wide, take_negative, take_above, take-checked, take-told, take-leaves, streams_few}
use Rattle.stream_join.proofs.take_answer.Goals as goal
use Rattle.stream_join.proofs.take_answer.Goals.{After-streams_of-n, After-survey_streams-x, In-Some, In-Needs}

streams : (n : After-streams_of-n) → streams_of n.args.nb_streams ≡ n.streams_of-n.result
streams n = streams_told n.args.nb_streams n.ranges.nb_streams n.streams_of-n.ensures

is : (c : In-Some) → count_of c.args.k ≡ Some c.in-Some.stream
is c =
    counted c.args.k c.ranges.k c.count_of.ensures.is c.in-Some.is

few : (n : After-streams_of-n) → n.streams_of-n.result ≤ 255
few n = streams_few n.args.nb_streams (streams n)

-- what is left once nothing is refused by -1
checked : (q : After-survey_streams-x)
    → Join.take q.args.«data».now q.args.nb_streams q.args.k (length q.args.dst.now)
    ≡ by_held (length q.args.dst.now) (packet_of q.in-Some.stream) (held_streams_in q.streams_of-n.result q.args.«data».now)
checked q =
    take-checked q.args.«data».now q.args.nb_streams q.args.k (length q.args.dst.now) q.if-data-gt-MOST_PACKET.false q.if-dst-gt-MOST_PACKET.false
    q.streams_of-n.result (streams_told q.args.nb_streams q.ranges.nb_streams q.streams_of-n.ensures) _
    (counted q.args.k q.ranges.k q.count_of.ensures.is q.in-Some.is) q.if-n-stream.false

told : (c : In-Needs)
    → Told c.streams_of-n.result (held_streams_in c.streams_of-n.result c.args.«data».now) c.in-Needs.field-0
told c =
    needs_told c.streams_of-n.result (held_streams_in c.streams_of-n.result c.args.«data».now) _
    (sym c.in-Needs.is ∙ c.survey_streams-x.ensures)

pub returns-then-data-gt-MOST_PACKET : goal.returns-then-data-gt-MOST_PACKET
returns-then-data-gt-MOST_PACKET c =
    let whole = meets
    (take-leaves c.args.«data».now c.args.nb_streams c.args.k c.args.dst.now
    (take_long c.args.«data».now c.args.nb_streams c.args.k (length c.args.dst.now) c.if-data-gt-MOST_PACKET.true))
    refl refl in record { report = whole.0; bytes = whole.1 }

pub returns-then-dst-gt-MOST_PACKET : goal.returns-then-dst-gt-MOST_PACKET
returns-then-dst-gt-MOST_PACKET c =
    let whole = meets
    (take-leaves c.args.«data».now c.args.nb_streams c.args.k c.args.dst.now
    (take_wide c.args.«data».now c.args.nb_streams c.args.k (length c.args.dst.now) c.if-data-gt-MOST_PACKET.false c.if-dst-gt-MOST_PACKET.true))
    refl refl in record { report = whole.0; bytes = whole.1 }

pub returns-in_default : goal.returns-in_default
returns-in_default c =
    let whole = meets
    (take-leaves c.args.«data».now c.args.nb_streams c.args.k c.args.dst.now
    (take_negative c.args.«data».now c.args.nb_streams c.args.k (length c.args.dst.now) c.if-data-gt-MOST_PACKET.false c.if-dst-gt-MOST_PACKET.false
    (counted c.args.k c.ranges.k c.count_of.ensures.is c.in_default.is)))
    refl refl in record { report = whole.0; bytes = whole.1 }

pub returns-then-n-stream : goal.returns-then-n-stream
returns-then-n-stream c =
    let whole = meets
    (take-leaves c.args.«data».now c.args.nb_streams c.args.k c.args.dst.now
    (take_above c.args.«data».now c.args.nb_streams c.args.k (length c.args.dst.now) c.if-data-gt-MOST_PACKET.false c.if-dst-gt-MOST_PACKET.false
    c.streams_of-n.result (streams (goal.at.returns-then-n-stream c).After-streams_of-n) _
    (is (goal.at.returns-then-n-stream c).In-Some) c.if-n-stream.true))
    refl refl in record { report = whole.0; bytes = whole.1 }

pub survey_streams-x-requires : goal.survey_streams-x-requires
survey_streams-x-requires c =
    (few (goal.at.survey_streams-x-requires c).After-streams_of-n, c.if-data-gt-MOST_PACKET.false)

pub take_stream-requires : goal.take_stream-requires
take_stream-requires c =
    record {
      k_lt_n = (c.if-n-stream.false, few (goal.at.take_stream-requires c).After-streams_of-n, c.if-data-gt-MOST_PACKET.false, c.if-dst-gt-MOST_PACKET.false);
      reads = (told (goal.at.take_stream-requires c).In-Needs).held;
    }

pub returns-in-Needs : goal.returns-in-Needs
returns-in-Needs c =
    let whole = meets
    (take-leaves c.args.«data».now c.args.nb_streams c.args.k c.args.dst.now
    (checked (goal.at.returns-in-Needs c).After-survey_streams-x
    ∙ take-told c.streams_of-n.result c.in-Some.stream (length c.args.dst.now) _
    (held_streams_in c.streams_of-n.result c.args.«data».now) (told (goal.at.returns-in-Needs c).In-Needs)))
    c.take_stream.ensures.report c.take_stream.ensures.bytes in record { report = whole.0; bytes = whole.1 }

pub returns-in-Unequal : goal.returns-in-Unequal
returns-in-Unequal c =
    let said = unequal-told c.streams_of-n.result (length c.args.dst.now) (packet_of c.in-Some.stream)
    (held_streams_in c.streams_of-n.result c.args.«data».now) (sym c.in-Unequal.is ∙ c.survey_streams-x.ensures) in
    let whole = meets (take-leaves c.args.«data».now c.args.nb_streams c.args.k c.args.dst.now
    (checked (goal.at.returns-in-Unequal c).After-survey_streams-x ∙ said)) refl refl in record { report = whole.0; bytes = whole.1 }

pub returns-in-Stuck : goal.returns-in-Stuck
returns-in-Stuck c =
    let said = stuck_told c.streams_of-n.result (length c.args.dst.now) (packet_of c.in-Some.stream)
    (held_streams_in c.streams_of-n.result c.args.«data».now) _ (sym c.in-Stuck.is ∙ c.survey_streams-x.ensures) in
    let whole = meets (take-leaves c.args.«data».now c.args.nb_streams c.args.k c.args.dst.now
    (checked (goal.at.returns-in-Stuck c).After-survey_streams-x ∙ said)) refl refl in record { report = whole.0; bytes = whole.1 }
