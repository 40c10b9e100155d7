-- `stream_join::join_answer` meets its contract: what no call takes is refused, then all is read, and then written.
use native.Mathlib.Omega.{arith}
use mathlib.Core.Path.{◌≡◌, refl, sym, ap, ◌∙◌}
use lib.IntN.{pos}
use lib.ListN.{length}
use Rattle.opus_defines.specs.Numbers.{plain}
use Rattle.opus_defines.proofs.Outcomes.{meets}
use Rattle.opus_format.specs.Frames.{cut}
use Rattle.stream_join.specs.Join.{held_by, joined_streams, by_held, join}
use Rattle.stream_join.proofs.Joining.{Told, needs_told, unequal-told, stuck_told, join-leaves}
use Rattle.stream_join.proofs.Joining.{join-empty, join_many, join_long, join_wide, join_uneven, join-checked, join_small, join-done}
use Rattle.stream_join.proofs.join_answer.Goals as goal
use Rattle.stream_join.proofs.join_answer.Goals.{After-survey_packets-x, In-Needs}

checked : (q : After-survey_packets-x)
    → join q.args.«data».now q.args.lengths.now (length q.args.dst.now)
    ≡ by_held (length q.args.dst.now) joined_streams (held_by (cut q.args.lengths.now q.args.«data».now))
checked q =
    join-checked q.args.«data».now q.args.lengths.now (length q.args.dst.now) q.if-lengths-eq0.false q.if-lengths-gt255.false
    q.if-data-gt-MOST_PACKET.false q.if-dst-gt-MOST_PACKET.false
    (sym q.sum_of.ensures ∙ q.if-sum_of-data.false)

told : (c : In-Needs)
    → Told (length c.args.lengths.now) (held_by (cut c.args.lengths.now c.args.«data».now)) c.in-Needs.n
told c =
    needs_told (length c.args.lengths.now) (held_by (cut c.args.lengths.now c.args.«data».now)) _ (sym c.in-Needs.is ∙ c.survey_packets-x.ensures)

pub returns-then-lengths-eq0 : goal.returns-then-lengths-eq0
returns-then-lengths-eq0 c =
    let whole = meets
    (join-leaves c.args.«data».now c.args.lengths.now c.args.dst.now
    (join-empty c.args.«data».now c.args.lengths.now (length c.args.dst.now) c.if-lengths-eq0.true))
    refl refl in record { report = whole.0; bytes = whole.1 }

pub returns-then-lengths-gt255 : goal.returns-then-lengths-gt255
returns-then-lengths-gt255 c =
    let whole = meets
    (join-leaves c.args.«data».now c.args.lengths.now c.args.dst.now
    (join_many c.args.«data».now c.args.lengths.now (length c.args.dst.now) c.if-lengths-eq0.false c.if-lengths-gt255.true))
    refl refl in record { report = whole.0; bytes = whole.1 }

pub returns-then-data-gt-MOST_PACKET : goal.returns-then-data-gt-MOST_PACKET
returns-then-data-gt-MOST_PACKET c =
    let whole = meets
    (join-leaves c.args.«data».now c.args.lengths.now c.args.dst.now
    (join_long c.args.«data».now c.args.lengths.now (length c.args.dst.now) c.if-lengths-eq0.false c.if-lengths-gt255.false c.if-data-gt-MOST_PACKET.true))
    refl refl in record { report = whole.0; bytes = whole.1 }

pub returns-then-dst-gt-MOST_PACKET : goal.returns-then-dst-gt-MOST_PACKET
returns-then-dst-gt-MOST_PACKET c =
    let whole = meets
    (join-leaves c.args.«data».now c.args.lengths.now c.args.dst.now
    (join_wide c.args.«data».now c.args.lengths.now (length c.args.dst.now) c.if-lengths-eq0.false c.if-lengths-gt255.false
    c.if-data-gt-MOST_PACKET.false c.if-dst-gt-MOST_PACKET.true))
    refl refl in record { report = whole.0; bytes = whole.1 }

pub returns-then-sum_of-data : goal.returns-then-sum_of-data
returns-then-sum_of-data c =
    let whole = meets
    (join-leaves c.args.«data».now c.args.lengths.now c.args.dst.now
    (join_uneven c.args.«data».now c.args.lengths.now (length c.args.dst.now) c.if-lengths-eq0.false c.if-lengths-gt255.false
    c.if-data-gt-MOST_PACKET.false c.if-dst-gt-MOST_PACKET.false
    (λ e. c.if-sum_of-data.true (c.sum_of.ensures ∙ e))))
    refl refl in record { report = whole.0; bytes = whole.1 }

pub survey_packets-x-requires : goal.survey_packets-x-requires
survey_packets-x-requires c =
    (c.if-lengths-gt255.false, c.if-data-gt-MOST_PACKET.false, sym c.sum_of.ensures ∙ c.if-sum_of-data.false)

pub returns-then-dst-n : goal.returns-then-dst-n
returns-then-dst-n c =
    let whole = meets
    (join-leaves c.args.«data».now c.args.lengths.now c.args.dst.now
    (checked (goal.at.returns-then-dst-n c).After-survey_packets-x ∙ join_small c.args.«data».now c.args.lengths.now (length c.args.dst.now) _
    (told (goal.at.returns-then-dst-n c).In-Needs) c.if-dst-n.true))
    refl refl in record { report = whole.0; bytes = whole.1 }

pub put_packets-requires : goal.put_packets-requires
put_packets-requires c =
    record {
      dst_len_bound = (c.if-dst-gt-MOST_PACKET.false, c.if-data-gt-MOST_PACKET.false, sym c.sum_of.ensures ∙ c.if-sum_of-data.false);
      reads = (told (goal.at.put_packets-requires c).In-Needs).held;
      room = omega (arith, (told (goal.at.put_packets-requires c).In-Needs).bytes, c.if-dst-n.false);
    }

pub overflow_cast-result : goal.overflow_cast-result
overflow_cast-result c =
    omega (arith, c.if-dst-n.false, c.if-dst-gt-MOST_PACKET.false)

pub returns-else-dst-n : goal.returns-else-dst-n
returns-else-dst-n c =
    let whole = meets
    (join-leaves c.args.«data».now c.args.lengths.now c.args.dst.now
    (checked (goal.at.returns-else-dst-n c).After-survey_packets-x ∙ join-done c.args.«data».now c.args.lengths.now (length c.args.dst.now) _
    (told (goal.at.returns-else-dst-n c).In-Needs) c.if-dst-n.false))
    (ap (λ n. plain (pos n)) (told (goal.at.returns-else-dst-n c).In-Needs).bytes) c.put_packets.ensures in record { report = whole.0; bytes = whole.1 }

pub returns-in-Unequal : goal.returns-in-Unequal
returns-in-Unequal c =
    let is = unequal-told (length c.args.lengths.now) (length c.args.dst.now) joined_streams (held_by (cut c.args.lengths.now c.args.«data».now))
    (sym c.in-Unequal.is ∙ c.survey_packets-x.ensures) in let whole = meets
    (join-leaves c.args.«data».now c.args.lengths.now c.args.dst.now (checked (goal.at.returns-in-Unequal c).After-survey_packets-x ∙ is)) refl
    refl in record { report = whole.0; bytes = whole.1 }

pub returns-in-Stuck : goal.returns-in-Stuck
returns-in-Stuck c =
    let is = stuck_told (length c.args.lengths.now) (length c.args.dst.now) joined_streams (held_by (cut c.args.lengths.now c.args.«data».now)) _
    (sym c.in-Stuck.is ∙ c.survey_packets-x.ensures) in let whole = meets
    (join-leaves c.args.«data».now c.args.lengths.now c.args.dst.now (checked (goal.at.returns-in-Stuck c).After-survey_packets-x ∙ is)) refl refl
    in record { report = whole.0; bytes = whole.1 }
