-- `capture_survey::survey_part` meets its contract, and ends: the place moves on.
use native.Mathlib.Omega.{arith}
use mathlib.Core.Path.{◌≡◌}
use borrow.Author.Rules.{rules}
use Rattle.capture.specs.Finding.{next_record}
use Rattle.capture_survey.proofs.Walking.{walking_start, at_most, seen, is_seen}
use Rattle.capture_survey.proofs.Walking.{Finds, finds_as, finds_here, finds_last, finds_next, place_within, record_ends}
use Rattle.capture_survey.proofs.Walking.{one_room, one_short, walks_on, last_room, ends_last, short_room, ends_short}
use Rattle.capture_survey.proofs.survey_part.Goals as goal
use Rattle.capture_survey.proofs.survey_part.Goals.{After-standing_from-r, Joined-n-eq0}
use Rattle.capture_survey.proofs.survey_part.Goals.{then-n-eq0+then-last+else-n-eq0-2, then-n-eq0+else-last+else-data-place, else-n-eq0}

answered : (r : After-standing_from-r)
    → seen r.loop-n.invariant r.standing_from-r.ensures.place r.standing_from-r.ensures.packet ≡ next_record r.args.«data».now r.loop-n.at
answered r = is_seen r.loop-n.invariant r.standing_from-r.ensures.place r.standing_from-r.ensures.packet

one : (c : Joined-n-eq0)
    → Finds c.args.«data».now c.args.last c.loop-n.at c.if-n-eq0.place c.if-n-eq0.n c.if-n-eq0.passed
one c =
    let here = c.loop-n.invariant in
    elim c.if-n-eq0.branch [
      | then-n-eq0+then-last+else-n-eq0-2 w ↦
          let found = is_seen here w.standing_from-r.ensures.place w.standing_from-r.ensures.packet in
          finds_as w.n-is w.place-is w.passed-is (finds_last here found w.if-last.true w.if-n-eq0-2.false)
      | then-n-eq0+else-last+else-data-place w ↦
          let found = is_seen here w.standing_from-r.ensures.place w.standing_from-r.ensures.packet in
          finds_as w.n-is w.place-is w.passed-is (finds_next here found w.if-last.false w.if-data-place.false)
      | else-n-eq0 w ↦ finds_as w.n-is w.place-is w.passed-is (finds_here here c.packet_length-n.ensures w.if-n-eq0.false)
    ]

pub loop-n-init : goal.loop-n-init
loop-n-init c =
    walking_start c.args.«data».now c.args.last c.args.before c.requires

pub overflow_sub-passed : goal.overflow_sub-passed
overflow_sub-passed c = omega (arith, place_within c.loop-n.invariant (answered c))

pub with_passed-requires : goal.with_passed-requires
with_passed-requires c =
    last_room c.loop-n.invariant (answered (goal.at.with_passed-requires c).After-standing_from-r) c.if-last.true c.if-n-eq0-2.true

pub returns-then-n-eq0-2 : goal.returns-then-n-eq0-2
returns-then-n-eq0-2 c =
    let whole = ends_last c.loop-n.invariant (answered (goal.at.returns-then-n-eq0-2 c).After-standing_from-r) c.if-last.true c.if-n-eq0-2.true
    c.with_passed.ensures in record { part = whole.0; sum = whole.1 }

pub overflow_sub-data : goal.overflow_sub-data
overflow_sub-data c =
    omega (arith, place_within c.loop-n.invariant (answered (goal.at.overflow_sub-data c).After-standing_from-r))

pub overflow_sub-end : goal.overflow_sub-end
overflow_sub-end c =
    omega (arith, c.short_from-end.ensures)

pub with_passed-requires-then-data-place : goal.with_passed-requires-then-data-place
with_passed-requires-then-data-place c =
    short_room c.loop-n.invariant (answered (goal.at.with_passed-requires-then-data-place c).After-standing_from-r) c.if-last.false
    c.packet_length-n.ensures c.if-n-eq0.true c.if-data-place.true
    c.short_from-end.ensures

pub returns-then-data-place : goal.returns-then-data-place
returns-then-data-place c =
    let whole = ends_short c.loop-n.invariant (answered (goal.at.returns-then-data-place c).After-standing_from-r) c.if-last.false
    c.packet_length-n.ensures c.if-n-eq0.true c.if-data-place.true
    c.short_from-end.ensures c.with_passed-then-data-place.ensures in record { part = whole.0; sum = whole.1 }

pub overflow_add-first : goal.overflow_add-first
overflow_add-first c =
    omega (arith, record_ends c.loop-n.invariant (one (goal.at.overflow_add-first c).Joined-n-eq0))

pub overflow_add-at : goal.overflow_add-at
overflow_add-at c =
    omega (arith, record_ends c.loop-n.invariant (one (goal.at.overflow_add-at c).Joined-n-eq0))

pub slice_bounds-with_record-count : goal.slice_bounds-with_record-count
slice_bounds-with_record-count c =
    omega (arith, record_ends c.loop-n.invariant (one (goal.at.slice_bounds-with_record-count c).Joined-n-eq0))

pub slice_bounds-with_record-start : goal.slice_bounds-with_record-start
slice_bounds-with_record-start c =
    omega (arith, record_ends c.loop-n.invariant (one (goal.at.slice_bounds-with_record-start c).Joined-n-eq0))

pub slice_bounds-with_record-end : goal.slice_bounds-with_record-end
slice_bounds-with_record-end c =
    omega (arith, record_ends c.loop-n.invariant (one (goal.at.slice_bounds-with_record-end c).Joined-n-eq0))

pub with_record-sum-requires : goal.with_record-sum-requires
with_record-sum-requires c = (
  one_room c.loop-n.invariant (one (goal.at.with_record-sum-requires c).Joined-n-eq0),
  one_short c.loop-n.invariant
      (one (goal.at.with_record-sum-requires c).Joined-n-eq0) (record { byte = λ i. search rules }),
)

pub loop-n-smaller : goal.loop-n-smaller
loop-n-smaller c =
    omega (arith, record_ends c.loop-n.invariant (one (goal.at.loop-n-smaller c).Joined-n-eq0))

pub loop-n-preserved : goal.loop-n-preserved
loop-n-preserved c =
    walks_on c.loop-n.invariant (one (goal.at.loop-n-preserved c).Joined-n-eq0) c.with_record-sum.ensures

pub standing_from-r-requires : goal.standing_from-r-requires
standing_from-r-requires c =
    (at_most c.loop-n.invariant).1
