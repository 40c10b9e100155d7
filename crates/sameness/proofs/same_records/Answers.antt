-- `sameness::same_records` meets its contract, and ends: the place in the original moves on.
use native.Mathlib.Omega.{arith}
use borrow.Author.Rules.{rules}
use Rattle.laws.specs.Bytes.{Bytes}
use Rattle.sameness.proofs.Looking.{looking_start, ends, no_record, other_line, other_packet, Placed, behind_both, short, new_short, turn}
use Rattle.sameness.proofs.same_records.Goals as goal
use Rattle.sameness.proofs.same_records.Goals.{After-packet_length-k, Else-k-eq0}

original : (c : After-packet_length-k) → Bytes c.args.«data».now
original c = record { byte = λ i. search rules }

rewritten : (c : After-packet_length-k) → Bytes c.args.new.now
rewritten c = record { byte = λ i. search rules }

-- the places behind both records
placed : (c : Else-k-eq0) → Placed c.args.«data».now c.args.new.now c.loop-r.at c.loop-r.to c.loop-r.records c.next_record-r.result c.packet_length-k.result
placed c =
    behind_both c.loop-r.invariant c.next_record-r.ensures c.if-n-eq0.false c.packet_length-k.ensures c.if-k-eq0.false

pub loop-r-init : goal.loop-r-init
loop-r-init c =
    looking_start c.args.«data».now c.args.new.now

pub returns-then-n-eq0 : goal.returns-then-n-eq0
returns-then-n-eq0 c =
    let whole = ends c.loop-r.invariant c.next_record-r.ensures c.if-n-eq0.true in record { found = whole.0; all = whole.1 }

pub returns-then-k-eq0 : goal.returns-then-k-eq0
returns-then-k-eq0 c =
    let whole = no_record c.loop-r.invariant c.next_record-r.ensures c.if-n-eq0.false c.packet_length-k.ensures c.if-k-eq0.true in
    record { found = whole.0; all = whole.1 }

pub overflow_add-place : goal.overflow_add-place
overflow_add-place c =
    omega (arith, placed c)

pub bounds-data-place : goal.bounds-data-place
bounds-data-place c =
    omega (arith, placed (goal.at.bounds-data-place c).Else-k-eq0)

pub overflow_add-to : goal.overflow_add-to
overflow_add-to c =
    omega (arith, placed (goal.at.overflow_add-to c).Else-k-eq0)

pub bounds-new-to : goal.bounds-new-to
bounds-new-to c =
    omega (arith, placed (goal.at.bounds-new-to c).Else-k-eq0)

pub returns-then-data-place : goal.returns-then-data-place
returns-then-data-place c =
    let whole = other_line c.loop-r.invariant c.next_record-r.ensures c.if-n-eq0.false c.packet_length-k.ensures c.if-data-place.true in
    record { found = whole.0; all = whole.1 }

pub same_packet-requires : goal.same_packet-requires
same_packet-requires c = (
  short c.loop-r.invariant c.next_record-r.ensures c.if-n-eq0.false (original (goal.at.same_packet-requires c).After-packet_length-k)
      c.packet_at.ensures,
  new_short c.loop-r.invariant c.next_record-r.ensures c.if-n-eq0.false c.packet_length-k.ensures c.if-k-eq0.false
      (rewritten (goal.at.same_packet-requires c).After-packet_length-k) c.packet_at-in-loop-r.ensures,
)

pub returns-then-not-same_packet : goal.returns-then-not-same_packet
returns-then-not-same_packet c =
    let whole = other_packet c.loop-r.invariant c.next_record-r.ensures c.if-n-eq0.false c.packet_length-k.ensures
    c.packet_at.ensures c.packet_at-in-loop-r.ensures c.same_packet.ensures (c.if-not-same_packet.true) in record { found = whole.0; all = whole.1 }

pub overflow_add-at : goal.overflow_add-at
overflow_add-at c =
    omega (arith, placed (goal.at.overflow_add-at c).Else-k-eq0)

pub overflow_add-at-in-loop-r : goal.overflow_add-at-in-loop-r
overflow_add-at-in-loop-r c =
    omega (arith, placed (goal.at.overflow_add-at-in-loop-r c).Else-k-eq0)

pub overflow_add-to-in-loop-r : goal.overflow_add-to-in-loop-r
overflow_add-to-in-loop-r c =
    omega (arith, placed (goal.at.overflow_add-to-in-loop-r c).Else-k-eq0)

pub overflow_add-to-in-loop-r-2 : goal.overflow_add-to-in-loop-r-2
overflow_add-to-in-loop-r-2 c =
    omega (arith, placed (goal.at.overflow_add-to-in-loop-r-2 c).Else-k-eq0)

pub overflow_add-records : goal.overflow_add-records
overflow_add-records c =
    omega (arith, placed (goal.at.overflow_add-records c).Else-k-eq0)

pub loop-r-smaller : goal.loop-r-smaller
loop-r-smaller c =
    omega (arith, placed (goal.at.loop-r-smaller c).Else-k-eq0)

pub loop-r-preserved : goal.loop-r-preserved
loop-r-preserved c =
    turn c.loop-r.invariant c.next_record-r.ensures c.if-n-eq0.false c.packet_length-k.ensures c.if-k-eq0.false
    (rewritten (goal.at.loop-r-preserved c).After-packet_length-k) c.if-data-place.false
    c.packet_at.ensures c.packet_at-in-loop-r.ensures c.same_packet.ensures (c.if-not-same_packet.false)
