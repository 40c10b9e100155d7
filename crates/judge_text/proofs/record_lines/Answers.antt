-- `judge_text::record_lines` meets its contract. The invariant of its loop: the lines of the records before `at` are put. The measure is the bytes left.
use native.Mathlib.Omega.{arith}
use Rattle.laws.specs.Bytes.{Bytes}
use Rattle.judge_text.proofs.Filled.{filled_start, filled-length, turn_inside, turn_less, turn_judged, turn_line, turn_room, turn_few, filled_more}
use Rattle.judge_text.proofs.Filled.{ends_none, ends_full}
use Rattle.judge_text.proofs.record_lines.Goals as goal

pub loop-out-init : goal.loop-out-init
loop-out-init c =
    filled_start c.args.«data».now c.args.start c.args.tally c.args.out.now c.requires.1 c.requires.2

pub overflow_sub-out : goal.overflow_sub-out
overflow_sub-out c =
    omega (arith, c.loop-out.invariant.within, filled-length c.loop-out.invariant)

pub shape_of-out-then-r-eq0 : goal.shape_of-out-then-r-eq0
shape_of-out-then-r-eq0 c =
    filled-length c.loop-out.invariant

pub returns-then-r-eq0 : goal.returns-then-r-eq0
returns-then-r-eq0 c =
    let whole = ends_none c.loop-out.invariant c.requires.0 c.next_record-r.result c.next_record-r.ensures (omega arith) (omega arith) in
    record { bytes = whole.0; lines = whole.1.0; room = whole.1.1 }

pub overflow_add-at : goal.overflow_add-at
overflow_add-at c =
    omega (arith, turn_inside c.loop-out.invariant c.next_record-r.result c.next_record-r.ensures c.if-r-eq0.false)

pub overflow_add-at-in-loop-out : goal.overflow_add-at-in-loop-out
overflow_add-at-in-loop-out c =
    omega (arith, turn_inside c.loop-out.invariant c.next_record-r.result c.next_record-r.ensures c.if-r-eq0.false)

pub tallied-t-requires : goal.tallied-t-requires
tallied-t-requires c =
    omega (arith, turn_few c.loop-out.invariant c.requires.0)

pub put_verdict-n-requires : goal.put_verdict-n-requires
put_verdict-n-requires c =
    let bytes : Bytes c.args.«data».now = record { byte = λ k. (c.type_inv.«data» k).fits } in record {
      judged = turn_judged c.loop-out.invariant c.next_record-r.result c.next_record-r.ensures c.if-r-eq0.false c.requires.0 bytes (omega arith)
          c.judge_at-j.result c.judge_at-j.ensures;
      most = turn_line c.loop-out.invariant c.next_record-r.result c.next_record-r.ensures c.if-r-eq0.false c.requires.0 bytes (omega arith)
          c.judge_at-j.result c.judge_at-j.ensures;
      room = turn_room c.loop-out.invariant c.next_record-r.result c.next_record-r.ensures c.if-r-eq0.false c.requires.0 bytes (omega arith)
          c.judge_at-j.result c.judge_at-j.ensures;
    }

pub loop-out-smaller : goal.loop-out-smaller
loop-out-smaller c =
    turn_less c.loop-out.invariant c.next_record-r.result c.next_record-r.ensures c.if-r-eq0.false

pub loop-out-preserved : goal.loop-out-preserved
loop-out-preserved c =
    let bytes : Bytes c.args.«data».now = record { byte = λ k. (c.type_inv.«data» k).fits } in
    filled_more c.loop-out.invariant c.next_record-r.result c.next_record-r.ensures c.if-r-eq0.false c.requires.0 bytes (omega arith) c.judge_at-j.result
    c.judge_at-j.ensures c.tallied-t.ensures (record { bytes = c.put_verdict-n.ensures.bytes; place = c.put_verdict-n.ensures.next })

pub shape_of-out : goal.shape_of-out
shape_of-out c =
    filled-length c.loop-out.invariant

pub returns : goal.returns
returns c =
    let whole = ends_full c.loop-out.invariant (omega arith) in record { bytes = whole.0; lines = whole.1.0; room = whole.1.1 }
