use Rattle.std.proofs.Common.{arith}
use Rattle.captures_text.proofs.Filled.{turn_inside, turn_less, turn_most, turn_room, filled_more, ends_none, ends_full}
use Rattle.captures_text.proofs.record_lines.Goals as goal

pub returns-then-r-eq0 : goal.returns-then-r-eq0
returns-then-r-eq0 c =
    let r = c.next_record-r in
    let k = ends_none c.loop-out.invariant r.result r.ensures (omega arith) (omega arith) in
    record { bytes = k.0; count = k.1.0; next = k.1.1.0; within = k.1.1.1 }

pub overflow_add-at : goal.overflow_add-at
overflow_add-at c =
    let r = c.next_record-r in
    omega (arith, turn_inside c.loop-out.invariant r.result r.ensures c.if-r-eq0.false)

pub overflow_add-at-in-loop-out : goal.overflow_add-at-in-loop-out
overflow_add-at-in-loop-out c =
    let r = c.next_record-r in
    omega (arith, turn_inside c.loop-out.invariant r.result r.ensures c.if-r-eq0.false)

pub put_line-n-requires : goal.put_line-n-requires
put_line-n-requires c =
    let r = c.next_record-r in
    record {
      most = turn_most c.loop-out.invariant r.result r.ensures c.if-r-eq0.false c.requires (omega arith) (omega arith);
      room = turn_room c.loop-out.invariant r.result r.ensures c.if-r-eq0.false c.requires (omega arith) (omega arith);
    }

pub loop-out-smaller : goal.loop-out-smaller
loop-out-smaller c =
    let r = c.next_record-r in
    turn_less c.loop-out.invariant r.result r.ensures c.if-r-eq0.false

pub loop-out-preserved : goal.loop-out-preserved
loop-out-preserved c =
    let r = c.next_record-r in
    let p = c.put_line-n in
    filled_more c.loop-out.invariant r.result r.ensures c.if-r-eq0.false c.requires (omega arith) (omega arith)
    (record { bytes = p.ensures.bytes; place = p.ensures.next })

pub returns : goal.returns
returns c =
    let k = ends_full c.loop-out.invariant (omega arith) in
    record { bytes = k.0; count = k.1.0; next = k.1.1.0; within = k.1.1.1 }
