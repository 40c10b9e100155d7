-- The records' lines, or the refusal of a capture that is too long.
use Rattle.std.proofs.Common.{arith}
use Rattle.captures_text.proofs.Ends.{ends_read, ends_small, ends_refused}
use Rattle.captures_text.proofs.put_lines.Goals as goal

pub returns-then-data-le-MOST_CAPTURE : goal.returns-then-data-le-MOST_CAPTURE
returns-then-data-le-MOST_CAPTURE c =
    let e = c.record_lines.ensures in
    let k = ends_read c.args.«data».now c.args.start c.args.out.now (omega arith) (e.bytes, (e.count, (e.next, e.within))) in
    record { bytes = k.0; count = k.1.0; next = k.1.1.0; within = k.1.1.1 }

pub returns-then-out-lt-LINE_MOST : goal.returns-then-out-lt-LINE_MOST
returns-then-out-lt-LINE_MOST c =
    let k = ends_small c.args.«data».now c.args.start c.args.out.now (omega arith) (omega arith) in
    record { bytes = k.0; count = k.1.0; next = k.1.1.0; within = k.1.1.1 }

pub returns : goal.returns
returns c =
    let x = c.refusal_number in
    let p = c.copy_to-bytes in
    let k =
    ends_refused c.args.«data».now c.args.start c.args.out.now (omega arith) x.result x.ensures (omega arith)
    (rw (c.put_refused.ensures, c.new-line.ensures) at p.ensures.bytes) (rw (c.put_refused.ensures, c.new-line.ensures) at p.ensures.next) in
    record { bytes = k.0; count = k.1.0; next = k.1.1.0; within = k.1.1.1 }
