-- `judge_text::put_part` meets its contract: a part of the verdicts, or the refusal of a capture that is too long.
use native.Mathlib.Omega.{arith}
use mathlib.Core.Path.{ap}
use lib.ListN.{length}
use borrow.Author.Rules.{rules}
use Rattle.judge_text.proofs.Ends.{ends_read, ends_small, refused_line, refused_room, ends_refused}
use Rattle.judge_text.proofs.put_part.Goals as goal

pub returns-then-data-le-MOST_CAPTURE : goal.returns-then-data-le-MOST_CAPTURE
returns-then-data-le-MOST_CAPTURE c =
    let e = c.put_read.ensures in
    let k = ends_read c.args.«data».now c.args.start c.args.tally c.args.out.now (omega arith) (e.bytes, (e.lines, e.within)) in
    record { bytes = k.0; lines = k.1.0; within = k.1.1 }

pub returns-then-out-lt-PART_MOST : goal.returns-then-out-lt-PART_MOST
returns-then-out-lt-PART_MOST c =
    let whole = ends_small c.args.«data».now c.args.start c.args.tally c.args.out.now (omega arith) (omega arith) in
    record { bytes = whole.0; lines = whole.1.0; within = whole.1.1 }

pub put_refused-requires : goal.put_refused-requires
put_refused-requires c =
    let n = c.refusal_number in
    let most = refused_line c.args.«data».now c.args.start c.args.tally c.args.out.now (omega arith) n.result n.ensures in
    (search rules, omega (arith, ap length c.new-line.ensures, most))

pub copy_to-bytes-requires : goal.copy_to-bytes-requires
copy_to-bytes-requires c =
    let n = c.refusal_number in
    let room = refused_room c.args.«data».now c.args.start c.args.tally c.args.out.now (omega arith) n.result n.ensures in
    (search rules, rw (c.put_refused.ensures, c.new-line.ensures) room)

pub returns : goal.returns
returns c =
    let whole = ends_refused c.args.«data».now c.args.start c.args.tally c.args.out.now (omega arith) c.refusal_number.result
    c.refusal_number.ensures (omega arith) (rw (c.put_refused.ensures, c.new-line.ensures) at c.copy_to-bytes.ensures.bytes)
    (rw (c.put_refused.ensures, c.new-line.ensures) at c.copy_to-bytes.ensures.next) in
    record { bytes = whole.0; lines = whole.1.0; within = whole.1.1 }
