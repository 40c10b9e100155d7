-- The lines, and the totals where no record is left.
use borrow.Author.Tests.{not-true, not-false}
use lib.ListN.{length}
use Rattle.judge_text.specs.Text.{lines_in}
use Rattle.judge_text.proofs.Ends.{closed_open, closing_room, closed-done}
use Rattle.judge_text.proofs.put_read.Goals as goal

pub returns-then-not-l : goal.returns-then-not-l
returns-then-not-l c =
    let a = c.args in
    let r = c.record_lines-l in
    let q = lines_in (length a.«data».now) a.«data».now a.start a.tally (length a.out.now) in
    let k = closed_open a.out.now r.new.out q r.result r.ensures.bytes r.ensures.lines r.ensures.room (not-true r.result.done c.if-not-l.true) in
    record { bytes = k.0; lines = k.1.0; within = k.1.1 }

pub put_totals-bytes-requires : goal.put_totals-bytes-requires
put_totals-bytes-requires c =
    let a = c.args in
    let r = c.record_lines-l in
    let q = lines_in (length a.«data».now) a.«data».now a.start a.tally (length a.out.now) in
    closing_room a.out.now r.new.out q r.result r.ensures.bytes r.ensures.lines r.ensures.room (not-false r.result.done c.if-not-l.false)

pub returns : goal.returns
returns c =
    let a = c.args in
    let r = c.record_lines-l in
    let q = lines_in (length a.«data».now) a.«data».now a.start a.tally (length a.out.now) in
    let e = c.put_totals-bytes.ensures in
    let k = closed-done a.out.now r.new.out q r.result r.ensures.bytes r.ensures.lines r.ensures.room (not-false r.result.done c.if-not-l.false)
    e.bytes e.next in
    record { bytes = k.0; lines = k.1.0; within = k.1.1 }
