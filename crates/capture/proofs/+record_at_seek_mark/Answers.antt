use Rattle.std.proofs.Common.{arith}
use mathlib.Core.Path.{sym, ap, ◌∙◌}
use Rattle.capture.specs.Finding.{Record}
use Rattle.capture.proofs.Seeking.{place_here, place_later, place_end}
use Rattle.capture.proofs.+record_at_seek_mark.Goals as goal

pub record_at-returns-then-packet_length-ne0 : goal.record_at-returns-then-packet_length-ne0
record_at-returns-then-packet_length-ne0 t c =
    let n = c.packet_length in
    place_here c.args.«data».now c.args.at n.result n.ensures c.if-packet_length-ne0.true

pub record_at-returns : goal.record_at-returns
record_at-returns t c =
    let n = c.packet_length in
    c.seek_mark.ensures ∙ place_later c.args.«data».now c.args.at n.result n.ensures c.if-packet_length-ne0.false (omega arith)

pub seek_mark-returns-then-data-at-lt-HEAD_BYTES : goal.seek_mark-returns-then-data-at-lt-HEAD_BYTES
seek_mark-returns-then-data-at-lt-HEAD_BYTES t c = place_end c.args.«data».now c.args.at (omega arith) c.if-data-at-lt-HEAD_BYTES.true

pub seek_mark-returns : goal.seek_mark-returns
seek_mark-returns t c =
    let l = c.loop-place in
    let s = c.args.«data».now in
    place_end s l.place (omega arith) (omega arith) ∙ sym (ap (λ (r : Record). r.place) l.invariant.1)
