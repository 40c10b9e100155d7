-- A record that stands at a place lies within the capture, and so does its packet.
use Rattle.std.proofs.Common.{arith}
use mathlib.Core.Path.{sym}
use Rattle.capture.proofs.Laws.{within, packet_none, packet_part}
use Rattle.capture.proofs.packet_at.Goals as goal

pub returns-then-n-eq0 : goal.returns-then-n-eq0
returns-then-n-eq0 c =
    let n = c.packet_length-n in
    sym (packet_none c.args.«data».now c.args.at n.result n.ensures c.if-n-eq0.true)

pub overflow_add-first : goal.overflow_add-first
overflow_add-first c =
    let n = c.packet_length-n in
    omega (arith, within c.args.«data».now c.args.at n.result n.ensures c.if-n-eq0.false)

pub overflow_add-result : goal.overflow_add-result
overflow_add-result c =
    let n = c.packet_length-n in
    omega (arith, within c.args.«data».now c.args.at n.result n.ensures c.if-n-eq0.false)

pub slice_bounds-result-end-2 : goal.slice_bounds-result-end-2
slice_bounds-result-end-2 c =
    let n = c.packet_length-n in
    omega (arith, within c.args.«data».now c.args.at n.result n.ensures c.if-n-eq0.false)

pub returns : goal.returns
returns c =
    let n = c.packet_length-n in
    sym (packet_part c.args.«data».now c.args.at n.result n.ensures)
