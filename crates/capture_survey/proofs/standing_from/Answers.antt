-- `capture_survey::standing_from` meets its contract: no record stands between the place that was given and the one that is reached.
use Prim.Native.Nat.{◌+◌}
use native.Mathlib.Omega.{arith}
use mathlib.Core.Path.{refl, ◌∙◌}
use Rattle.capture.proofs.Laws.{record_here, record_later, record_skip, record_none}
use Rattle.capture_survey.proofs.standing_from.Goals as goal

pub loop-place-init : goal.loop-place-init
loop-place-init c = (
  omega (arith, c.find_mark-place.ensures.place, c.find_mark-place.ensures.within),
  record_skip c.args.«data».now c.args.at
      c.find_mark-place.result c.find_mark-place.ensures.place,
)

pub returns-then-length-ne0 : goal.returns-then-length-ne0
returns-then-length-ne0 c =
    let e = c.loop-place.invariant.1 ∙ record_here c.args.«data».now c.loop-place.place _ c.packet_length-length.ensures c.if-length-ne0.true in record {
      place = rw e (refl);
      packet = rw e (refl);
    }

pub loop-place-smaller : goal.loop-place-smaller
loop-place-smaller c =
    omega (arith, c.find_mark-place-in-loop-place.ensures.place, c.find_mark-place-in-loop-place.ensures.within)

pub loop-place-preserved : goal.loop-place-preserved
loop-place-preserved c = (
  omega (arith, c.find_mark-place-in-loop-place.ensures.place, c.find_mark-place-in-loop-place.ensures.within),
  c.loop-place.invariant.1 ∙ record_later c.args.«data».now c.loop-place.place _ c.packet_length-length.ensures c.if-length-ne0.false (omega arith)
      ∙ record_skip c.args.«data».now (c.loop-place.place + 1) c.find_mark-place-in-loop-place.result c.find_mark-place-in-loop-place.ensures.place,
)

pub returns : goal.returns
returns c =
    let e = c.loop-place.invariant.1 ∙ record_none c.args.«data».now c.loop-place.place (omega arith) in record {
      place = rw e (refl);
      packet = rw e (refl);
    }
