-- What a part is known to be (crate capture_parts), and that its counts fit.
use Prim.Native.Nat.{ℕ, ◌≤◌}
use native.Mathlib.Omega.{arith}
use mathlib.Core.Path.{ap}
use lib.ListN.{take, length-take}
use Rattle.capture_survey.specs.Survey.{bytes_in, survey_of}
use Rattle.capture_survey.proofs.Counting.{bytes_together}
use Rattle.capture_survey.proofs.Promises.{counts_within}
use Rattle.capture_parts.specs.Part.{PartOf}
use Rattle.capture_parts.specs.declared.Filled.{Filled}
use Rattle.capture_parts.specs.declared.Part.{Part}
use Rattle.capture_parts.proofs.Told.{reads_start, filled-part, part_inside, part_some, reads_on}
use Rattle.survey.proofs.survey.Goals as goal

pub loop-done-init : goal.loop-done-init
loop-done-init c = (reads_start _ c.requires, omega (arith, ap bytes_in c.nothing-sum.ensures))

-- the part of what a filled buffer holds
abbrev part_of : Filled → ℕ → Part
part_of f n = record { last = f.last; held = f.held; bytes = n }

pub survey_part-s-requires : goal.survey_part-s-requires
survey_part-s-requires c =
    let w = c.loop-done.invariant in
    let e = c.in-Ok.ensures in
    omega (arith, e.filled.within, e.length, w.0.long, w.0.far, w.1, length-take c.in-Ok.filled.held c.fill.new.buf)

pub overflow_add-done : goal.overflow_add-done
overflow_add-done c =
    let w = c.loop-done.invariant in
    let f = c.in-Ok.filled in
    let e = c.in-Ok.ensures in
    let n = c.survey_part-s.result.bytes in
    let part : PartOf c.fill.new.buf (part_of f n) = filled-part c.fill.new.buf f e.filled n c.survey_part-s.ensures.part in
    let inside : n ≤ f.held = part_inside c.fill.new.buf (part_of f n) part in
    omega (arith, e.filled.within, e.length, w.0.long, w.0.far)

pub keep_rest-held-requires : goal.keep_rest-held-requires
keep_rest-held-requires c =
    let w = c.loop-done.invariant in
    let f = c.in-Ok.filled in
    let e = c.in-Ok.ensures in
    let n = c.survey_part-s.result.bytes in
    let part : PartOf c.fill.new.buf (part_of f n) = filled-part c.fill.new.buf f e.filled n c.survey_part-s.ensures.part in
    let inside : n ≤ f.held = part_inside c.fill.new.buf (part_of f n) part in
    (inside, e.filled.within)

pub loop-done-smaller : goal.loop-done-smaller
loop-done-smaller c =
    let w = c.loop-done.invariant in
    let f = c.in-Ok.filled in
    let e = c.in-Ok.ensures in
    let n = c.survey_part-s.result.bytes in
    let part : PartOf c.fill.new.buf (part_of f n) = filled-part c.fill.new.buf f e.filled n c.survey_part-s.ensures.part in
    let inside : n ≤ f.held = part_inside c.fill.new.buf (part_of f n) part in
    let some = part_some w.0 c.loop-done-test.true e.length part c.if-f.false in
    omega (arith, some, e.filled.within, e.length, w.0.long, w.0.far)

pub loop-done-preserved : goal.loop-done-preserved
loop-done-preserved c =
    let w = c.loop-done.invariant in
    let f = c.in-Ok.filled in
    let e = c.in-Ok.ensures in
    let n = c.survey_part-s.result.bytes in
    let part : PartOf c.fill.new.buf (part_of f n) = filled-part c.fill.new.buf f e.filled n c.survey_part-s.ensures.part in
    let inside : n ≤ f.held = part_inside c.fill.new.buf (part_of f n) part in
    let k = c.keep_rest-held in
    let held = take f.held c.fill.new.buf in
    let first = take n held in (
      reads_on w.0 c.loop-done-test.true e.length part c.if-f.false k.auto.buf k.ensures.held,
      omega (
        arith,
        ap bytes_in c.survey_part-s.ensures.sum,
        bytes_together c.loop-done.sum (survey_of first),
        counts_within first,
        w.1,
        length-take n held,
      ),
    )
