-- What a part is known to be (crate capture_parts).
use native.Mathlib.Omega.{arith}
use mathlib.Core.Path.{◌≡◌, sym}
use lib.ListN.{length, take}
use lib.Seq.{length-take-le}
use Rattle.capture_parts.proofs.Told.{part-short, part_some, reads_on}
use Rattle.same.proofs.compare.Goals as goal

pub slice_bounds-find_part-end : goal.slice_bounds-find_part-end
slice_bounds-find_part-end g c =
    let w = c.loop-done.invariant.0 in
    let r = c.in-Ok.ensures in
    let few = part-short w c.loop-done-test.true r.length r.part in
    omega arith

pub slice_bounds-find_part-end-in-loop-done : goal.slice_bounds-find_part-end-in-loop-done
slice_bounds-find_part-end-in-loop-done g c =
    let w = c.loop-done.invariant.0 in
    let r = c.in-Ok.ensures in
    let few = part-short w c.loop-done-test.true r.length r.part in
    sym (length-take-le _ _ (omega arith))

pub overflow_add-done : goal.overflow_add-done
overflow_add-done g c =
    let w = c.loop-done.invariant.0 in
    let r = c.in-Ok.ensures in
    let few = part-short w c.loop-done-test.true r.length r.part in
    omega (arith, w.far)

pub keep_rest-held-requires : goal.keep_rest-held-requires
keep_rest-held-requires g c =
    let w = c.loop-done.invariant.0 in
    let r = c.in-Ok.ensures in
    let few = part-short w c.loop-done-test.true r.length r.part in
    (few.0, few.1)

pub loop-done-smaller : goal.loop-done-smaller
loop-done-smaller g c =
    let w = c.loop-done.invariant.0 in
    let r = c.in-Ok.ensures in
    let few = part-short w c.loop-done-test.true r.length r.part in
    let some = part_some w c.loop-done-test.true r.length r.part c.if-p.false in
    omega (arith, some, w.far)

pub loop-done-preserved : goal.loop-done-preserved
loop-done-preserved g c =
    let w = c.loop-done.invariant.0 in
    let r = c.in-Ok.ensures in
    let few = part-short w c.loop-done-test.true r.length r.part in
    let n = c.in-Ok.part.bytes in
    let long : length (take n c.read_part.new.buf) ≡ n = length-take-le _ _ (omega arith) in
    let k = c.keep_rest-held in
    let f = c.in_ok-m.ensures in (
      reads_on w c.loop-done-test.true r.length r.part c.if-p.false k.auto.buf k.ensures.held,
      omega (arith, f.few.0, f.length),
      omega (arith, c.loop-done.invariant.2, f.few.1, long),
    )
