-- What a part is known to be (crate capture_parts), and what its share counts.
use native.Mathlib.Omega.{arith}
use mathlib.Core.Path.{◌≡◌, sym}
use lib.ListN.{length, take}
use lib.Seq.{length-take-le}
use Rattle.capture_parts.proofs.Told.{reads_start, part-short, part_some, reads_on}
use Rattle.compact.proofs.Sharing.{within, shares_none, shares_on}
use Rattle.compact.proofs.compact.Goals as goal

pub loop-done-init : goal.loop-done-init
loop-done-init c = (reads_start _ c.requires, shares_none c.no_share-all.ensures)

pub slice_bounds-put_part-end : goal.slice_bounds-put_part-end
slice_bounds-put_part-end c =
    let w = c.loop-done.invariant.0 in
    let r = c.in-Ok.ensures in
    let few = part-short w c.loop-done-test.true r.length r.part in
    omega arith

pub slice_bounds-put_part-end-in-loop-done : goal.slice_bounds-put_part-end-in-loop-done
slice_bounds-put_part-end-in-loop-done c =
    let w = c.loop-done.invariant.0 in
    let r = c.in-Ok.ensures in
    let few = part-short w c.loop-done-test.true r.length r.part in
    sym (length-take-le _ _ (omega arith))

pub put_part-requires : goal.put_part-requires
put_part-requires c =
    let w = c.loop-done.invariant.0 in
    let r = c.in-Ok.ensures in
    let few = part-short w c.loop-done-test.true r.length r.part in
    let n = c.in-Ok.part.bytes in
    let long : length (take n c.read_part.new.buf) ≡ n = length-take-le _ _ (omega arith) in
    omega (arith, long)

pub joined-all-requires : goal.joined-all-requires
joined-all-requires c =
    let w = c.loop-done.invariant.0 in
    let r = c.in-Ok.ensures in
    let few = part-short w c.loop-done-test.true r.length r.part in
    let n = c.in-Ok.part.bytes in
    let part = take n c.read_part.new.buf in
    let long : length part ≡ n = length-take-le _ _ (omega arith) in
    let s = within part c.loop-done.left c.in_ok-s.ensures long in
    let all = c.loop-done.invariant.1 in
    record {
      resume = (omega (arith, all.resume, s.ends, w.far), omega (arith, all.few, all.sum, s.few, s.sum, s.ends, w.far));
      bytes = (
        omega (arith, all.sum, s.sum, s.ends, w.far),
        omega (arith, all.sum, s.sum, s.ends, w.far),
        omega (arith, all.sum, s.sum, s.ends, w.far),
      );
    }

pub overflow_sub-left : goal.overflow_sub-left
overflow_sub-left c =
    let w = c.loop-done.invariant.0 in
    let r = c.in-Ok.ensures in
    let few = part-short w c.loop-done-test.true r.length r.part in
    let n = c.in-Ok.part.bytes in
    let part = take n c.read_part.new.buf in
    let long : length part ≡ n = length-take-le _ _ (omega arith) in
    omega (arith, (within part c.loop-done.left c.in_ok-s.ensures long).budget)

pub overflow_add-done : goal.overflow_add-done
overflow_add-done c =
    let w = c.loop-done.invariant.0 in
    let r = c.in-Ok.ensures in
    let few = part-short w c.loop-done-test.true r.length r.part in
    omega (arith, w.far)

pub keep_rest-held-requires : goal.keep_rest-held-requires
keep_rest-held-requires c =
    let w = c.loop-done.invariant.0 in
    let r = c.in-Ok.ensures in
    let few = part-short w c.loop-done-test.true r.length r.part in
    (few.0, few.1)

pub loop-done-smaller : goal.loop-done-smaller
loop-done-smaller c =
    let w = c.loop-done.invariant.0 in
    let r = c.in-Ok.ensures in
    let few = part-short w c.loop-done-test.true r.length r.part in
    let some = part_some w c.loop-done-test.true r.length r.part c.if-p.false in
    omega (arith, some, w.far)

pub loop-done-preserved : goal.loop-done-preserved
loop-done-preserved c =
    let w = c.loop-done.invariant.0 in
    let r = c.in-Ok.ensures in
    let few = part-short w c.loop-done-test.true r.length r.part in
    let n = c.in-Ok.part.bytes in
    let part = take n c.read_part.new.buf in
    let long : length part ≡ n = length-take-le _ _ (omega arith) in
    let s = within part c.loop-done.left c.in_ok-s.ensures long in
    let k = c.keep_rest-held in (
      reads_on w c.loop-done-test.true r.length r.part c.if-p.false k.auto.buf k.ensures.held,
      shares_on c.loop-done.invariant.1 s c.if-s-n.false c.joined-all.ensures,
    )
