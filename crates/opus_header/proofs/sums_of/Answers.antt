-- `opus_header::sums_of` meets its contract. The invariant of its loop: what is counted is that of the first i lengths. The measure is the
-- lengths left.
use native.Mathlib.Omega.{arith}
use mathlib.Core.Path.{refl, ◌∙◌}
use lib.ListN.{get_or}
use Rattle.opus_size.proofs.Fields.{width}
use Rattle.opus_header.proofs.Counted.{counted_start, agrees, differs}
use Rattle.opus_header.proofs.Counted.{counted_small, counted_more, counted_field, counted_same, counted_differ}
use Rattle.opus_header.proofs.sums_of.Goals as goal
use Rattle.opus_header.proofs.sums_of.Goals.{then-n-first, else-n-first}

pub loop-n-init : goal.loop-n-init
loop-n-init c =
    counted_start c.args.ns.now

pub overflow_add-total : goal.overflow_add-total
overflow_add-total c =
    omega (arith, counted_small c.loop-n.invariant refl refl c.loop-n-test.true c.requires.2, c.requires.1)

pub overflow_add-fields : goal.overflow_add-fields
overflow_add-fields c =
    omega (arith, c.loop-n.invariant.few, c.loop-n.invariant.most, c.requires.1, c.field_bytes-fields.ensures, width (get_or c.args.ns.now c.loop-n.n-index 0))

pub overflow_sub-sizes : goal.overflow_sub-sizes
overflow_sub-sizes c =
    counted_field c.loop-n.invariant refl (omega arith) (omega arith) c.field_bytes.ensures

pub returns-then-same : goal.returns-then-same
returns-then-same c =
    counted_same c.loop-n.invariant refl (omega arith) (omega arith) c.wide.ensures.0 c.wide-then-same.ensures.0 c.if-same.true

pub returns : goal.returns
returns c =
    counted_differ c.loop-n.invariant refl (omega arith) (omega arith) c.wide-2.ensures.0 c.wide-4.ensures.0 c.field_bytes.ensures
    c.wide-3.ensures.0 c.if-same.false

pub loop-n-preserved : goal.loop-n-preserved
loop-n-preserved c =
    counted_more c.loop-n.invariant refl refl c.loop-n-test.true c.requires.2 c.field_bytes-fields.ensures
    (elim c.if-n-first.branch [
      | then-n-first w ↦ w.same-is ∙ differs c.loop-n.invariant refl refl c.loop-n-test.true w.if-n-first.true
      | else-n-first w ↦ w.same-is ∙ agrees c.loop-n.invariant refl refl c.loop-n-test.true w.if-n-first.false
    ])
