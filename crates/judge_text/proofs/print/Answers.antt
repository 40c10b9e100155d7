-- `judge_text::print` is safe and ends: each part moves on, or is the last. The measure is the bytes left, and one for the last part.
use mathlib.Core.Path.{refl, sym}
use Rattle.judge_text.proofs.Ends.{going_start, going_less, going_on}
use Rattle.judge_text.proofs.print.Goals as goal

pub parts-init : goal.parts-init
parts-init c =
    going_start c.args.«data».now _ refl

pub slice_bounds-put_part-end : goal.slice_bounds-put_part-end
slice_bounds-put_part-end c =
    sym c.parts.invariant.long

pub put_part-l-requires : goal.put_part-l-requires
put_part-l-requires c =
    (c.parts.invariant.fine.inside, c.parts.invariant.fine.few)

pub slice_bounds-out-end : goal.slice_bounds-out-end
slice_bounds-out-end c =
    c.put_part-l.ensures.within.0

pub slice_bounds-print-end : goal.slice_bounds-print-end
slice_bounds-print-end c =
    c.put_part-l.ensures.within.1

pub parts-smaller : goal.parts-smaller
parts-smaller c = rw c.if-l.false at (going_less c.parts.invariant c.put_part-l.ensures.lines)

pub parts-preserved : goal.parts-preserved
parts-preserved c =
    going_on c.parts.invariant c.put_part-l.ensures.lines c.put_part-l.ensures.bytes
