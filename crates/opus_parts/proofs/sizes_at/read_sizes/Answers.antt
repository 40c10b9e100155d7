-- `opus_parts::sizes_at::read_sizes` meets its contract. The invariant: the array is the lengths read so far, and they with the fields from
-- here on are all the fields, or the last length is too long by itself.
use Prim.Native.Nat.{◌<◌}
use mathlib.Core.Path.{refl, sym}
use mathlib.Core.Logic.{⊎_elim}
use native.Mathlib.Omega.{arith}
use borrow.Author.Rules.{rules}
use lib.ListN.{length}
use Rattle.opus_size.proofs.At.{short_was, at_cut}
use Rattle.opus_parts.proofs.AtSizes.{Taken, taken_one, taken_two, sizes_start, sizes_more, sizes-cut, sizes-over, sizes_end}
use Rattle.opus_parts.proofs.sizes_at.read_sizes.Goals as goal
use Rattle.opus_parts.proofs.sizes_at.read_sizes.Goals.{Joined-last-ge252}

-- the field of this turn
turned : (c : Joined-last-ge252) → Taken c.args.s.now c.loop-i.next c.loop-i.used c.if-last-ge252.last c.if-last-ge252.next c.if-last-ge252.used
turned c =
    let inside : c.loop-i.next < length c.args.s.now = omega (arith, c.loop-i.invariant.summed, c.if-s-used.false) in
    ⊎_elim
    (λ w.
    taken_two c.args.s.now c.loop-i.next c.loop-i.used c.wide_byte-last.result c.wide_byte-last.ensures.0 c.if-last-ge252.last c.if-last-ge252.next
    c.if-last-ge252.used w.if-s-next.false w.if-last-ge252.true c.wide_byte-last.ensures.1
    w.wide_byte-more.result w.wide_byte-more.ensures.0 w.wide_byte-more.ensures.1 w.last-is w.next-is w.used-is)
    (λ w. taken_one c.args.s.now c.loop-i.next c.loop-i.used c.wide_byte-last.result c.wide_byte-last.ensures.0 c.if-last-ge252.last
    c.if-last-ge252.next c.if-last-ge252.used inside w.if-last-ge252.false w.last-is w.next-is w.used-is)
    c.if-last-ge252.branch-raw

pub loop-i-init : goal.loop-i-init
loop-i-init c =
    sizes_start _ _ _ c.requires.1

pub cut_at-requires : goal.cut_at-requires
cut_at-requires c =
    (c.loop-i.invariant.inside, c.loop-i.invariant.behind)

pub returns-then-s-used : goal.returns-then-s-used
returns-then-s-used c =
    sizes-over _ _ _ _ _ _ _ c.loop-i.invariant _ refl (omega (arith, c.if-s-used.true, c.loop-i-test.true)) _ c.cut_at.ensures _

pub bounds-s-next : goal.bounds-s-next
bounds-s-next c =
    omega (arith, c.loop-i.invariant.summed, c.if-s-used.false)

pub returns-then-s-next : goal.returns-then-s-next
returns-then-s-next c =
    let inside : c.loop-i.next < length c.args.s.now = omega (arith, c.loop-i.invariant.summed, c.if-s-used.false) in
    let none = short_was c.args.s.now c.loop-i.next (sym (at_cut c.args.s.now c.loop-i.next inside
    (omega (arith, c.wide_byte-last.ensures.0, c.if-last-ge252.true)) c.if-s-next.true)) in
    sizes-cut _ _ _ _ _ _ _ c.loop-i.invariant c.loop-i-test.true c.if-s-used.false none _ (omega arith) _

pub cut_at-requires-then-s-used-2 : goal.cut_at-requires-then-s-used-2
cut_at-requires-then-s-used-2 c =
    (c.loop-i.invariant.inside, c.loop-i.invariant.behind)

pub returns-then-s-used-2 : goal.returns-then-s-used-2
returns-then-s-used-2 c =
    sizes-over _ _ _ _ _ _ _ c.loop-i.invariant 0 (omega (arith, c.loop-i-test.false)) (omega (arith, c.if-s-used-2.true)) _
    c.cut_at-then-s-used-2.ensures _

pub returns : goal.returns
returns c =
    sizes_end _ _ _ _ _ _ _ c.loop-i.invariant (search rules) c.if-s-used-2.false

pub overflow_cast-lengths : goal.overflow_cast-lengths
overflow_cast-lengths c =
    record { fits = omega (arith, (turned (goal.at.overflow_cast-lengths c).Joined-last-ge252).few) }

pub loop-i-preserved : goal.loop-i-preserved
loop-i-preserved c =
    sizes_more _ _ _ _ _ _ _ c.loop-i.invariant c.loop-i-test.true (search rules) c.if-s-used.false _ _ _
    (turned (goal.at.loop-i-preserved c).Joined-last-ge252)
