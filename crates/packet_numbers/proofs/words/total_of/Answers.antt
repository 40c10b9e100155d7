-- `packet_numbers::words::total_of` meets its contract.
use Rattle.std.proofs.Common.{ℕ, ◌+◌, ◌-◌, ◌*◌, ◌/◌, ◌≤◌, List, length, get_or, refl, arith, Fits, w16}
use Rattle.packet_numbers.proofs.Lanes.{Sums, sums_as, sums_fit, pairs_fit, all_fit}
use Rattle.packet_numbers.proofs.Lanes.{Held, sums_four, fours_more, twos_more, ones_more, sums_last}
use Rattle.packet_numbers.proofs.words.total_of.Goals as goal
use Rattle.packet_numbers.proofs.words.total_of.Goals.{Else-over-2, Joined-m-eq1, Joined-m-eq1-2, Joined-m-eq1-3}
use Rattle.packet_numbers.proofs.words.total_of.Goals.{then-m-eq1+else-over-3, else-m-eq1, then-m-eq1-2+else-over-4, else-m-eq1-2}
use Rattle.packet_numbers.proofs.words.total_of.Goals.{then-m-eq1-3+else-over-5, else-m-eq1-3}

held : {ns : List ℕ} {n : ℕ} → ((i : ℕ) → Fits w16 (get_or ns i 0)) → (1 ≤ n) × (n ≤ length ns) × (length ns ≤ 48) → Held ns (n - 1)
held words h = record { words = λ i. (words i).fits; within = omega (arith, h); few = h.2 }

-- ---- eight lengths
module _ (c : Else-over-2) where
  left : 8 * c.loop-k.k + 8 ≤ c.args.n - 1
  left = omega (arith, c.loop-k-test.true)

  four : Sums c.args.ns.now (c.loop-k.sum + c.four_lengths-a.result) (8 * c.loop-k.k + 4)
  four =
      sums_four (held c.type_inv.ns c.requires) c.loop-k.invariant (omega (arith, left)) c.four_lengths-a.ensures
      (c.over.ensures c.if-over.false)

  eight : Sums c.args.ns.now (c.loop-k.sum + c.four_lengths-a.result + c.four_lengths-b.result) (8 * c.loop-k.k + 4 + 4)
  eight =
      sums_four (held c.type_inv.ns c.requires) four (omega (arith, left)) c.four_lengths-b.ensures
      (c.over-in-loop-k.ensures c.if-over-2.false)

pub overflow_add-sum : goal.overflow_add-sum
overflow_add-sum c = record { fits = sums_fit (four c) (omega (arith, left c)) }

pub overflow_add-sum-in-loop-k : goal.overflow_add-sum-in-loop-k
overflow_add-sum-in-loop-k c = record { fits = sums_fit (eight c) (omega (arith, left c)) }

pub loop-k-preserved : goal.loop-k-preserved
loop-k-preserved c = sums_as refl (omega arith) (eight c)

-- ---- four more
pub overflow_add-sum-then-m-eq1 : goal.overflow_add-sum-then-m-eq1
overflow_add-sum-then-m-eq1 c =
    let k = held c.type_inv.ns c.requires in
    let s = sums_as refl (omega (arith, c.loop-k-test.false)) c.loop-k.invariant in
    let f = fours_more k s c.if-m-eq1.true c.four_lengths-a-then-m-eq1.ensures (c.over-then-m-eq1.ensures c.if-over-3.false) in
    record { fits = sums_fit f (omega arith) }

fours : (c : Joined-m-eq1) → Sums c.args.ns.now c.if-m-eq1.sum ((c.args.n - 1) / 4 * 4)
fours c =
    let k = held c.type_inv.ns c.requires in
    let s = sums_as refl (omega (arith, c.loop-k-test.false)) c.loop-k.invariant in
    elim c.if-m-eq1.branch [
      | then-m-eq1+else-over-3 w ↦
          sums_as w.sum-is refl
          (fours_more k s w.if-m-eq1.true w.four_lengths-a-then-m-eq1.ensures (w.over-then-m-eq1.ensures w.if-over-3.false))
      | else-m-eq1 w ↦ sums_as w.sum-is (omega (arith, w.if-m-eq1.false)) s
    ]

-- ---- two more
pub overflow_add-sum-then-m-eq1-2 : goal.overflow_add-sum-then-m-eq1-2
overflow_add-sum-then-m-eq1-2 c =
    let k = held c.type_inv.ns c.requires in
    let s = fours (goal.at.overflow_add-sum-then-m-eq1-2 c).Joined-m-eq1 in
    let f = twos_more k s c.if-m-eq1-2.true c.two_lengths-a.ensures.0 (c.over-then-m-eq1-2.ensures c.if-over-4.false) in
    record { fits = sums_fit f (omega arith) }

twos : (c : Joined-m-eq1-2) → Sums c.args.ns.now c.if-m-eq1.sum ((c.args.n - 1) / 4 * 4)
    → Sums c.args.ns.now c.if-m-eq1-2.sum ((c.args.n - 1) / 2 * 2)
twos c s =
    let k = held c.type_inv.ns c.requires in
    elim c.if-m-eq1-2.branch [
      | then-m-eq1-2+else-over-4 w ↦
          sums_as w.sum-is refl
          (twos_more k s w.if-m-eq1-2.true w.two_lengths-a.ensures.0 (w.over-then-m-eq1-2.ensures w.if-over-4.false))
      | else-m-eq1-2 w ↦ sums_as w.sum-is (omega (arith, w.if-m-eq1-2.false)) s
    ]

-- ---- one more
pub overflow_add-sum-then-m-eq1-3 : goal.overflow_add-sum-then-m-eq1-3
overflow_add-sum-then-m-eq1-3 c =
    let k = held c.type_inv.ns c.requires in
    let q = goal.at.overflow_add-sum-then-m-eq1-3 c in
    let s = twos q.Joined-m-eq1-2 (fours q.Joined-m-eq1) in
    let f = ones_more k s c.if-m-eq1-3.true c.wide-a.ensures.0 (c.over-then-m-eq1-3.ensures c.if-over-5.false) in
    record { fits = sums_fit f (omega arith) }

ones : (c : Joined-m-eq1-3) → Sums c.args.ns.now c.if-m-eq1-2.sum ((c.args.n - 1) / 2 * 2) → Sums c.args.ns.now c.if-m-eq1-3.sum (c.args.n - 1)
ones c s =
    let k = held c.type_inv.ns c.requires in
    elim c.if-m-eq1-3.branch [
      | then-m-eq1-3+else-over-5 w ↦
          sums_as w.sum-is refl
          (ones_more k s w.if-m-eq1-3.true w.wide-a.ensures.0 (w.over-then-m-eq1-3.ensures w.if-over-5.false))
      | else-m-eq1-3 w ↦ sums_as w.sum-is (omega (arith, w.if-m-eq1-3.false)) s
    ]

-- ---- the last one
pub overflow_add-pairs : goal.overflow_add-pairs
overflow_add-pairs c =
    let q = goal.at.overflow_add-pairs c in
    record { fits = pairs_fit (ones q.Joined-m-eq1-3 (twos q.Joined-m-eq1-2 (fours q.Joined-m-eq1))) (omega (arith, c.requires)) }

pub overflow_add-all : goal.overflow_add-all
overflow_add-all c =
    let q = goal.at.overflow_add-all c in
    record {
      fits = omega (arith, all_fit (ones q.Joined-m-eq1-3 (twos q.Joined-m-eq1-2 (fours q.Joined-m-eq1))) (omega (arith, c.requires)) 0 (omega arith));
    }

pub overflow_add-all-2 : goal.overflow_add-all-2
overflow_add-all-2 c =
    let q = goal.at.overflow_add-all-2 c in
    record {
      fits = all_fit (ones q.Joined-m-eq1-3 (twos q.Joined-m-eq1-2 (fours q.Joined-m-eq1))) (omega (arith, c.requires)) c.wide-last.result
          c.wide-last.ensures.1;
    }

pub returns : goal.returns
returns c =
    let q = goal.at.returns c in
    λ _. sums_last (held c.type_inv.ns c.requires) (ones q.Joined-m-eq1-3 (twos q.Joined-m-eq1-2 (fours q.Joined-m-eq1))) c.args.n (omega (arith, c.requires))
    c.wide-last.ensures.0 (c.over-2.ensures c.if-over-6.false)
