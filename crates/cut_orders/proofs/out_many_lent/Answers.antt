-- `cut_orders::out_many_lent` meets its contract: what its two loops count is in Passes.antt, over plain lists.
use Prim.Native.Nat.{◌≤◌}
use mathlib.Core.Path.{◌≡◌, sym, ap, subst, ◌∙◌}
use native.Mathlib.Omega.{arith}
use borrow.Author.Rules.{rules}
use lib.ListN.{length, get_or}
use mir.Syntax.{w32}
use mir.Val.{to_z, of_z}
use Rattle.cut_orders.specs.declared.OrderReport.{OrderReport}
use Rattle.cut_orders.specs.Orders.{order_report, natural}
use Rattle.cut_orders.proofs.Each.{past}
use Rattle.cut_orders.proofs.Passes as P
use Rattle.cut_orders.proofs.out_many_lent.Goals as goal
use Rattle.cut_orders.proofs.out_many_lent.Goals.{In-loop-i, In-loop-k}

-- ---- the first pass
-- a turn: the orders that the pass goes through are counted in n
measured : (c : In-loop-i) → P.Measures c.args.h c.args.len.now c.args.packet.now c.args.store.now c.args.orders.now c.args.«data».now c.loop-i.i
measured c =
    let n = P.counted_1 c.args.h c.args.len.now c.args.packet.now c.args.store.now c.args.orders.now c.args.«data».now c.begin_orders-m.ensures
    c.turns_of-n.ensures in
    P.measures c.args.h c.args.len.now c.args.packet.now c.args.store.now c.args.orders.now c.args.«data».now c.loop-i.i
    (omega (arith, n, c.loop-i-test.true))

pub loop-i-init : goal.loop-i-init
loop-i-init c =
    record {
      within = omega arith;
      report = c.begin_orders-m.ensures ∙ ap order_report
          (P.part-0 c.args.h c.args.len.now c.args.packet.now c.args.store.now c.args.orders.now c.args.«data».now);
    }

pub next_order-m-requires-clause-collector : goal.next_order-m-requires-clause-collector
next_order-m-requires-clause-collector c =
    let t = measured (goal.at.next_order-m-requires-clause-collector c).In-loop-i in
    t.collector

pub next_order-m-requires-clause-few : goal.next_order-m-requires-clause-few
next_order-m-requires-clause-few c =
    let t = measured (goal.at.next_order-m-requires-clause-few c).In-loop-i in
    let most = subst (λ (r : OrderReport). natural r.number ≤ length c.args.«data».now) (sym c.loop-i.invariant.report) t.few.2 in
    (t.few.0, t.few.1, most)

pub loop-i-preserved : goal.loop-i-preserved
loop-i-preserved c =
    let t = measured (goal.at.loop-i-preserved c).In-loop-i in
    let b : to_z w32 (of_z w32 (get_or c.args.orders.now c.loop-i.i past).begin) ≡ (get_or c.args.orders.now c.loop-i.i past).begin = search rules in
    let e : to_z w32 (of_z w32 (get_or c.args.orders.now c.loop-i.i past).end) ≡ (get_or c.args.orders.now c.loop-i.i past).end = search rules in
    let so_far = c.loop-i.invariant.report in
    let says =
    c.next_order-m.ensures c.args.store.now t.roomy (P.part c.args.h c.args.len.now c.args.packet.now c.args.store.now c.args.orders.now
    c.args.«data».now c.loop-i.i) so_far
    (λ u q. t.counts u (sym (ap (λ (r : OrderReport). r.number) so_far) ∙ q)) in
    record { within = omega (arith, c.loop-i-test.true); report = says ∙ rw (b, e) (ap order_report t.goes_on) }

-- ---- the second pass
-- a turn: the orders that the pass goes through are counted in `all`
written : (c : In-loop-k) → P.Writes c.args.h c.args.len.now c.args.packet.now c.args.store.now c.args.orders.now c.args.«data».now c.loop-k.k
written c =
    let n = P.counted_1 c.args.h c.args.len.now c.args.packet.now c.args.store.now c.args.orders.now c.args.«data».now c.begin_orders-m.ensures
    c.turns_of-n.ensures in
    let same : c.loop-i.i ≡ c.turns_of-n.result = omega (arith, c.loop-i-test.false, c.loop-i.invariant.within) in
    let all = P.counted_2 c.args.h c.args.len.now c.args.packet.now c.args.store.now c.args.orders.now c.args.«data».now n same c.loop-i.invariant.report
    c.turns_of-all.ensures in
    P.writes c.args.h c.args.len.now c.args.packet.now c.args.store.now c.args.orders.now c.args.«data».now c.loop-k.k
    (omega (arith, all, c.loop-k-test.true))

pub loop-k-init : goal.loop-k-init
loop-k-init c =
    record {
      within = omega arith;
      list = P.list-0 c.args.h c.args.len.now c.args.packet.now c.args.store.now c.args.orders.now c.args.«data».now;
      bytes = P.bytes-0 c.args.h c.args.len.now c.args.packet.now c.args.store.now c.args.orders.now c.args.«data».now;
      place = P.place-0 c.args.h c.args.len.now c.args.packet.now c.args.store.now c.args.orders.now c.args.«data».now;
    }

pub put_order-l-requires-clause-collector : goal.put_order-l-requires-clause-collector
put_order-l-requires-clause-collector c =
    let w = written (goal.at.put_order-l-requires-clause-collector c).In-loop-k in
    w.collector

pub put_order-l-requires-clause-buffers : goal.put_order-l-requires-clause-buffers
put_order-l-requires-clause-buffers c =
    let w = written (goal.at.put_order-l-requires-clause-buffers c).In-loop-k in
    rw (c.loop-k.invariant.bytes, c.loop-k.invariant.place) w.roomy

pub put_order-l-requires-clause-taken : goal.put_order-l-requires-clause-taken
put_order-l-requires-clause-taken c =
    let w = written (goal.at.put_order-l-requires-clause-taken c).In-loop-k in
    let b : to_z w32 (of_z w32 (get_or c.loop-k.orders c.loop-k.k past).begin) ≡ (get_or c.loop-k.orders c.loop-k.k past).begin = search rules in
    let e : to_z w32 (of_z w32 (get_or c.loop-k.orders c.loop-k.k past).end) ≡ (get_or c.loop-k.orders c.loop-k.k past).end = search rules in
    λ f. rw (b, e, c.loop-k.invariant.list, c.loop-k.invariant.bytes, c.loop-k.invariant.place) (w.taken f)

pub overflow_add-at : goal.overflow_add-at
overflow_add-at c =
    let w = written (goal.at.overflow_add-at c).In-loop-k in
    let b : to_z w32 (of_z w32 (get_or c.loop-k.orders c.loop-k.k past).begin) ≡ (get_or c.loop-k.orders c.loop-k.k past).begin = search rules in
    let e : to_z w32 (of_z w32 (get_or c.loop-k.orders c.loop-k.k past).end) ≡ (get_or c.loop-k.orders c.loop-k.k past).end = search rules in
    let r = rw (b, e, c.loop-k.invariant.list, c.loop-k.invariant.bytes, c.loop-k.invariant.place) at c.put_order-l.ensures.length in
    record { fits = rw c.loop-k.invariant.place (w.sum c.put_order-l.result r) }

pub loop-k-preserved : goal.loop-k-preserved
loop-k-preserved c =
    let w = written (goal.at.loop-k-preserved c).In-loop-k in
    let b : to_z w32 (of_z w32 (get_or c.loop-k.orders c.loop-k.k past).begin) ≡ (get_or c.loop-k.orders c.loop-k.k past).begin = search rules in
    let e : to_z w32 (of_z w32 (get_or c.loop-k.orders c.loop-k.k past).end) ≡ (get_or c.loop-k.orders c.loop-k.k past).end = search rules in
    let r = rw (b, e, c.loop-k.invariant.list, c.loop-k.invariant.bytes, c.loop-k.invariant.place) at c.put_order-l.ensures.length in
    let left = rw (b, e, c.loop-k.invariant.list, c.loop-k.invariant.bytes, c.loop-k.invariant.place) at c.put_order-l.ensures.bytes in
    record {
      within = omega (arith, c.loop-k-test.true);
      list = rw c.loop-k.invariant.list (w.on_list c.put_order-l.result r);
      bytes = w.on-bytes c.put_order-l.new.«data» left;
      place = rw c.loop-k.invariant.place (w.on-place c.put_order-l.result r);
    }

-- ---- both
pub returns : goal.returns
returns c =
    let n = P.counted_1 c.args.h c.args.len.now c.args.packet.now c.args.store.now c.args.orders.now c.args.«data».now c.begin_orders-m.ensures
    c.turns_of-n.ensures in
    let same : c.loop-i.i ≡ c.turns_of-n.result = omega (arith, c.loop-i-test.false, c.loop-i.invariant.within) in
    let all = P.counted_2 c.args.h c.args.len.now c.args.packet.now c.args.store.now c.args.orders.now c.args.«data».now n same c.loop-i.invariant.report
    c.turns_of-all.ensures in
    P.ended c.args.h c.args.len.now c.args.packet.now c.args.store.now c.args.orders.now c.args.«data».now (same ∙ n)
    (omega (arith, all, c.loop-k-test.false, c.loop-k.invariant.within)) c.loop-i.invariant.report c.loop-k.invariant.list
    c.loop-k.invariant.bytes
