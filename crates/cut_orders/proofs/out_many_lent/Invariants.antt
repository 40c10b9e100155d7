-- `cut_orders::out_many_lent`: what the first orders come to, and what they leave.
use Prim.Native.Nat.{◌≤◌}
use mathlib.Core.Path.{◌≡◌}
use Rattle.cut_orders.specs.Orders.{order_report}
use Rattle.cut_orders.proofs.Passes as P
use Rattle.cut_orders.proofs.out_many_lent.Given as goal

-- the first pass: the report of the orders so far
abbrev pub invariant-loop-i : goal.invariant-loop-i
invariant-loop-i l =
    record {
      within : l.i ≤ l.n;
      report : l.m ≡ order_report (P.part l.h l.len l.packet l.store l.fn.orders l.fn.«data» l.i);
    }

-- the second pass: the list, the destination, and the place behind what is written
abbrev pub invariant-loop-k : goal.invariant-loop-k
invariant-loop-k l =
    record {
      within : l.k ≤ l.all;
      list : l.orders ≡ P.list l.h l.len l.packet l.store l.fn.orders l.fn.«data» l.k;
      bytes : l.«data» ≡ P.bytes l.h l.len l.packet l.store l.fn.orders l.fn.«data» l.k;
      place : l.at ≡ P.place l.h l.len l.packet l.store l.fn.orders l.fn.«data» l.k;
    }
