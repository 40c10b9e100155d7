-- `cut_orders::next_order` meets its contract.
use Prim.Native.Nat.{ℕ, ◌-◌, ◌≤◌}
use mathlib.Core.Path.{◌≡◌, ◌∙◌}
use mathlib.Core.List.{[]}
use native.Mathlib.Omega.{arith}
use borrow.Author.Rules.{sfits_of}
use lib.IntN.{pos}
use Rattle.opus_defines.proofs.Counts.{counted, is_natural}
use Rattle.opus_toc.specs.Toc.{upper_six}
use Rattle.collector.specs.Collector.{held}
use Rattle.collector.specs.Parts.{bare}
use Rattle.cut_orders.proofs.Effects.{effect_passed}
use Rattle.cut_orders.proofs.Nexts.{next_refused, next_stops, next_goes, natural_most, number_most}
use Rattle.cut_orders.proofs.next_order.Goals as goal
use Rattle.cut_orders.proofs.next_order.Goals.{After-wide, In-Some}

abbrev so_far : In-Some → ℕ
so_far c = c.in-Some.used

used : (c : In-Some) → c.args.m.number ≡ pos (so_far c)
used c =
    is_natural c.args.m.number _ (counted c.args.m.number (sfits_of c.struct_told-1.given.0.1) c.count_of.ensures.is c.in-Some.is)

within : (c : In-Some) → so_far c ≤ c.args.room
within c = natural_most (used c) c.requires.few.2

-- the bytes of the order
fits : (c : After-wide)
    → c.wide.result ≤ c.args.room - c.in-Some.used
fits c =
    omega (arith, number_most c.in-Ok.is c.need_of-a.ensures.most, c.wide.ensures.0)

pub returns-in_default : goal.returns-in_default
returns-in_default c =
    let negative = counted c.args.m.number (sfits_of c.struct_told-1.given.0.1) c.count_of.ensures.is c.in_default.is in
    λ store k x e d. next_refused (upper_six c.args.h.toc) (held (bare c.args.h c.args.len.now) store) c.args.room c.args.begin c.args.end c.args.m x e negative

pub overflow_sub-room : goal.overflow_sub-room
overflow_sub-room c =
    within (goal.at.overflow_sub-room c).In-Some

pub overflow_add-used : goal.overflow_add-used
overflow_add-used c =
    omega (arith, fits c, c.requires.few.1)

pub overflow_cast-used : goal.overflow_cast-used
overflow_cast-used c =
    omega (arith, fits c, within (goal.at.overflow_cast-used c).In-Some, c.requires.few.1)

pub returns-in_default-a : goal.returns-in_default-a
returns-in_default-a c =
    λ store j x h d.
    c.order_report.ensures
    ∙ next_stops (upper_six c.args.h.toc) (held (bare c.args.h c.args.len.now) store) c.args.room c.args.begin c.args.end c.args.m
    (so_far (goal.at.returns-in_default-a c).In-Some) (used (goal.at.returns-in_default-a c).In-Some) []
    c.need_of-a.result
    (effect_passed (upper_six c.args.h.toc) (held (bare c.args.h c.args.len.now) store) (c.args.room - so_far (goal.at.returns-in_default-a c).In-Some)
    c.ranges.begin c.ranges.end []
    (c.need_of-a.ensures.number store [] j))
    x h _ c.in_default-a.is c.args.i (d (so_far (goal.at.returns-in_default-a c).In-Some) (used (goal.at.returns-in_default-a c).In-Some))

pub returns : goal.returns
returns c =
    λ store j x h d.
    c.order_report-2.ensures
    ∙ next_goes (upper_six c.args.h.toc) (held (bare c.args.h c.args.len.now) store) c.args.room c.args.begin c.args.end c.args.m
    (so_far (goal.at.returns c).In-Some) (used (goal.at.returns c).In-Some) []
    c.need_of-a.result
    (effect_passed (upper_six c.args.h.toc) (held (bare c.args.h c.args.len.now) store) (c.args.room - so_far (goal.at.returns c).In-Some)
    c.ranges.begin c.ranges.end []
    (c.need_of-a.ensures.number store [] j))
    x h _ c.in-Ok.is c.wide.ensures.0
