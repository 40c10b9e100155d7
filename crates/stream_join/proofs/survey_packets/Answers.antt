-- `stream_join::survey_packets` meets its contract. The invariant: those so far with the packets from here on are all of them.
use Prim.Native.Nat.{◌+◌, ◌-◌, ◌≤◌}
use native.Mathlib.Omega.{arith}
use mathlib.Core.Path.{◌≡◌, sym, ap, ◌∙◌}
use mathlib.Core.Bool.{false}
use lib.ListN.{length, take, drop}
use Rattle.stream_join.specs.declared.Survey.TheVariants.{Stuck}
use Rattle.stream_join.proofs.Surveyed.{look_place}
use Rattle.stream_join.proofs.Surveyed.{surveying_start, surveying_end, next-within, lent_long, surveying_stuck, surveying_more}
use Rattle.stream_join.proofs.survey_packets.Goals as goal
use Rattle.stream_join.proofs.survey_packets.Goals.{After-wide}

-- the lent packet is there
within : (c : After-wide)
    → c.loop-i.at + c.wide.result ≤ length c.args.«data».now
within c =
    next-within c.args.«data».now c.args.lengths.now c.loop-i.t c.loop-i.at c.loop-i.i c.loop-i.invariant c.loop-i-test.true c.wide.result c.wide.ensures.0

long : (c : After-wide)
    → length (take (c.loop-i.at + c.wide.result - c.loop-i.at) (drop c.loop-i.at c.args.«data».now)) ≡ c.wide.result
long c =
    lent_long c.args.«data».now c.args.lengths.now c.loop-i.t c.loop-i.at c.loop-i.i c.loop-i.invariant c.loop-i-test.true c.wide.result c.wide.ensures.0

pub loop-i-init : goal.loop-i-init
loop-i-init c =
    surveying_start _ _ c.requires.2

pub overflow_add-next : goal.overflow_add-next
overflow_add-next c =
    omega (arith, within c, c.requires.1)

pub look_at-x-requires : goal.look_at-x-requires
look_at-x-requires c =
    omega (arith, long (goal.at.look_at-x-requires c).After-wide, within (goal.at.look_at-x-requires c).After-wide, c.requires.1)

pub and_one-t-requires : goal.and_one-t-requires
and_one-t-requires c =
    (c.loop-i.invariant.few, omega (arith, c.loop-i-test.true, c.requires.0), rw c.in-Ok.is at c.look_at-x.ensures.small)

pub shift-requires : goal.shift-requires
shift-requires c =
    let p = look_place _ false _ _ (sym c.in-Err.is ∙ c.look_at-x.ensures.says) in
    omega (arith, p, long (goal.at.shift-requires c).After-wide, within (goal.at.shift-requires c).After-wide, c.requires.1)

pub returns-in-Err : goal.returns-in-Err
returns-in-Err c =
    ap Stuck c.shift.ensures
    ∙ surveying_stuck c.args.«data».now c.args.lengths.now c.loop-i.t c.loop-i.at c.loop-i.i c.loop-i.invariant c.loop-i-test.true c.wide.result
    c.wide.ensures.0 _
    (sym c.in-Err.is ∙ c.look_at-x.ensures.says)

pub loop-i-preserved : goal.loop-i-preserved
loop-i-preserved c =
    surveying_more c.args.«data».now c.args.lengths.now c.loop-i.t c.loop-i.at c.loop-i.i c.loop-i.invariant c.loop-i-test.true c.wide.result
    c.wide.ensures.0 _
    (sym c.in-Ok.is ∙ c.look_at-x.ensures.says) (rw c.in-Ok.is at c.look_at-x.ensures.small) c.and_one-t.result
    c.and_one-t.ensures

pub returns : goal.returns
returns c =
    c.end.ensures ∙ surveying_end c.args.«data».now c.args.lengths.now c.loop-i.t c.loop-i.at c.loop-i.i c.loop-i.invariant c.loop-i-test.false

pub slice_bounds-look_at-end : goal.slice_bounds-look_at-end
slice_bounds-look_at-end c =
    within c
