-- `stream_join::survey_streams` meets its contract. The invariant: those so far with the streams from here on are all of them.
use native.Mathlib.Omega.{arith}
use mathlib.Core.Path.{sym, ap, ◌∙◌}
use Rattle.laws.specs.Bytes.{Bytes}
use Rattle.multistream.proofs.Bounds.{part-short}
use Rattle.stream_join.specs.declared.Survey.TheVariants.{Stuck}
use Rattle.stream_join.proofs.Surveyed.{look_place, lent_to_end_long}
use Rattle.stream_join.proofs.Surveyed.{streaming_start, streaming_end, streaming_stuck, streaming_within, streaming_more}
use Rattle.stream_join.proofs.survey_streams.Goals as goal

pub look_at-x-requires : goal.look_at-x-requires
look_at-x-requires c =
    part-short c.args.«data».now c.loop-i.at 65535 c.requires.1

pub and_one-t-requires : goal.and_one-t-requires
and_one-t-requires c =
    (c.loop-i.invariant.few, omega (arith, c.loop-i-test.true, c.requires.0), rw c.in-Ok.is at c.look_at-x.ensures.small)

pub shift-requires : goal.shift-requires
shift-requires c =
    let p = look_place _ _ _ _ (sym c.in-Err.is ∙ c.look_at-x.ensures.says) in
    omega (arith, p, lent_to_end_long c.args.«data».now c.loop-i.at, c.loop-i.invariant.inside, c.requires.1)

pub returns-in-Err : goal.returns-in-Err
returns-in-Err c =
    ap Stuck c.shift.ensures
    ∙ streaming_stuck c.args.«data».now c.args.n c.loop-i.t c.loop-i.at c.loop-i.i c.loop-i.invariant c.loop-i-test.true _
    (sym c.in-Err.is ∙ c.look_at-x.ensures.says)

pub overflow_add-at : goal.overflow_add-at
overflow_add-at c =
    let bytes : Bytes c.args.«data».now = record { byte = λ i. (c.shared_slice_known-1.given i).fits } in
    let w = streaming_within c.args.«data».now c.args.n c.loop-i.t c.loop-i.at c.loop-i.i c.loop-i.invariant c.loop-i-test.true bytes _
    (sym c.in-Ok.is ∙ c.look_at-x.ensures.says) in
    omega (arith, w, c.requires.1)

pub loop-i-preserved : goal.loop-i-preserved
loop-i-preserved c =
    streaming_more c.args.«data».now c.args.n c.loop-i.t c.loop-i.at c.loop-i.i c.loop-i.invariant c.loop-i-test.true
    (record { byte = λ i. (c.shared_slice_known-1.given i).fits }) _ (sym c.in-Ok.is ∙ c.look_at-x.ensures.says)
    (rw c.in-Ok.is at c.look_at-x.ensures.small) c.and_one-t.result c.and_one-t.ensures

pub returns : goal.returns
returns c =
    c.end.ensures ∙ streaming_end c.args.«data».now c.args.n c.loop-i.t c.loop-i.at c.loop-i.i c.loop-i.invariant c.loop-i-test.false

pub loop-i-init : goal.loop-i-init
loop-i-init c =
    streaming_start _ _

pub slice_bounds-look_at-count : goal.slice_bounds-look_at-count
slice_bounds-look_at-count c =
    c.loop-i.invariant.inside

pub slice_bounds-look_at-start : goal.slice_bounds-look_at-start
slice_bounds-look_at-start c =
    c.loop-i.invariant.inside
