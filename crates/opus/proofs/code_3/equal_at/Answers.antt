-- `opus::code_3::equal_at` meets its contract: each `return` is a law of code 3, at what the tests on the way say.
use Prim.Native.Nat.{◌+◌, ◌≤◌, ◌<◌}
use mathlib.Core.Path.{sym, ◌∙◌}
use mathlib.Core.Bool.{false}
use native.Mathlib.Omega.{arith}
use lib.ListN.{length, get_or}
use Rattle.opus.proofs.AtPacket.{body_room}
use Rattle.opus.proofs.AtEqual.{equal-empty, equal_other, equal-short, equal_flag, equal-none, equal-time, equal_unfit, equal_shared}
use Rattle.opus.proofs.code_3.equal_at.Goals as goal
use Rattle.opus.proofs.code_3.equal_at.Goals.{After-fits, In-Some}

toc-byte : (c : After-fits) → get_or c.args.«data».now 0 0 < 256
toc-byte c = omega (arith, c.shared_slice_known-4-1.given 0)

-- the padding lengths and the padding lie within the packet
room : (c : In-Some)
    → 2 + c.in-Some.next + c.in-Some.pad ≤ length c.args.«data».now
room c =
    body_room false c.args.«data».now (get_or c.args.«data».now 1 0) c.if-data-lt2.false _ _ (sym c.read_padding-padding.ensures ∙ c.in-Some.is)

pub returns-then-data-eq0 : goal.returns-then-data-eq0
returns-then-data-eq0 c =
    equal-empty c.args.«data».now c.if-data-eq0.true

pub returns-then-data-ne3 : goal.returns-then-data-ne3
returns-then-data-ne3 c =
    equal_other c.args.«data».now c.if-data-ne3.true

pub returns-then-data-lt2 : goal.returns-then-data-lt2
returns-then-data-lt2 c =
    equal-short c.args.«data».now c.if-data-eq0.false c.if-data-ne3.false c.if-data-lt2.true

pub returns-then-count_byte-ne0 : goal.returns-then-count_byte-ne0
returns-then-count_byte-ne0 c =
    equal_flag c.args.«data».now c.if-data-ne3.false c.if-count_byte-ne0.true

pub returns-then-count-eq0 : goal.returns-then-count-eq0
returns-then-count-eq0 c =
    equal-none c.args.«data».now c.if-data-lt2.false c.if-data-ne3.false c.if-count_byte-ne0.false c.if-count-eq0.true

pub returns-then-not-fits : goal.returns-then-not-fits
returns-then-not-fits c =
    equal-time c.args.«data».now c.if-data-lt2.false c.if-data-ne3.false c.if-count_byte-ne0.false c.if-count-eq0.false _
    (toc-byte (goal.at.returns-then-not-fits c).After-fits)
    c.samples_48k-each.ensures (sym c.fits.ensures ∙ c.if-not-fits.true)

pub returns-in_default : goal.returns-in_default
returns-in_default c =
    equal_unfit c.args.«data».now c.if-data-lt2.false c.if-data-ne3.false c.if-count_byte-ne0.false c.if-count-eq0.false _
    (toc-byte (goal.at.returns-in_default c).After-fits)
    c.samples_48k-each.ensures (sym c.fits.ensures ∙ c.if-not-fits.false) (sym c.read_padding-padding.ensures ∙ c.in_default.is)

pub overflow_add-first : goal.overflow_add-first
overflow_add-first c =
    omega (arith, room c, c.requires)

pub overflow_sub-data : goal.overflow_sub-data
overflow_sub-data c =
    omega (arith, room c)

pub overflow_sub-data-2 : goal.overflow_sub-data-2
overflow_sub-data-2 c =
    omega (arith, room c)

pub shared-requires : goal.shared-requires
shared-requires c =
    (omega (arith, c.if-count-eq0.false), omega (arith, c.requires))

pub returns : goal.returns
returns c =
    equal_shared c.args.«data».now c.if-data-lt2.false c.if-data-ne3.false c.if-count_byte-ne0.false c.if-count-eq0.false _
    (toc-byte (goal.at.returns c).After-fits)
    c.samples_48k-each.ensures (sym c.fits.ensures ∙ c.if-not-fits.false) _ _
    (sym c.read_padding-padding.ensures ∙ c.in-Some.is) c.shared.ensures
