-- `opus::read_3` meets its contract: each `return` is a law of code 3, at what the tests on the way say.
use Prim.Native.Nat.{◌<◌}
use mathlib.Core.Path.{sym, ◌∙◌}
use native.Mathlib.Omega.{arith}
use borrow.Author.Rules.{rules}
use lib.ListN.{get_or}
use Rattle.opus.proofs.AtPacket.{most_frames, three_short, three_none, three_long, three_read}
use Rattle.opus.proofs.Lent.{none-answered}
use Rattle.opus.proofs.read_3.Goals as goal
use Rattle.opus.proofs.read_3.Goals.{After-shared_slice_known-3-1}

-- the first byte is a byte
toc-byte : (c : After-shared_slice_known-3-1) → get_or c.args.«data».now 0 0 < 256
toc-byte c = omega (arith, c.shared_slice_known-3-1.given 0)

pub returns-then-data-lt2 : goal.returns-then-data-lt2
returns-then-data-lt2 c =
    none-answered _ _ _ c.broken_head.ensures ∙ three_short c.args.self_delimited c.args.«data».now c.if-data-lt2.true

pub returns-then-count-eq0 : goal.returns-then-count-eq0
returns-then-count-eq0 c =
    none-answered _ _ _ c.broken_head-then-count-eq0.ensures ∙ three_none c.args.self_delimited c.args.«data».now c.if-data-lt2.false c.if-count-eq0.true

pub returns-then-not-fits : goal.returns-then-not-fits
returns-then-not-fits c =
    none-answered _ _ _ c.broken_head-then-not-fits.ensures
    ∙ three_long c.args.self_delimited c.args.«data».now c.if-data-lt2.false c.if-count-eq0.false _
    (toc-byte (goal.at.returns-then-not-fits c).After-shared_slice_known-3-1) c.samples_48k-each.ensures
    (sym c.fits.ensures ∙ c.if-not-fits.true)

pub read_body-requires : goal.read_body-requires
read_body-requires c =
    let few = most_frames _ _ _ (toc-byte (goal.at.read_body-requires c).After-shared_slice_known-3-1) c.samples_48k-each.ensures
    (sym c.fits.ensures ∙ c.if-not-fits.false) in record {
      in_bounds = (search rules, search rules, omega (arith, c.if-count-eq0.false), few);
      zeros = search rules;
    }

pub returns : goal.returns
returns c =
    three_read c.args.self_delimited c.args.«data».now c.if-data-lt2.false c.if-count-eq0.false _
    (toc-byte (goal.at.returns c).After-shared_slice_known-3-1) c.samples_48k-each.ensures
    (sym c.fits.ensures ∙ c.if-not-fits.false) _ c.read_body.ensures
