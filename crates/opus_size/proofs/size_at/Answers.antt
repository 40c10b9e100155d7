-- `opus_size::size_at` meets its contract: at each `return` the tests that led there say which field stands at the place.
-- Assumes nothing.
use mathlib.Core.Path.{ap, ◌∙◌}
use Prim.Native.Nat.{ℕ, ◌+◌}
use Rattle.std.specs.Prelude.{Some}
use Rattle.opus_size.proofs.At.{at_end, at_short, at_cut, at_long}
use Rattle.opus_size.proofs.size_at.Goals as goal

pub returns-then-data-at : goal.returns-then-data-at
returns-then-data-at c =
    at_end _ _ c.if-data-at.true

pub returns-then-first-lt252 : goal.returns-then-first-lt252
returns-then-first-lt252 c =
    at_short _ _ c.if-data-at.false c.if-first-lt252.true

pub returns-then-data-at-2 : goal.returns-then-data-at-2
returns-then-data-at-2 c =
    at_cut _ _ c.if-data-at.false c.if-first-lt252.false c.if-data-at-2.true

pub returns : goal.returns
returns c =
    ap (λ (n : ℕ). Some (n, c.args.at + 2)) c.two_bytes.ensures
    ∙ at_long _ _ c.if-data-at-2.false c.if-first-lt252.false
