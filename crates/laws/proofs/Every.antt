-- A test that holds at every number below a bound holds at each.
-- Assumes nothing.
use Prim.Native.Nat.{ℕ, zero, suc, ◌<◌}
use native.Mathlib.Omega.{arith}
use mathlib.Core.Path.{◌≡◌, ap, ◌∙◌}
use mathlib.Core.Bool.{Bool, true, false, ◌&&◌}
use lib.Dec.{eqb}
use borrow.Author.Tests.{eqb-true, eqb-false}
use Rattle.laws.specs.Every.{every_below}
use Rattle.laws.proofs.Never.{never, by_test}

pub both_left : (a b : Bool) → a && b ≡ true → a ≡ true
both_left true b e = cc
both_left false b e = never (cc)

pub both_right : (a b : Bool) → a && b ≡ true → b ≡ true
both_right true b e = e
both_right false b e = never (cc)

pub every_at : (n : ℕ) (f : ℕ → Bool) → every_below n f ≡ true → (k : ℕ) → k < n → f k ≡ true
every_at zero f e k h = absurd (omega arith)
every_at (suc n) f e k h =
    by_test (eqb k n) (λ t. ap f (eqb-true k n t) ∙ both_left (f n) (every_below n f) e)
    (λ t. every_at n f (both_right (f n) (every_below n f) e) k (omega (arith, eqb-false k n t)))
