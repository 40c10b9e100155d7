-- Signed numbers in a proof. A signed local holds bits, so a need speaks of `to_z w32 (of_z w32 x)`, which is x where x fits the width.
-- Each fact is of a plain x : ℤ, by the two cases of ℤ; `nat_abs x`, what a cast to an unsigned type gives, is a number to `omega`.
-- Assumes nothing.
use mathlib.Core.Path.{◌≡◌, refl}
use mathlib.Core.Bool.{true, false, true≢false}
use Prim.Native.Nat.{ℕ, ◌^◌, ◌<◌}
use native.Mathlib.Nat.{not-suc-le-zero}
use native.Mathlib.Omega.{arith}
use lib.IntN.{ℤ, pos, negsuc, nat_abs}
use lib.Dec.{T}
use lib.Signed.{lt_z, non_neg}
use mir.Syntax.{w32, w64}
use mir.Val.{to_z, of_z, Fits, SFits}
use mir.ValLaws.{to_z-of_z}
use borrow.Author.Tests.{ltb-true}

negative_is : (z : ℤ) → lt_z z (pos 0) ≡ true → (n : ℕ) × (z ≡ negsuc n)
negative_is (pos n) h = absurd (not-suc-le-zero (ltb-true n 0 h))
negative_is (negsuc n) h = (n, refl)

natural_is : (z : ℤ) → lt_z z (pos 0) ≡ false → z ≡ pos (nat_abs z)
natural_is (pos n) h = refl
natural_is (negsuc n) h = absurd (true≢false h)

natural_cast : (z : ℤ) → SFits w32 z → lt_z z (pos 0) ≡ false → T (non_neg z) × Fits w64 (nat_abs z)
natural_cast (pos n) f h = (tt, record { fits = omega (arith, f.sfits) })
natural_cast (negsuc n) f h = absurd (true≢false h)

natural-below : (z : ℤ) → SFits w32 z → lt_z z (pos 0) ≡ false → nat_abs z < 2 ^ 31
natural-below (pos n) f h = f.sfits
natural-below (negsuc n) f h = absurd (true≢false h)

-- an `i32` that tested negative
module _ (x : ℤ) (f : SFits w32 x) (h : lt_z (to_z w32 (of_z w32 x)) (pos 0) ≡ true) where
  pub is_negative : (n : ℕ) × (x ≡ negsuc n)
  is_negative = negative_is x (rw (to_z-of_z w32 x f) at h)

-- an `i32` that did not, and its cast to `usize`
module _ (x : ℤ) (f : SFits w32 x) (h : lt_z (to_z w32 (of_z w32 x)) (pos 0) ≡ false) where
  plain : lt_z x (pos 0) ≡ false
  plain = rw (to_z-of_z w32 x f) at h

  pub usize_fits : T (non_neg (to_z w32 (of_z w32 x))) × Fits w64 (nat_abs (to_z w32 (of_z w32 x)))
  usize_fits = rw (to_z-of_z w32 x f) (natural_cast x f plain)

  pub usize_is : x ≡ pos (nat_abs (to_z w32 (of_z w32 x)))
  usize_is = rw (to_z-of_z w32 x f) (natural_is x plain)

  pub usize_below : nat_abs (to_z w32 (of_z w32 x)) < 2 ^ 31
  usize_below = rw (to_z-of_z w32 x f) (natural-below x f plain)
