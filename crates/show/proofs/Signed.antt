-- A signed number's digits, and how many they are.
-- Assumes nothing.
use Prim.Native.Nat.{ℕ, suc, ◌≤◌}
use native.Mathlib.Omega.{arith}
use mathlib.Core.Path.{◌≡◌}
use mathlib.Core.List.{[], ◌∷◌, ◌++◌}
use mathlib.Core.Bool.{true, false}
use lib.IntN.{ℤ, pos, negsuc, nat_abs}
use lib.ListN.{length}
use lib.Signed.{lt_z}
use mir.Syntax.{w32}
use mir.Val.{to_z, of_z, SFits}
use mir.ValLaws.{to_z-of_z}
use Rattle.laws.proofs.Signed.{is_negative, usize_is}
use Rattle.show.specs.Text.{decimal, integer}
use Rattle.show.proofs.Digits.{decimal_most}

module _ (x : ℤ) (f : SFits w32 x) (h : lt_z (to_z w32 (of_z w32 x)) (pos 0) ≡ true) where
  pub negative_text : {m : ℕ} → m ≡ nat_abs (to_z w32 (of_z w32 x)) → integer x ≡ (45 ∷ []) ++ decimal m
  unfolding integer
  negative_text e = let q = is_negative x f h in signed x q.0 q.1 (rw (to_z-of_z w32 x f) at e)
    where
      signed : (y : ℤ) (n : ℕ) → y ≡ negsuc n → {m : ℕ} → m ≡ nat_abs y → integer y ≡ 45 ∷ decimal m
      signed y n e g = rw (g, e)

pub natural_text : (x : ℤ) → SFits w32 x → lt_z (to_z w32 (of_z w32 x)) (pos 0) ≡ false → {m : ℕ} → m ≡ nat_abs (to_z w32 (of_z w32 x))
    → integer x ≡ decimal m
unfolding integer
natural_text x f h e = natural x _ (usize_is x f h) (rw (to_z-of_z w32 x f) at e)
  where
    natural : (y : ℤ) (n : ℕ) → y ≡ pos n → {m : ℕ} → m ≡ nat_abs y → integer y ≡ decimal m
    natural y n e g = rw (g, e)

-- a sign and ten digits
pub integer_most : (x : ℤ) → SFits w32 x → length (integer x) ≤ 11
unfolding integer
integer_most (pos n) f = omega (arith, decimal_most n 9 (omega (arith, f.sfits)))
integer_most (negsuc n) f = omega (arith, decimal_most (suc n) 9 (omega (arith, f.sfits)))
