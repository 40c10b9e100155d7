-- What two different constructors cannot be, and a fact that goes by a test.
-- Assumes nothing.
use Prim.Native.Nat.{ℕ}
use native.Mathlib.Omega.{arith}
use mathlib.Core.Path.{◌≡◌, refl}
use mathlib.Core.Bool.{Bool, true, false, cond}

-- two constructors are never equal: `never (cc)` where the hypotheses say that they are
pub never {ℓ} : {P : Type ℓ} → ◌≡◌ {A = ℕ} 0 1 → P
never e = absurd (omega arith)

-- a fact from the fact at either result of a test
pub by_test : {P : Type 0} (b : Bool) → (b ≡ true → P) → (b ≡ false → P) → P
by_test true f g = f refl
by_test false f g = g refl

-- a fact of a `cond`, from the fact of each branch
pub cond_elim : {A : Type 0} (P : A → Type 0) (b : Bool) (x y : A) → (b ≡ true → P x) → (b ≡ false → P y) → P (cond b x y)
cond_elim P true x y f g = f refl
cond_elim P false x y f g = g refl
