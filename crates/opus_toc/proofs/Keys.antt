-- A number that a `match` found among the keys of an arm, or among none.
--     AllOf, key_holds     what holds of every key holds of the number
--     no_key               it is none of them
-- Assumes nothing.
use Prim.Native.Nat.{ℕ}
use mathlib.Core.Path.{◌≡◌, sym, subst}
use mathlib.Core.List.{List, [], ◌∷◌}
use mathlib.Core.Logic.{inl, inr}
use mathlib.Core.Bool.{false}
use lib.Dec.{T}
use mir.Val.{has_key}
use types.Run.{OneOf, hit}
use Rattle.laws.proofs.Never.{by_test}

abbrev pub AllOf : (ℕ → Type 0) → List ℕ → Type 0
AllOf P [] = Unit {0}
AllOf P (k ∷ ks) = P k × AllOf P ks

module _ (P : ℕ → Type 0) (x : ℕ) where
  pub key_holds : (ks : List ℕ) → AllOf P ks → OneOf ks x → P x
  key_holds [] a o = absurd o
  key_holds (k ∷ []) a o = subst P (sym o) a.0
  key_holds (k ∷ k' ∷ ks) a (inl e) = subst P (sym e) a.0
  key_holds (k ∷ k' ∷ ks) a (inr o) = key_holds (k' ∷ ks) a.1 o

pub no_key : (ks : List ℕ) (x : ℕ) → (OneOf ks x → ⊥) → has_key ks x ≡ false
no_key ks x n = by_test (has_key ks x) (λ e. absurd (n (hit ks x (subst T (sym e) tt)))) (λ e. e)
