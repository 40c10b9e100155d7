-- The five rates: a fact of a rate from the fact at each, and what is none of them.
-- Assumes nothing.
use Prim.Native.Nat.{ℕ}
use mathlib.Core.Path.{◌≡◌, sym, subst}
use mathlib.Core.Bool.{Bool, true, false, ◌||◌, ◌&&◌}
use lib.Dec.{eqb}
use borrow.Author.Tests.{eqb-true, ne_eqb}
use Rattle.laws.proofs.Every.{both_left, both_right}
use Rattle.opus_toc.specs.Answers.{is_rate}

either : {P : Type 0} (a b : Bool) → a || b ≡ true → (a ≡ true → P) → (b ≡ true → P) → P
either true b e f g = f e
either false b e f g = g e

pub each_rate : (P : ℕ → Type 0) → P 8000 → P 12000 → P 16000 → P 24000 → P 48000 → (r : ℕ) → is_rate r ≡ true → P r
each_rate P p8 p12 p16 p24 p48 r e =
    either _ _ e
    (λ e₁. either _ _ e₁
    (λ e₂. either _ _ e₂
    (λ e₃. either _ _ e₃ (is 8000 p8) (is 12000 p12))
    (is 16000 p16))
    (is 24000 p24))
    (is 48000 p48)
  where
    is : (n : ℕ) → P n → eqb r n ≡ true → P r
    is n p t = subst P (sym (eqb-true r n t)) p

-- a test at all five rates holds at each
abbrev pub every_rate : (ℕ → Bool) → Bool
every_rate f = f 8000 && (f 12000 && (f 16000 && (f 24000 && f 48000)))

pub rate_at : (f : ℕ → Bool) → every_rate f ≡ true → (r : ℕ) → is_rate r ≡ true → f r ≡ true
rate_at f t =
    let t₂ = both_right (f 8000) _ t in
    let t₃ = both_right (f 12000) _ t₂ in
    let t₄ = both_right (f 16000) _ t₃ in
    each_rate (λ r. f r ≡ true) (both_left (f 8000) _ t) (both_left (f 12000) _ t₂) (both_left (f 16000) _ t₃) (both_left (f 24000) _ t₄)
    (both_right (f 24000) _ t₄)

pub no_rate : (r : ℕ) → (r ≡ 8000 → ⊥) → (r ≡ 12000 → ⊥) → (r ≡ 16000 → ⊥) → (r ≡ 24000 → ⊥) → (r ≡ 48000 → ⊥)
    → is_rate r ≡ false
no_rate r n8 n12 n16 n24 n48 =
    rw (ne_eqb r 8000 n8, ne_eqb r 12000 n12, ne_eqb r 16000 n16, ne_eqb r 24000 n24, ne_eqb r 48000 n48)
