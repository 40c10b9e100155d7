-- A number read digit by digit.
--     none_given                          no digit at all
--     not-below, not_above, too_large     what is no digit, and one digit too many
--     one_more, all_read                  a digit, and the end
-- Assumes nothing.
use Prim.Native.Nat.{ℕ, ◌+◌, ◌*◌, ◌-◌, ◌<◌, ◌≤◌}
use native.Mathlib.Omega.{arith}
use mathlib.Core.Path.{◌≡◌, sym, ◌∙◌}
use mathlib.Core.List.{List, ◌∷◌}
use lib.ListN.{length, get_or, drop}
use lib.Seq.{drop-length, drop-cons}
use borrow.Author.Tests.{lt-ltb, le-ltb, le-leb, lt-leb, eq-eqb, ne_eqb}
use native.Mathlib.Numerals.{add-one}
use Rattle.std.specs.Prelude.{Option, Some, None}
use Rattle.words.specs.Decimal.{digits_from, number_in}

pub none_given : (t : List ℕ) → length t ≡ 0 → None ≡ number_in t
unfolding number_in
none_given t z = rw (eq-eqb (length t) 0 z)

some_given : (t : List ℕ) → (length t ≡ 0 → ⊥) → number_in t ≡ digits_from 0 t
unfolding number_in
some_given t f = rw (ne_eqb (length t) 0 f)

-- `value` stands for the first i digits of t
pub record Digits (t : List ℕ) (value i : ℕ) : Type 0 where
  pub inside : i ≤ length t
  pub same : number_in t ≡ digits_from value (drop i t)
  pub small : value < 1000000000000000000

pub digits_start : (t : List ℕ) → (length t ≡ 0 → ⊥) → Digits t 0 0
digits_start t f = record { inside = omega arith; same = some_given t f; small = omega arith }

below : (v d : ℕ) (ds : List ℕ) → d < 48 → digits_from v (d ∷ ds) ≡ None
unfolding digits_from
below v d ds h = rw (lt-ltb d 48 h)

above : (v d : ℕ) (ds : List ℕ) → 48 ≤ d → 57 < d → digits_from v (d ∷ ds) ≡ None
unfolding digits_from
above v d ds g h = rw (le-ltb d 48 g, lt-ltb 57 d h)

large : (v d : ℕ) (ds : List ℕ) → 48 ≤ d → d ≤ 57 → 100000000000000000 ≤ v → digits_from v (d ∷ ds) ≡ None
unfolding digits_from
large v d ds g h k = rw (le-ltb d 48 g, le-ltb 57 d h, le-leb 100000000000000000 v k)

digit : (v d : ℕ) (ds : List ℕ) → 48 ≤ d → d ≤ 57 → v < 100000000000000000 → digits_from v (d ∷ ds) ≡ digits_from (10 * v + (d - 48)) ds
unfolding digits_from
digit v d ds g h k = rw (le-ltb d 48 g, le-ltb 57 d h, lt-leb 100000000000000000 v k)

module _ {t : List ℕ} {value i : ℕ} (w : Digits t value i) where
  pub all_read : length t ≤ i → Some value ≡ number_in t
  unfolding digits_from
  all_read h = let e : i ≡ length t = omega (arith, w.inside) in sym (w.same ∙ rw (e, drop-length t))

  module _ (h : i < length t) where
    here : {x : Option ℕ} → digits_from value (get_or t i 0 ∷ drop (i + 1) t) ≡ x → number_in t ≡ x
    here e = w.same ∙ (rw (drop-cons t i 0 h, ← add-one i) e)

    pub not-below : get_or t i 0 < 48 → None ≡ number_in t
    not-below k = sym (here (below value (get_or t i 0) (drop (i + 1) t) k))

    pub not_above : 48 ≤ get_or t i 0 → 57 < get_or t i 0 → None ≡ number_in t
    not_above g k = sym (here (above value (get_or t i 0) (drop (i + 1) t) g k))

    pub too_large : 48 ≤ get_or t i 0 → get_or t i 0 ≤ 57 → 100000000000000000 ≤ value → None ≡ number_in t
    too_large g k l = sym (here (large value (get_or t i 0) (drop (i + 1) t) g k l))

    pub one_more : 48 ≤ get_or t i 0 → get_or t i 0 ≤ 57 → value < 100000000000000000
        → {v : ℕ} → v ≡ get_or t i 0 - 48 → Digits t (10 * value + v) (i + 1)
    one_more g k l e =
        record {
          inside = omega arith;
          same = rw e (here (digit value (get_or t i 0) (drop (i + 1) t) g k l));
          small = omega arith;
        }

-- what the goals of `decimal` need
pub ruleset digits = (none_given, digits_start, not-below, not_above, too_large, one_more, all_read)
