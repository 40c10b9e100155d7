-- A number's digits: `decimal` has the fewest, as io's `decimal` promises, and a number below 10 ^ m has at most m.
--     decimal_is       what io's `decimal` writes
--     decimal_most     how long it is
-- Assumes nothing.
use Prim.Native.Nat.{ℕ, zero, suc, ◌*◌, ◌-◌, ◌/◌, ◌%◌, ◌^◌, ◌≤◌, ◌<◌}
use native.Mathlib.Nat.{pow-suc, one-le-pow}
use native.Mathlib.Numerals.{unary_clauses}
use native.Mathlib.Omega.{arith}
use mathlib.Core.Path.{◌≡◌, refl, ap}
use mathlib.Core.List.{List, [], ◌∷◌}
use lib.Dec.{ltb}
use lib.ListN.{length, take, length-append}
use borrow.Author.Tests.{ltb-true, ltb-false}
use Rattle.laws.proofs.Never.{by_test}
use Rattle.io.specs.Digits.{hex_digit_ascii, last_digits, IsDigitCount}
use Rattle.show.specs.Text.{places, decimal}

digits_length : (b k n : ℕ) → length (last_digits b k n) ≡ k
digits_length b zero n = refl
digits_length b (suc k) n =
    omega (arith, length-append (last_digits b k (n / b)) (hex_digit_ascii (n % b) ∷ []), digits_length b k (n / b))

one_digit : (n k : ℕ) → n < 10 → IsDigitCount 10 1 n k → 1 ≡ k
one_digit n zero h f = absurd (omega arith)
one_digit n (suc zero) h f = refl
one_digit n (suc (suc j)) h f =
    let low : 10 ^ j * 10 ≤ n = simp unary_clauses at (f.2 (omega arith)) in
    absurd (omega (arith, one-le-pow j 10 (omega arith)))

-- the digits without the last are the fewest of a tenth
tenth_low : (n j : ℕ) → IsDigitCount 10 1 n (suc (suc j)) → 1 < suc j → 10 ^ (suc j - 1) ≤ n / 10
tenth_low n zero f h = absurd (omega arith)
tenth_low n (suc j) f h =
    let low : 10 ^ j * 10 * 10 ≤ n = simp unary_clauses at (f.2 (omega arith)) in
    simp unary_clauses (omega arith)

tenth : (n j : ℕ) → IsDigitCount 10 1 n (suc (suc j)) → IsDigitCount 10 1 (n / 10) (suc j)
tenth n j f = let high : n < 10 ^ suc (suc j) = f.1 in (omega arith, omega (arith, pow-suc 10 (suc j)), tenth_low n j f)

more_digits : (n k rest : ℕ) → 10 ≤ n → IsDigitCount 10 1 n k → ((j : ℕ) → IsDigitCount 10 1 (n / 10) j → rest ≡ j) → suc rest ≡ k
more_digits n zero rest h f g = absurd (omega arith)
more_digits n (suc zero) rest h f g = absurd (omega arith)
more_digits n (suc (suc j)) rest h f g = ap suc (g (suc j) (tenth n j f))

places_are : (most n k : ℕ) → n ≤ most → IsDigitCount 10 1 n k → places most n ≡ k
unfolding places
places_are zero n k h f = one_digit n k (omega arith) f
places_are (suc most) n k h f =
    by_test (ltb n 10) (λ t. rw t (one_digit n k (ltb-true n 10 t) f))
    (λ t. rw t (more_digits n k (places most (n / 10)) (ltb-false n 10 t) f (λ j g. places_are most (n / 10) j (omega (arith, ltb-false n 10 t)) g)))

-- t is the buffer that io's `decimal` wrote k digits into
module _ (t : List ℕ) (k n : ℕ) (f : IsDigitCount 10 1 n k) (e : take k t ≡ last_digits 10 k n) where
  pub decimal_is : take k t ≡ decimal n
  unfolding decimal
  decimal_is = rw (places_are n n k (omega arith) f) e

more_places : (n m rest : ℕ) → 10 ≤ n → n < 10 ^ suc m → ((i : ℕ) → n / 10 < 10 ^ suc i → rest ≤ suc i) → suc rest ≤ suc m
more_places n zero rest h k g = absurd (omega arith)
more_places n (suc m) rest h k g = omega (arith, g m (omega (arith, pow-suc 10 (suc m))))

places_most : (most n m : ℕ) → n < 10 ^ suc m → places most n ≤ suc m
unfolding places
places_most zero n m h = omega arith
places_most (suc most) n m h =
    by_test (ltb n 10) (λ t. rw t (omega arith))
    (λ t. rw t (more_places n m (places most (n / 10)) (ltb-false n 10 t) h (λ i k. places_most most (n / 10) i k)))

pub decimal_most : (n m : ℕ) → n < 10 ^ suc m → length (decimal n) ≤ suc m
unfolding decimal
decimal_most n m h = omega (arith, digits_length 10 (places n n) n, places_most n n m h)
