-- Words that are numbers, and words that are none.
-- Assumes nothing.
use Prim.Native.Nat.{ℕ}
use mathlib.Core.Path.{◌≡◌, refl}
use mathlib.Core.List.{[], ◌∷◌}
use lib.ListN.{replicate}
use Rattle.std.specs.Prelude.{Option, Some, None}
use Rattle.words.specs.Decimal.{digits_from, number_in}

abbrev is : ℕ → Option ℕ
is n = Some n

-- 0, 7, 42, 007, 101, 4096 and the largest, eighteen nines
numbers : number_in (48 ∷ []) ∷ number_in (55 ∷ []) ∷ number_in (52 ∷ 50 ∷ []) ∷ number_in (48 ∷ 48 ∷ 55 ∷ [])
    ∷ number_in (49 ∷ 48 ∷ 49 ∷ []) ∷ number_in (52 ∷ 48 ∷ 57 ∷ 54 ∷ []) ∷ number_in (replicate 18 57) ∷ []
    ≡ is 0 ∷ is 7 ∷ is 42 ∷ is 7 ∷ is 101 ∷ is 4096 ∷ is 999999999999999999 ∷ []
unfolding digits_from number_in
numbers = refl

-- no byte, a slash, a colon, a sign, a digit and a space, a letter behind a digit, and 10 ^ 18
no_numbers : number_in [] ∷ number_in (47 ∷ []) ∷ number_in (58 ∷ []) ∷ number_in (45 ∷ 49 ∷ []) ∷ number_in (49 ∷ 32 ∷ [])
    ∷ number_in (49 ∷ 101 ∷ []) ∷ number_in (49 ∷ replicate 18 48) ∷ []
    ≡ replicate 7 None
unfolding digits_from number_in
no_numbers = refl
