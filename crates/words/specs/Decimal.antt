-- Numbers as decimal digits.
use Rattle.std.specs.Prelude.{ℕ, ◌+◌, ◌*◌, ◌-◌, List, [], ◌∷◌, cond, ◌||◌, eqb, leb, ltb, length, Option, Some, None}

-- digits behind those that stand for v, of a number below 10 ^ 18; 48 is the digit 0
unfoldable pub digits_from : ℕ → List ℕ → Option ℕ
digits_from v [] = Some v
digits_from v (d ∷ ds) = cond (ltb d 48 || (ltb 57 d || leb 100000000000000000 v)) None (digits_from (10 * v + (d - 48)) ds)

-- one digit at least
unfoldable pub number_in : List ℕ → Option ℕ
number_in t = cond (eqb (length t) 0) None (digits_from 0 t)
