-- Numbers and refusals as text, in ASCII.
use Rattle.std.specs.Prelude.{ℕ, zero, suc, ◌/◌, List, [], ◌∷◌, ◌++◌, cond, ltb, ℤ, pos, negsuc}
use Rattle.io.specs.Digits.{last_digits}

-- how many digits n has, if they are no more than most + 1
unfoldable pub places : ℕ → ℕ → ℕ
places zero n = 1
places (suc most) n = cond (ltb n 10) 1 (suc (places most (n / 10)))

-- a number without leading zeros; no number has more digits than its value and one
unfoldable pub decimal : ℕ → List ℕ
decimal n = last_digits 10 (places n n) n

-- a signed number; 45 is the minus sign
unfoldable pub integer : ℤ → List ℕ
integer (pos n) = decimal n
integer (negsuc n) = 45 ∷ decimal (suc n)

-- a number behind its label, and what stands behind it; 10 is the end of a line
abbrev pub number_text : List ℕ → ℕ → List ℕ → List ℕ
number_text label n end = label ++ (decimal n ++ end)

abbrev pub number_line : List ℕ → ℕ → List ℕ
number_line label n = number_text label n (10 ∷ [])

-- "refused "
unfoldable pub refused_label : List ℕ
refused_label = 114 ∷ 101 ∷ 102 ∷ 117 ∷ 115 ∷ 101 ∷ 100 ∷ 32 ∷ []

-- the line for what is refused, with the refusal's number
unfoldable pub refusal : ℤ → List ℕ
refusal number = refused_label ++ (integer number ++ (10 ∷ []))
