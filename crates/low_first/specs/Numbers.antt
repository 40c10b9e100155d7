-- Numbers and their bytes, low byte first, as the fields of an identification header have them (RFC 7845, 5.1).
use Rattle.std.specs.Prelude.{ℕ, zero, suc, ◌+◌, ◌*◌, ◌/◌, ◌%◌, List, [], ◌∷◌, take, drop}

-- a number in so many bytes
abbrev pub low_first : ℕ → ℕ → List ℕ
low_first zero n = []
low_first (suc k) n = n % 256 ∷ low_first k (n / 256)

-- the number that bytes spell
abbrev pub from_low : List ℕ → ℕ
from_low [] = 0
from_low (b ∷ bs) = from_low bs * 256 + b

-- that of n bytes from a place on
abbrev pub number_at : List ℕ → ℕ → ℕ → ℕ
number_at s at n = from_low (take n (drop at s))
