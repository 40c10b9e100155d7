-- RFC 6716, section 3.2.1: a frame length in one or two bytes.
use Rattle.std.specs.Prelude.{ℕ, ◌+◌, ◌*◌, ◌-◌, ◌/◌, ◌%◌, List, [], ◌∷◌, ◌++◌, cond, ltb}

-- the longest frame, in bytes: 4 * 255 + 255
abbrev pub most_bytes : ℕ
most_bytes = 1275

-- up to 251 the length itself; from 252 on two bytes, 252 to 255 and then a quarter of the rest
unfoldable pub length_field : ℕ → List ℕ
length_field n = cond (ltb n 252) (n ∷ []) ((252 + n % 4) ∷ ((n - 252) / 4) ∷ [])

-- several of them
abbrev pub length_fields : List ℕ → List ℕ
length_fields [] = []
length_fields (n ∷ ns) = length_field n ++ length_fields ns

-- a length taken off the front of a list of bytes, and the bytes behind its field
pub data Field : Type 0 where
  no_field : Field
  field : ℕ → List ℕ → Field

-- 252 to 255 ask for a second byte; the length is 4 * second + first
abbrev pub second_byte : ℕ → List ℕ → Field
second_byte a [] = no_field
second_byte a (b ∷ s) = field (4 * b + a) s

abbrev pub read_field : List ℕ → Field
read_field [] = no_field
read_field (a ∷ s) = cond (ltb a 252) (field a s) (second_byte a s)
