-- Which of some bytes are 4B, the first byte of a mark (document 02, M-101).
use Rattle.std.specs.Prelude.{ℕ, List, map, cond, eqb}
use Rattle.low_first.specs.Numbers.{from_low}

-- the number with 128 for each byte that is 4B, and 0 for each other
abbrev pub flags_of : List ℕ → ℕ
flags_of l = from_low (map (λ b. cond (eqb b 0x4B) 128 0) l)
