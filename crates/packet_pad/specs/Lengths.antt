-- The lengths that a call in place is given (document 01, 'Return numbers').
use Rattle.std.specs.Prelude.{ℕ, ◌<◌, ◌≡◌, ◌⊎◌, List, [], cond, ◌||◌, ltb, eqb, ℤ, pos, negsuc, length}
use Rattle.opus_defines.specs.Bounds.{most_packet}
use Rattle.opus_defines.specs.Outcome.{Effect, refusal, wrote}
use Rattle.opus_defines.specs.declared.Refusal.TheVariants.{BadArg}
use Rattle.packet_pad.specs.declared.lengths.Lengths.{Lengths}
use Rattle.packet_pad.specs.declared.lengths.Lengths.TheVariants.{Bad, Same, More}

-- a length within the lent buffer s and at most 65,535, and 0 for any other number
abbrev pub length_of : List ℕ → ℤ → ℕ
length_of s (negsuc n) = 0
length_of s (pos n) = cond (ltb (length s) n || ltb most_packet n) 0 n

-- a number that no call takes for a length: negative, 0, above the lent buffer s or above 65,535
abbrev pub Outside : List ℕ → ℤ → Type 0
Outside s (negsuc n) = Unit {0}
Outside s (pos n) = (n ≡ 0) ⊎ ((length s < n) ⊎ (most_packet < n))

-- the packet's length and the new one, which is not to be shorter
abbrev pub lengths_by : ℕ → ℕ → Lengths
lengths_by n m = cond (eqb n 0 || eqb m 0) Bad (cond (eqb n m) Same (cond (ltb m n) Bad (More n m)))

unfoldable pub lengths_of : List ℕ → ℤ → ℤ → Lengths
lengths_of s len new = lengths_by (length_of s len) (length_of s new)

-- what a call does with a number that is 0 where it is out of bounds
abbrev pub bounded : (ℕ → Effect) → ℕ → Effect
bounded f n = cond (eqb n 0) (refusal BadArg) (f n)

-- and with two lengths: equal ones answer 0 without reading the packet
abbrev pub by_lengths : (ℕ → ℕ → Effect) → Lengths → Effect
by_lengths f Bad = refusal BadArg
by_lengths f Same = wrote 0 []
by_lengths f (More n m) = f n m
