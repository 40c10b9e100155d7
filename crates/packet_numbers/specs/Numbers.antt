-- For each frame of a collector the number of the accepted packet that it came in (document 02, M-107).
use Rattle.std.specs.Prelude.{ℕ, ◌+◌, ◌-◌, ◌%◌, Bool, true, cond, ◌&&◌, ◌||◌, List, [], ◌∷◌, ◌==◌, nat_le, slice_index}
use Rattle.opus_size.specs.Size.{most_bytes}
use Rattle.opus_format.specs.Frames.{total, longest}

-- numbers that go on from k by 0 or 1
abbrev pub steps : ℕ → List ℕ → Bool
steps k [] = true
steps k (n ∷ ns) = (n == k || n == k + 1) && steps n ns

-- and begin at 0
unfoldable pub numbered : List ℕ → Bool
numbered [] = true
numbered (n ∷ ns) = n == 0 && steps n ns

-- the number of the next accepted packet, behind n frames with these numbers: one more than that of the last
abbrev pub number_after : List ℕ → ℕ → ℕ
number_after numbers n = cond (n == 0) 0 (slice_index numbers (n - 1) + 1)

-- ---- as the code looks at lengths and numbers in one pass
-- how far a length is above 1274, and a number above the one before it, modulo 256: each at most 1 where it is sound
abbrev pub excess : ℕ → ℕ
excess n = n - 1274

abbrev pub jump : ℕ → ℕ → ℕ
jump before k = (k + (256 - before)) % 256

-- lengths and numbers that frames of a sound collector can have
abbrev pub kept_well : List ℕ → List ℕ → Bool
kept_well ns ks = nat_le (longest ns) most_bytes && numbered ks

-- the sum of the lengths, or 65,535 where a sound collector cannot have them
abbrev pub told : List ℕ → List ℕ → ℕ
told ns ks = cond (kept_well ns ks) (total ns) 65535
