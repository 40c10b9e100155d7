-- The sum of lengths modulo 65,536.
--     sum_more, sum-all     the sum of the first lengths, as a loop goes over them
--     sum_small             the sum of lengths that a collector can hold is below 65,536
-- Assumes nothing.
use Rattle.std.proofs.Common.{◌≡◌, ℕ, ◌+◌, ◌%◌, ◌<◌, ◌≤◌, List, length, get_or, take, arith, take_all}
use native.Mathlib.Nat.{mod-add-mod}
use Rattle.opus_size.specs.Size.{most_bytes}
use Rattle.opus_format.specs.Frames.{total, longest}
use Rattle.opus_format.proofs.Lengths.{total_more, total_most}

-- the sum of the first i
module _ (ns : List ℕ) {sum i : ℕ} (s : sum ≡ total (take i ns) % 65536) where
  pub sum_more : i < length ns → {sum' : ℕ} → sum' ≡ (sum + get_or ns i 0) % 65536 → sum' ≡ total (take (i + 1) ns) % 65536
  sum_more h e = rw (total_more ns i h, ← mod-add-mod (total (take i ns)) 65536 (get_or ns i 0), ← s) e

  pub sum-all : length ns ≤ i → sum ≡ total ns % 65536
  sum-all h = rw (take_all i ns h) at s

-- the sum of lengths that a collector can hold
pub sum_small : (ns : List ℕ) → length ns ≤ 48 → longest ns ≤ most_bytes → total ns % 65536 ≡ total ns
sum_small ns h m = omega (arith, total_most ns m)
