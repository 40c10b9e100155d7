-- The count byte of code 3 and the time that the frames last.
-- Assumes nothing.
use Prim.Native.Nat.{ℕ, ◌*◌, ◌/◌, ◌%◌, ◌≤◌, ◌<◌}
use native.Mathlib.Nat.{mul-le-mul_left, mul-le-mul}
use native.Mathlib.Omega.{arith}
use mathlib.Core.Path.{◌≡◌, refl}
use mathlib.Core.List.{List, [], ◌∷◌}
use mathlib.Core.Bool.{true, ◌&&◌}
use lib.Dec.{ltb, leb}
use lib.ListN.{get_or}
use borrow.Author.Tests.{ltb-true, leb-true, lt-ltb, le-leb}
use Rattle.laws.specs.Every.{every_below}
use Rattle.laws.proofs.Never.{never, by_test}
use Rattle.laws.proofs.Every.{every_at, both_left, both_right}
use Rattle.opus_toc.specs.Toc.{duration}
use Rattle.opus_format.specs.Format.{count_byte, Lasts}
use Rattle.opus_format.specs.Reading.{lasts}

-- ---- the count byte holds its three parts
module _ (v p count : ℕ) (hv : v < 2) (hp : p < 2) (hc : count < 64) where
  pub byte_unequal : count_byte v p count / 128 % 2 ≡ v
  byte_unequal = omega arith

  pub byte_padded : count_byte v p count / 64 % 2 ≡ p
  byte_padded = omega arith

  pub byte_count : count_byte v p count % 64 ≡ count
  byte_count = omega arith

pub byte_whole : (c : ℕ) → c < 256 → count_byte (c / 128 % 2) (c / 64 % 2) (c % 64) ≡ c
byte_whole c h = omega arith

-- ---- a frame lasts 2.5 to 60 ms
entry_between : (l : List ℕ) (n : ℕ) → every_below n (λ i. leb 25 (get_or l i 0) && leb (get_or l i 0) 600) ≡ true → (i : ℕ) → i < n
    → (25 ≤ get_or l i 0) × (get_or l i 0 ≤ 600)
entry_between l n e i h =
    let x = get_or l i 0 in
    let t = every_at n (λ i. leb 25 (get_or l i 0) && leb (get_or l i 0) 600) e i h in
    (leb-true 25 x (both_left (leb 25 x) (leb x 600) t), leb-true x 600 (both_right (leb 25 x) (leb x 600) t))

duration_between : (c : ℕ) → (25 ≤ duration c) × (duration c ≤ 600)
unfolding duration
duration_between c =
    let silk = entry_between (100 ∷ 200 ∷ 400 ∷ 600 ∷ []) 4 refl (c % 4) (omega arith) in
    let hybrid = entry_between (100 ∷ 200 ∷ []) 2 refl (c % 2) (omega arith) in
    let celt = entry_between (25 ∷ 50 ∷ 100 ∷ 200 ∷ []) 4 refl (c % 4) (omega arith) in
    by_test (ltb c 12) (λ e. rw e silk) (λ e. by_test (ltb c 16) (λ f. rw (e, f) hybrid) (λ f. rw (e, f) celt))

-- so 48 frames at most
pub lasts_few : {six count : ℕ} → Lasts six count → count ≤ 48
lasts_few {six} {count} h =
    omega (arith, mul-le-mul_left {m = 25} {n = duration (six / 2)} count (duration_between (six / 2)).0, h.short)

-- and one or two never last too long
pub two_last : (six count : ℕ) → 1 ≤ count → count ≤ 2 → Lasts six count
two_last six count h k =
    let d = (duration_between (six / 2)).1 in
    record { some = h; short = omega (arith, mul-le-mul {n₁ = count} {m₁ = duration (six / 2)} {n₂ = 2} {m₂ = 600} k d) }

-- ---- the test of R5
pub lasts_passes : {six count : ℕ} → Lasts six count → lasts six count ≡ true
lasts_passes {six} {count} h = rw (lt-ltb 0 count h.some, le-leb (count * duration (six / 2)) 1200 h.short)

pub passed_lasts : (six count : ℕ) → lasts six count ≡ true → Lasts six count
passed_lasts six count e =
    by_test (ltb 0 count)
    (λ d. record { some = ltb-true 0 count d; short = leb-true (count * duration (six / 2)) 1200 (rw d at e) })
    (λ d. never (cc))
