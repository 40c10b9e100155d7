-- A report in one number (word.rt).
--     signed-fits, signed_low, signed_high    32 bits as a signed number, as the code reads them
--     turned, turned_back                     it is turned to a natural number
--     word-holds                              the fields that a word is put together of
-- Assumes nothing.
use mathlib.Core.Path.{◌≡◌, sym, ap, ◌∙◌}
use Prim.Native.Nat.{ℕ, suc, ◌+◌, ◌*◌, ◌-◌, ◌/◌, ◌%◌, ◌<◌, ◌≤◌}
use native.Mathlib.Omega.{arith}
use lib.IntN.{ℤ, pos, negsuc, ◌-ℤ◌}
use lib.Dec.{ltb}
use mir.Syntax.{w32, w64}
use mir.Val.{SFits, to_z, of_z}
use mir.ValLaws.{to_z_pos, to_z-of_z}
use borrow.Author.Tests.{ltb-true, ltb-false, lt-ltb, le-ltb}
use Rattle.laws.proofs.Never.{by_test}
use Rattle.aveluafi.specs.Words.{signed}

-- ---- out of a word
pub signed_low : (n : ℕ) → n < 2147483648 → to_z w32 n ≡ signed n
signed_low n t = to_z_pos w32 n (omega arith) ∙ sym (rw (lt-ltb n 2147483648 t))

pub signed-fits : (n : ℕ) → n < 4294967296 → SFits w32 (signed n)
signed-fits n h =
    by_test (ltb n 2147483648) (λ t. rw t (record { sfits = omega (arith, ltb-true n 2147483648 t) }))
    (λ t. rw t (record { sfits = omega (arith, ltb-false n 2147483648 t) }))

lowered : (n : ℕ) → n < 4294967296 → to_z w64 n -ℤ pos 4294967296 ≡ negsuc (4294967295 - n)
lowered n h =
    let e : to_z w64 n ≡ pos n = to_z_pos w64 n (omega arith) in
    let d : 4294967296 - suc n ≡ 4294967295 - n = omega arith in
    rw (e, lt-ltb n 4294967296 h, d)

module _ (n : ℕ) (h : n < 4294967296) (t : 2147483648 ≤ n) where
  high : to_z w64 n -ℤ pos 4294967296 ≡ signed n
  high = lowered n h ∙ sym (rw (le-ltb n 2147483648 t))

  pub high_fits : SFits w64 (to_z w64 n -ℤ pos 4294967296)
  high_fits = rw (lowered n h) (record { sfits = omega arith })

  high_back : to_z w64 (of_z w64 (to_z w64 n -ℤ pos 4294967296)) ≡ signed n
  high_back = to_z-of_z w64 (to_z w64 n -ℤ pos 4294967296) high_fits ∙ high

  pub high_cast : SFits w32 (to_z w64 (of_z w64 (to_z w64 n -ℤ pos 4294967296)))
  high_cast = rw high_back (signed-fits n h)

  pub signed_high : to_z w32 (of_z w32 (to_z w64 (of_z w64 (to_z w64 n -ℤ pos 4294967296)))) ≡ signed n
  signed_high = to_z-of_z w32 (to_z w64 (of_z w64 (to_z w64 n -ℤ pos 4294967296))) high_cast ∙ high_back

-- ---- into a word
module _ (x : ℤ) (k : ℕ) (few : k < 24) (e : x ≡ negsuc k) where
  pub turned : pos 0 -ℤ to_z w32 (of_z w32 x) ≡ pos (suc k)
  turned =
      let z : 0 + suc k ≡ suc k = omega arith in rw (e, to_z-of_z w32 (negsuc k) (record { sfits = omega arith })) (ap pos z)

  pub turned_back : to_z w32 (of_z w32 (pos 0 -ℤ to_z w32 (of_z w32 x))) ≡ pos (suc k)
  turned_back = rw turned (to_z-of_z w32 (pos (suc k)) (record { sfits = omega arith }))

module _ (k rule place : ℕ) (few : k < 24) (r : rule < 65536) (p : place < 65536) where
  abbrev word : ℕ
  word = 4294967296 - suc k + rule * 4294967296 + place * 281474976710656

  low_is : word % 4294967296 ≡ 4294967296 - suc k
  low_is = omega arith

  pub number_held : signed (word % 4294967296) ≡ negsuc k
  number_held =
      let d : 4294967295 - (4294967296 - suc k) ≡ k = omega arith in
      rw (low_is, le-ltb (4294967296 - suc k) 2147483648 (omega arith), d)

  pub rule_held : word / 4294967296 % 65536 ≡ rule
  rule_held = omega arith

  pub place_held : word / 281474976710656 ≡ place
  place_held = omega arith
