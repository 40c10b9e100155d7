-- The gain as 16 bits and as a signed number. A signed local holds bits, so a need speaks of `to_z w16 (of_z w16 x)`, which is x where x fits.
-- Assumes nothing.
use Prim.Native.Nat.{ℕ, zero, suc, ◌-◌, ◌<◌, ◌≤◌}
use native.Mathlib.Nat.{zero-add}
use native.Mathlib.Omega.{arith}
use mathlib.Core.Path.{◌≡◌, refl, sym, ap, ◌∙◌}
use mathlib.Core.Bool.{true, false, cond, true≢false}
use lib.Dec.{T, ltb}
use lib.IntN.{ℤ, pos, negsuc, nat_abs, ◌-ℤ◌}
use lib.Signed.{mag, lt_z, non_neg}
use mir.Syntax.{w16}
use mir.Val.{to_z, of_z, Fits, SFits}
use mir.ValLaws.{to_z-of_z, to_z_pos}
use borrow.Author.Tests.{lt-ltb, le-ltb, ltb-true, ltb-false}
use Rattle.laws.proofs.Never.{by_test}
use Rattle.opus_head.specs.Header.{bits16}
use Rattle.opus_head.specs.Reading.{signed16}

-- ---- -1 - x, of a plain x
abbrev below : ℤ → ℤ
below x = negsuc 0 -ℤ x

below_negative : (n : ℕ) → below (negsuc n) ≡ pos n
below_negative n = rw (le-ltb (suc n) 1 (omega arith)) (ap pos (omega arith))

below-natural : (n : ℕ) → below (pos n) ≡ negsuc n
below-natural zero = refl
below-natural (suc n) = rw zero-add

-- ---- a gain that tested negative
record Negative (x : ℤ) : Type 0 where
  n : ℕ
  is : x ≡ negsuc n
  small : n < 32768

negative_is : (x : ℤ) → SFits w16 x → lt_z x (pos 0) ≡ true → Negative x
negative_is (pos n) f h = absurd (omega (arith, ltb-true n 0 h))
negative_is (negsuc n) f h = record { n = n; is = refl; small = omega (arith, f.sfits) }

module _ (x : ℤ) (f : SFits w16 x) (h : lt_z (to_z w16 (of_z w16 x)) (pos 0) ≡ true) where
  low : Negative x
  low = negative_is x f (rw (to_z-of_z w16 x f) at h)

  turned : below (to_z w16 (of_z w16 x)) ≡ pos low.n
  turned = rw (to_z-of_z w16 x f) (ap below low.is ∙ below_negative low.n)

  turned_bits : to_z w16 (of_z w16 (below (to_z w16 (of_z w16 x)))) ≡ pos low.n
  turned_bits = ap (λ z. to_z w16 (of_z w16 z)) turned ∙ to_z_pos w16 low.n (omega (arith, low.small))

  pub turned_fits : SFits w16 (below (to_z w16 (of_z w16 x)))
  turned_fits = rw turned (record { sfits = omega (arith, low.small) })

  pub turned_cast : T (non_neg (to_z w16 (of_z w16 (below (to_z w16 (of_z w16 x))))))
      × Fits w16 (nat_abs (to_z w16 (of_z w16 (below (to_z w16 (of_z w16 x))))))
  turned_cast = rw turned_bits (tt, record { fits = omega (arith, low.small) })

  pub turned_less : nat_abs (to_z w16 (of_z w16 (below (to_z w16 (of_z w16 x))))) ≤ 65535
  turned_less = rw turned_bits (omega (arith, low.small))

  pub bits_negative : 65535 - nat_abs (to_z w16 (of_z w16 (below (to_z w16 (of_z w16 x))))) ≡ bits16 x
  bits_negative = rw turned_bits (sym (ap bits16 low.is))

-- ---- a gain that did not
natural_cast : (x : ℤ) → SFits w16 x → lt_z x (pos 0) ≡ false → T (non_neg x) × Fits w16 (nat_abs x)
natural_cast (pos n) f h = (tt, record { fits = omega (arith, f.sfits) })
natural_cast (negsuc n) f h = absurd (true≢false h)

natural_bits : (x : ℤ) → lt_z x (pos 0) ≡ false → nat_abs x ≡ bits16 x
natural_bits (pos n) h = refl
natural_bits (negsuc n) h = absurd (true≢false h)

module _ (x : ℤ) (f : SFits w16 x) (h : lt_z (to_z w16 (of_z w16 x)) (pos 0) ≡ false) where
  pub gain_cast : T (non_neg (to_z w16 (of_z w16 x))) × Fits w16 (nat_abs (to_z w16 (of_z w16 x)))
  gain_cast = rw (to_z-of_z w16 x f) (natural_cast x f (rw (to_z-of_z w16 x f) at h))

  pub bits_natural : nat_abs (to_z w16 (of_z w16 x)) ≡ bits16 x
  bits_natural = rw (to_z-of_z w16 x f) (natural_bits x (rw (to_z-of_z w16 x f) at h))

-- ---- 16 bits as a gain
pub signed-natural : (n : ℕ) → n < 32768 → to_z w16 n ≡ signed16 n
signed-natural n h = to_z_pos w16 n (omega (arith, h)) ∙ sym (ap (λ b. cond b (pos n) (negsuc (65535 - n))) (lt-ltb n 32768 h))

module _ (n : ℕ) (h : 32768 ≤ n) (k : n < 65536) where
  turned_back : below (to_z w16 (65535 - n)) ≡ negsuc (65535 - n)
  turned_back = ap below (to_z_pos w16 (65535 - n) (omega arith)) ∙ below-natural (65535 - n)

  pub signed-fits : SFits w16 (below (to_z w16 (65535 - n)))
  signed-fits = rw turned_back (record { sfits = omega arith })

  pub signed_negative : to_z w16 (of_z w16 (below (to_z w16 (65535 - n)))) ≡ signed16 n
  signed_negative =
      to_z-of_z w16 (below (to_z w16 (65535 - n))) signed-fits ∙ turned_back
      ∙ sym (ap (λ b. cond b (pos n) (negsuc (65535 - n))) (le-ltb n 32768 h))

-- ---- the two undo each other
pub bits_back : (n : ℕ) → n < 65536 → bits16 (signed16 n) ≡ n
bits_back n h =
    by_test (ltb n 32768) (λ t. ap (λ b. bits16 (cond b (pos n) (negsuc (65535 - n)))) t)
    (λ t. let back : 65535 - (65535 - n) ≡ n = omega arith in ap (λ b. bits16 (cond b (pos n) (negsuc (65535 - n)))) t ∙ back)

pub signed_back : (x : ℤ) → mag x < 32768 → signed16 (bits16 x) ≡ x
signed_back (pos n) h = rw (lt-ltb n 32768 h)
signed_back (negsuc n) h =
    let back : 65535 - (65535 - n) ≡ n = omega arith in
    rw (le-ltb (65535 - n) 32768 (omega arith), back)

pub bits_below : (x : ℤ) → mag x < 32768 → bits16 x < 65536
bits_below (pos n) h = omega arith
bits_below (negsuc n) h = omega arith

pub signed_small : (n : ℕ) → n < 65536 → mag (signed16 n) < 32768
signed_small n h =
    by_test (ltb n 32768) (λ t. rw t (ltb-true n 32768 t)) (λ t. rw t (omega (arith, ltb-false n 32768 t)))
