-- The first two bytes of a packet, and what follows where they ask for no padding.
--     asks_short, asks_not_3, asks_flag     whether they ask for it, by the tests on them
--     clean_unasked                         a packet that asks for none is clean
-- Assumes nothing.
use Prim.Native.Nat.{ℕ, zero, suc, ◌+◌, ◌-◌, ◌/◌, ◌%◌, ◌≤◌, ◌<◌}
use native.Mathlib.Nat.{add-zero}
use native.Mathlib.Omega.{arith}
use mathlib.Core.Path.{◌≡◌, refl}
use mathlib.Core.List.{List, [], ◌∷◌}
use mathlib.Core.Bool.{Bool, false}
use lib.Dec.{eqb}
use lib.ListN.{length, get_or, take}
use lib.Seq.{slice_empty}
use borrow.Author.Tests.{eqb-false, eq-eqb, ne_eqb, le-ltb}
use Rattle.laws.proofs.Never.{cond_elim}
use Rattle.opus_defines.specs.declared.Rule.TheVariants.{R2, R3, R4}
use Rattle.opus_toc.specs.Toc.{code, upper_six}
use Rattle.opus_format.specs.Frames.{total}
use Rattle.opus_format.specs.Reading.{Reading, Front, broken, front, unequal, equal, frames3, lasts, accept, read3, read_code, read}
use Rattle.opus_format.specs.Dirt.{padding_of, dirty_packet}
use Rattle.opus_format.proofs.Dirt.{dirt_is}
use Rattle.padding.specs.Asked.{asks_padding}

-- ---- the tests on the first two bytes
pub asks_short : (p : List ℕ) → length p < 2 → false ≡ asks_padding p
asks_short [] h = refl
asks_short (toc ∷ []) h = refl
asks_short (toc ∷ c ∷ s) h = absurd (omega arith)

pub asks_not_3 : (p : List ℕ) → (code (get_or p 0 0) ≡ 3 → ⊥) → false ≡ asks_padding p
asks_not_3 [] n = refl
asks_not_3 (toc ∷ []) n = refl
asks_not_3 (toc ∷ c ∷ s) n = rw (ne_eqb (code toc) 3 n)

pub asks_flag : (p : List ℕ) → 2 ≤ length p → code (get_or p 0 0) ≡ 3 → eqb (get_or p 1 0 / 64 % 2) 1 ≡ asks_padding p
asks_flag [] h e = absurd (omega arith)
asks_flag (toc ∷ []) h e = absurd (omega arith)
asks_flag (toc ∷ c ∷ s) h e = rw (eq-eqb (code toc) 3 e)

-- ---- no padding asked: what a packet takes ends with its frames
module _ (sd : Bool) (p : List ℕ) (m toc : ℕ) where
  ends_with_frames : (f : Front) → padding_of p (accept m toc 0 f) ≡ []
  ends_with_frames (broken r s) = refl
  ends_with_frames (front ns t) = rw add-zero (slice_empty (m - 0 - length t + total ns) p)

  unflagged_3 : (c : ℕ) (s : List ℕ) → c / 64 % 2 ≡ 0 → padding_of p (read3 sd m toc (c ∷ s)) ≡ []
  unflagged_3 c s e =
      cond_elim (λ (r : Reading). padding_of p r ≡ []) (lasts (upper_six toc) (c % 64)) _ _
      (λ t. rw (e, le-ltb (length s) 0 (omega arith)) (ends_with_frames (frames3 sd (c / 128 % 2) (c % 64) (take (length s - 0) s)))) (λ t. refl)

  by_its_code : (k : ℕ) (s : List ℕ) → (3 ≤ k → padding_of p (read3 sd m toc s) ≡ []) → padding_of p (read_code sd k m toc s) ≡ []
  by_its_code zero s h = ends_with_frames (unequal sd R2 0 s)
  by_its_code (suc zero) s h = ends_with_frames (equal sd R3 2 s)
  by_its_code (suc (suc zero)) s h = ends_with_frames (unequal sd R4 1 s)
  by_its_code (suc (suc (suc k))) s h = h (omega arith)

unasked : (sd : Bool) (p : List ℕ) → asks_padding p ≡ false → padding_of p (read sd p) ≡ []
unfolding read
unasked sd [] a = refl
unasked sd (toc ∷ []) a = by_its_code sd (toc ∷ []) 1 toc (code toc) [] (λ t. refl)
unasked sd (toc ∷ c ∷ s) a =
    let p = toc ∷ c ∷ s in
    by_its_code sd p (length p) toc (code toc) (c ∷ s)
    (λ t. let three : code toc ≡ 3 = omega arith in
    let flag : eqb (c / 64 % 2) 1 ≡ false = rw (eq-eqb (code toc) 3 three) at a in
    unflagged_3 sd p (length p) toc c s (omega (arith, eqb-false (c / 64 % 2) 1 flag)))

pub clean_unasked : (sd : Bool) (p : List ℕ) → asks_padding p ≡ false → false ≡ dirty_packet sd p
clean_unasked sd p a = rw (dirt_is sd p, unasked sd p a)
