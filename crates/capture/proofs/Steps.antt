-- How a reading goes on: an answer, and the reading from behind its record, whatever number bounds the records. What holds so at each step
-- holds of the whole reading.
--     readings_end, readings_on     one step
--     reading_induction     what each step keeps
--     among_is     an answer among those read
-- Assumes nothing.
use mathlib.Core.Path.{◌≡◌, refl, sym, ap, ◌∙◌}
use mathlib.Core.Logic.{inl, inr}
use mathlib.Core.List.{List, [], ◌∷◌}
use Prim.Native.Nat.{ℕ, zero, suc, ◌-◌, ◌≤◌}
use native.Mathlib.Nat.{le_refl}
use native.Mathlib.Omega.{arith}
use lib.ListN.{length}
use lib.Dec.{eqb}
use borrow.Author.Tests.{eqb-true, eqb-false, eq-eqb, ne_eqb}
use Rattle.laws.proofs.Never.{by_test}
use Rattle.capture.specs.declared.NextRecord.{NextRecord}
use Rattle.capture.specs.Finding.{next_record}
use Rattle.capture.specs.Reading.{behind, begins, readings_in, readings, Among}
use Rattle.capture.proofs.Answers.{next-begins, next-within, next_moves}

-- ---- one step of a bounded reading
module _ (s : List ℕ) (at : ℕ) where
  in_end : (most : ℕ) → (next_record s at).length ≡ 0 → readings_in most s at ≡ next_record s at ∷ []
  unfolding readings_in
  in_end zero e = refl
  in_end (suc most) e = simp (eq-eqb (next_record s at).length 0 e)

  in_on : (most : ℕ) → ((next_record s at).length ≡ 0 → ⊥)
      → readings_in (suc most) s at ≡ next_record s at ∷ readings_in most s (behind (next_record s at))
  unfolding readings_in
  in_on most f = simp (ne_eqb (next_record s at).length 0 f)

-- where no byte is left there is no record
none_left : (s : List ℕ) (at : ℕ) → at ≤ length s → length s - at ≤ 0 → (next_record s at).length ≡ 0
none_left s at h k =
    let n = (next_record s at).length in
    by_test (eqb n 0) (eqb-true n 0)
    (λ t. absurd (omega (arith, next-within s at h (eqb-false n 0 t), next_moves s at h (eqb-false n 0 t))))

-- a bound that is no less than the bytes left is no bound
both_end : (f g : ℕ) (s : List ℕ) (at : ℕ) → (next_record s at).length ≡ 0 → readings_in f s at ≡ readings_in g s at
both_end f g s at e = in_end s at f e ∙ sym (in_end s at g e)

same-readings : (f g : ℕ) (s : List ℕ) (at : ℕ) → at ≤ length s → length s - at ≤ f → length s - at ≤ g
    → readings_in f s at ≡ readings_in g s at
same-readings zero g s at h k l = both_end zero g s at (none_left s at h k)
same-readings (suc f) zero s at h k l = both_end (suc f) zero s at (none_left s at h l)
same-readings (suc f) (suc g) s at h k l =
    let a = next_record s at in
    by_test (eqb a.length 0) (λ t. both_end (suc f) (suc g) s at (eqb-true a.length 0 t))
    (λ t.
    let n = eqb-false a.length 0 t in
    let w = next-within s at h n in
    let m = next_moves s at h n in
    in_on s at f n ∙ ap (λ (r : List NextRecord). a ∷ r) (same-readings f g s (behind a) w (omega arith) (omega arith)) ∙ sym (in_on s at g n))

-- ---- one step of a reading
pub readings_end : (s : List ℕ) (at : ℕ) → (next_record s at).length ≡ 0 → readings s at ≡ next_record s at ∷ []
readings_end s at e = in_end s at (length s) e

pub readings_on : (s : List ℕ) (at : ℕ) → at ≤ length s → ((next_record s at).length ≡ 0 → ⊥)
    → readings s at ≡ next_record s at ∷ readings s (behind (next_record s at))
readings_on s at h f =
    let w = next-within s at h f in
    same-readings (length s) (suc (length s)) s at h (omega arith) (omega arith) ∙ in_on s at (length s) f

-- ---- what each step keeps
module _ (s : List ℕ) (P : ℕ → List NextRecord → Type 0)
    (end : (at : ℕ) → at ≤ length s → (next_record s at).length ≡ 0 → P at (next_record s at ∷ []))
    (on : (at : ℕ) → at ≤ length s → ((next_record s at).length ≡ 0 → ⊥) → P (behind (next_record s at)) (readings s (behind (next_record s at)))
    → P at (next_record s at ∷ readings s (behind (next_record s at)))) where
  at_end : (at : ℕ) → at ≤ length s → (next_record s at).length ≡ 0 → P at (readings s at)
  at_end at h e = rw (readings_end s at e) (end at h e)

  induct : (most at : ℕ) → at ≤ length s → length s - at ≤ most → P at (readings s at)
  induct zero at h k = at_end at h (none_left s at h k)
  induct (suc most) at h k =
      let a = next_record s at in
      by_test (eqb a.length 0) (λ t. at_end at h (eqb-true a.length 0 t))
      (λ t.
      let n = eqb-false a.length 0 t in
      let w = next-within s at h n in
      let m = next_moves s at h n in
      rw (readings_on s at h n) (on at h n (induct most (behind a) w (omega arith))))

  pub reading_induction : (at : ℕ) → at ≤ length s → P at (readings s at)
  reading_induction at h = induct (length s - at) at h (le_refl (length s - at))

-- ---- an answer among those read is one at a place that is not before the start
pub record Answer (s : List ℕ) (at : ℕ) (a : NextRecord) : Type 0 where
  pub from : at ≤ begins a
  pub inside : begins a ≤ length s
  pub is : a ≡ next_record s (begins a)

pub the_answer : (s : List ℕ) (at : ℕ) → at ≤ length s → Answer s at (next_record s at)
the_answer s at h =
    let e = next-begins s at h in
    record { from = omega arith; inside = omega arith; is = rw e }

pub later_answer : (s : List ℕ) (at at' : ℕ) (a : NextRecord) → at ≤ at' → Answer s at' a → Answer s at a
later_answer s at at' a h r = record { from = omega (arith, r.from); inside = r.inside; is = r.is }

among_end : (s : List ℕ) (at : ℕ) (a : NextRecord) → at ≤ length s → Among a (next_record s at ∷ []) → Answer s at a
among_end s at a h (inl e) = rw e (the_answer s at h)
among_end s at a h (inr m) = absurd m

among_on : (s : List ℕ) (at : ℕ) (more : List NextRecord) (a : NextRecord) → at ≤ length s → at ≤ behind (next_record s at)
    → (Among a more → Answer s (behind (next_record s at)) a) → Among a (next_record s at ∷ more) → Answer s at a
among_on s at more a h k rest (inl e) = rw e (the_answer s at h)
among_on s at more a h k rest (inr m) = later_answer s at (behind (next_record s at)) a k (rest m)

pub among_is : (s : List ℕ) (at : ℕ) (a : NextRecord) → at ≤ length s → Among a (readings s at) → Answer s at a
among_is s at a h =
    reading_induction s (λ at r. Among a r → Answer s at a) (λ at h e. among_end s at a h)
    (λ at h f rest. among_on s at (readings s (behind (next_record s at))) a h (omega (arith, next_moves s at h f)) rest) at h
