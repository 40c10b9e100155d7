-- Each byte from the start on is passed over by one answer or lies in the record of one, and of no more.
--     within-..       whether a place is in a part
--     answer-..       the two parts of one answer
--     once_from       all answers of a reading
-- Assumes nothing.
use mathlib.Core.Path.{◌≡◌, refl}
use mathlib.Core.List.{List, [], ◌∷◌}
use Prim.Native.Nat.{ℕ, ◌+◌, ◌≤◌, ◌<◌}
use native.Mathlib.Omega.{arith}
use lib.ListN.{length}
use lib.Dec.{leb, ltb}
use borrow.Author.Tests.{ltb-true, ltb-false, lt-ltb, le-ltb, le-leb, lt-leb}
use Rattle.laws.proofs.Never.{by_test}
use Rattle.capture.specs.declared.NextRecord.{NextRecord}
use Rattle.capture.specs.Finding.{next_record}
use Rattle.capture.specs.Reading.{behind, begins, readings, within, times_passed, times_held}
use Rattle.capture.proofs.Answers.{no_bytes, next_place, next-begins, next_end, next_moves}
use Rattle.capture.proofs.Steps.{reading_induction}

-- ---- one part
module _ (from below k : ℕ) where
  within_in : from ≤ k → k < below → within from below k ≡ 1
  unfolding within
  within_in h l = rw (le-leb from k h, lt-ltb k below l)

  within-before : k < from → within from below k ≡ 0
  unfolding within
  within-before h = rw (lt-leb from k h)

  within-behind : below ≤ k → within from below k ≡ 0
  unfolding within
  within-behind h = by_test (leb from k) (λ t. rw (t, le-ltb k below h)) (λ t. rw t)

-- ---- the two parts of an answer, from `begin` to `place` and on to `end`
module _ (begin place end k : ℕ) (h : begin ≤ place) (l : place ≤ end) where
  answer_once : begin ≤ k → k < end → within begin place k + within place end k ≡ 1
  answer_once m n =
      by_test (ltb k place)
      (λ t. let b = ltb-true k place t in omega (arith, within_in begin place k m b, within-before place end k b))
      (λ t. let b = ltb-false k place t in omega (arith, within-behind begin place k b, within_in place end k b n))

  answer_before : k < begin → within begin place k + within place end k ≡ 0
  answer_before m = omega (arith, within-before begin place k m, within-before place end k (omega arith))

  answer_behind : end ≤ k → within begin place k + within place end k ≡ 0
  answer_behind m = omega (arith, within-behind begin place k (omega arith), within-behind place end k m)

-- ---- all answers
abbrev times : List NextRecord → ℕ → ℕ
times r k = times_passed r k + times_held r k

-- from a place on each byte once, before it none
pub record Once (n at : ℕ) (r : List NextRecord) : Type 0 where
  pub one : (k : ℕ) → at ≤ k → k < n → times r k ≡ 1
  pub none : (k : ℕ) → k < at → times r k ≡ 0

times_none : (k : ℕ) → times [] k ≡ 0
unfolding times_passed times_held
times_none k = refl

times_more : (a : NextRecord) (more : List NextRecord) (k : ℕ)
    → times (a ∷ more) k ≡ (within (begins a) a.place k + within a.place (behind a) k) + times more k
unfolding times_passed times_held
times_more a more k = omega arith

module _ (s : List ℕ) (at : ℕ) (h : at ≤ length s) where
  abbrev a : NextRecord
  a = next_record s at

  first : begins a ≤ a.place
  first = omega (arith, next-begins s at h, next_place s at h)

  once_end : a.length ≡ 0 → Once (length s) at (a ∷ [])
  once_end z =
      let start = next-begins s at h in
      let end = next_end s at h z in
      let bytes = no_bytes a z in
      record {
        one = λ k m n.
            omega (arith, times_more a [] k, times_none k, answer_once (begins a) a.place (behind a) k first (omega arith) (omega arith) (omega arith));
        none = λ k m. omega (arith, times_more a [] k, times_none k, answer_before (begins a) a.place (behind a) k first (omega arith) (omega arith));
      }

  once_on : (a.length ≡ 0 → ⊥) → Once (length s) (behind a) (readings s (behind a)) → Once (length s) at (a ∷ readings s (behind a))
  once_on f rest =
      let start = next-begins s at h in
      let more = readings s (behind a) in
      let on = next_moves s at h f in
      record {
        one = λ k m n. by_test (ltb k (behind a))
            (λ t. let b = ltb-true k (behind a) t in
            omega (arith, times_more a more k, answer_once (begins a) a.place (behind a) k first (omega arith) (omega arith) b, rest.none k b))
            (λ t. let b = ltb-false k (behind a) t in
            omega (arith, times_more a more k, answer_behind (begins a) a.place (behind a) k first (omega arith) b, rest.one k b n));
        none = λ k m.
            omega (
              arith,
              times_more a more k,
              answer_before (begins a) a.place (behind a) k first (omega arith) (omega arith),
              rest.none k (omega (arith, on, m)),
            );
      }

pub once_from : (s : List ℕ) (at : ℕ) → at ≤ length s → Once (length s) at (readings s at)
once_from s = reading_induction s (Once (length s)) (once_end s) (once_on s)
