-- When a call refuses, where it stops, and what its counts add up to.
--     account-written, account-read      what was written, and what was read for it
--     spans                              from the start to the resume place
--     stops-within, stops-before         what was done fits, and one record more does not
--     past_only, short_only, over_only, over-said     each refusal
-- Assumes nothing.
use Prim.Native.Nat.{ℕ, ◌+◌, ◌-◌, ◌<◌, ◌≤◌}
use native.Mathlib.Omega.{arith}
use mathlib.Core.Path.{◌≡◌, refl, sym, ap, ◌∙◌}
use mathlib.Core.List.{List, [], ◌∷◌}
use mathlib.Core.Bool.{true, false}
use lib.Dec.{eqb, ltb, leb}
use lib.ListN.{length}
use borrow.Author.Tests.{eqb-false, ltb-true, ltb-false, leb-false, lt-ltb}
use Rattle.laws.proofs.Never.{by_test, never}
use Rattle.opus_defines.specs.declared.Refusal.{Refusal}
use Rattle.opus_defines.specs.declared.Refusal.TheVariants.{BadArg, BufferTooSmall, OverBudget}
use Rattle.capture.specs.Finding.{next_record}
use Rattle.capture.specs.Reading.{behind, readings}
use Rattle.capture.specs.declared.NextRecord.{NextRecord}
use Rattle.capture.proofs.Answers.{found, next_place, next_passed}
use Rattle.capture.proofs.Steps.{reading_induction}
use Rattle.compaction.specs.Account.{size, output, account}
use Rattle.compaction.specs.Share.{fits, done, stop, refuses, stopping, night}
use Rattle.compaction.proofs.Entries.{next-size}
use Rattle.compaction.proofs.Steps.{none-fits, over-fits, stops_here, goes_on, account_one, begin_with, stops}
use Rattle.compaction.proofs.Going.{output-none}
use Rattle.compaction.proofs.Nights.{night_past, night-short, night-within, stopping-over}
use Rattle.compaction.proofs.Whole.{output-size, fits_some}

-- ---- counts
pub account-written : (s : List ℕ) (a : NextRecord) (ds : List NextRecord) → (account s a ds).written ≡ length (output s ds)
unfolding account
account-written s a [] = sym (ap length (output-none s))
account-written s a (d ∷ ds) = omega (arith, account-written s a ds, output-size s d ds)

-- what fits, and what does not
fits-size : (s : List ℕ) (b : ℕ) (a : NextRecord) → fits s b a ≡ true → size s a ≤ b
fits-size s b a t =
    by_test (ltb b (size s a)) (λ l. never (let n = over-fits s b a (ltb-true b (size s a) l) in cc)) (ltb-false b (size s a))

unfit_size : (s : List ℕ) (b : ℕ) (a : NextRecord) → (a.length ≡ 0 → ⊥) → fits s b a ≡ false → b < size s a
unfit_size s b a f t =
    let some : 0 < a.length = omega arith in
    by_test (leb (size s a) b)
    (λ l. never (let n : fits s b a ≡ true = rw (lt-ltb 0 a.length some, l) in cc))
    (leb-false (size s a) b)

-- from a place to where the share stops, and what it did with its budget
pub record Spans (s : List ℕ) (at b : ℕ) (r : List NextRecord) : Type 0 where
  pub reached : let k = account s (stop s b r) (done s b r) in (stop s b r).place ≡ at + (k.written + k.reclaimed + k.passed)
  pub within : length (output s (done s b r)) ≤ b
  pub before : ((stop s b r).length ≡ 0 → ⊥) → b < length (output s (done s b r)) + size s (stop s b r)

spans_here : (s : List ℕ) (at b : ℕ) (more : List NextRecord) → at ≤ length s → fits s b (next_record s at) ≡ false
    → Spans s at b (next_record s at ∷ more)
unfolding account
spans_here s at b more h t =
    let a = next_record s at in
    let k = stops_here s b a more t in
    record {
      reached = rw (k.0, k.1) (omega (arith, next_place s at h, next_passed s at h));
      within = rw (k.0, output-none s) (omega arith);
      before = rw (k.0, k.1, output-none s) (λ f. omega (arith, unfit_size s b a f t));
    }

spans_later : (s : List ℕ) (at b : ℕ) (more : List NextRecord) → at ≤ length s → fits s b (next_record s at) ≡ true
    → Spans s (behind (next_record s at)) (b - size s (next_record s at)) more → Spans s at b (next_record s at ∷ more)
spans_later s at b more h t m =
    let a = next_record s at in
    let f = fits_some s b a t in
    let k = goes_on s b a more t in
    let ds = done s (b - size s a) more in
    let fit = fits-size s b a t in
    record {
      reached = rw (k.0, k.1, account_one) (omega (arith, m.reached, next_place s at h, next_passed s at h, (found s at f).next, next-size s at h f));
      within = rw k.0 (omega (arith, output-size s a ds, m.within));
      before = rw (k.0, k.1) (λ g. omega (arith, output-size s a ds, m.before g));
    }

pub spans : (s : List ℕ) (at : ℕ) → at ≤ length s → (b : ℕ) → Spans s at b (readings s at)
spans s =
    reading_induction s (λ at r. (b : ℕ) → Spans s at b r)
    (λ at h z b. spans_here s at b [] h (none-fits s b (next_record s at) z))
    (λ at h f rest b.
    let a = next_record s at in
    by_test (fits s b a) (λ t. spans_later s at b (readings s (behind a)) h t (rest (b - size s a))) (spans_here s at b (readings s (behind a)) h))

-- ---- refusals
stopping-not : (xs : List NextRecord) (b : NextRecord) (e : Refusal) → stopping xs b ≡ refuses e
    → (e ≡ OverBudget) × (xs ≡ []) × (b.length ≡ 0 → ⊥)
stopping-not [] b e q =
    by_test (eqb b.length 0) (λ t. never (let n = rw t at q in cc))
    (λ t. let n = rw t at q in (cc, refl, eqb-false b.length 0 t))
stopping-not (x ∷ xs) b e q = never (cc)

module _ (s : List ℕ) (start room budget : ℕ) where
  -- by the order of the tests
  by_tests : {P : Type 0} → (length s < start → night s start room budget ≡ refuses BadArg → P)
      → (start ≤ length s → room < budget → night s start room budget ≡ refuses BufferTooSmall → P)
      → (start ≤ length s → budget ≤ room
      → night s start room budget ≡ stopping (done s budget (readings s start)) (stop s budget (readings s start)) → P) → P
  by_tests f g k =
      by_test (ltb (length s) start)
      (λ t. let h = ltb-true (length s) start t in f h (night_past s start room budget h))
      (λ t. let h = ltb-false (length s) start t in
      by_test (ltb room budget)
      (λ t. let l = ltb-true room budget t in g h l (night-short s start room budget h l))
      (λ t. let l = ltb-false room budget t in k h l (night-within s start room budget h l)))

  pub past_only : night s start room budget ≡ refuses BadArg → length s < start
  past_only e =
      by_tests (λ h q. h) (λ h l q. never (cc))
      (λ h l q. never (let n = (stopping-not (done s budget (readings s start)) (stop s budget (readings s start)) BadArg (sym q ∙ e)).0 in cc))

  pub short_only : night s start room budget ≡ refuses BufferTooSmall → (start ≤ length s) × (room < budget)
  short_only e =
      by_tests (λ h q. never (cc)) (λ h l q. (h, l))
      (λ h l q. never (let n = (stopping-not (done s budget (readings s start)) (stop s budget (readings s start)) BufferTooSmall (sym q ∙ e)).0 in cc))

  -- the next record alone
  module _ (h : start ≤ length s) where
    first_over : done s budget (readings s start) ≡ [] → ((stop s budget (readings s start)).length ≡ 0 → ⊥)
        → ((next_record s start).length ≡ 0 → ⊥) × (budget < size s (next_record s start))
    first_over none f =
        let a = next_record s start in
        by_test (fits s budget a)
        (λ t. never (let b = begin_with s start budget h in
        let n = sym none ∙ (ap (done s budget) b.1 ∙ (goes_on s budget a b.0 t).0) in cc))
        (λ t. let is = (stops s start budget h t).1 in
        let some : a.length ≡ 0 → ⊥ = rw is at f in
        (some, unfit_size s budget a some t))

  pub over_only : night s start room budget ≡ refuses OverBudget
      → (start ≤ length s) × (budget ≤ room) × ((next_record s start).length ≡ 0 → ⊥) × (budget < size s (next_record s start))
  over_only e =
      by_tests (λ h q. never (cc)) (λ h l q. never (cc))
      (λ h l q. let n = stopping-not (done s budget (readings s start)) (stop s budget (readings s start)) OverBudget (sym q ∙ e) in
      let o = first_over h n.1 n.2 in (h, l, o.0, o.1))

  pub over-said : start ≤ length s → budget ≤ room → ((next_record s start).length ≡ 0 → ⊥) → budget < size s (next_record s start)
      → night s start room budget ≡ refuses OverBudget
  over-said h l f o =
      let k = stops s start budget h (over-fits s budget (next_record s start) o) in
      night-within s start room budget h l
      ∙ stopping-over (done s budget (readings s start)) (stop s budget (readings s start)) (ap length k.0) (rw k.1 f)

  -- it refuses by nothing else
  pub refusals_are : (e : Refusal) → night s start room budget ≡ refuses e
      → ((q : e ≡ BadArg → ⊥) (r : e ≡ BufferTooSmall → ⊥) → e ≡ OverBudget)
  refusals_are e q =
      by_tests (λ h n. λ x y. absurd (x (cc))) (λ h l n. λ x y. absurd (y (cc)))
      (λ h l n. λ x y. (stopping-not (done s budget (readings s start)) (stop s budget (readings s start)) e (sym n ∙ q)).0)
