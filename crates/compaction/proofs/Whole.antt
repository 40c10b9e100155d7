-- All records of a reading: what is written for them, their account, and that a call with ample budget does them all.
--     records_done                                the records among answers
--     output-append                               what is written for two runs of records
--     whole, whole_split                          the account of all answers, and of those behind a stop
--     ample-done, ample-stop, ample-account       a call whose budget holds all that is to be written
-- Assumes nothing.
use Prim.Native.Nat.{ℕ, ◌+◌, ◌-◌, ◌≤◌}
use native.Mathlib.Omega.{arith}
use mathlib.Core.Path.{◌≡◌, refl, sym, ap, ◌∙◌}
use mathlib.Core.List.{List, [], ◌∷◌, ◌++◌, append_assoc}
use mathlib.Core.Bool.{true, cond}
use lib.Dec.{eqb}
use lib.ListN.{length, length-append}
use borrow.Author.Tests.{eq-eqb, ne_eqb, eqb-true, eqb-false}
use Rattle.laws.proofs.Never.{by_test, never}
use Rattle.capture.specs.Records.{written}
use Rattle.capture.specs.Finding.{next_record}
use Rattle.capture.specs.Reading.{behind, readings, entry_of, records_in}
use Rattle.capture.specs.declared.NextRecord.{NextRecord}
use Rattle.capture.proofs.Answers.{seen_from}
use Rattle.capture.proofs.Steps.{reading_induction}
use Rattle.capture.proofs.Held.{records_none, records_one, records_end}
use Rattle.compaction.specs.Account.{rewritten, size, output, Account, counting, account}
use Rattle.compaction.specs.Share.{fits, done, stop}
use Rattle.compaction.specs.Nights.{together}
use Rattle.compaction.proofs.Entries.{size-written}
use Rattle.compaction.proofs.Steps.{none-fits, some_fits, stops_here, goes_on, account_one}
use Rattle.compaction.proofs.Going.{adding, same-account, output-none, output_one}

-- ---- the records among answers
-- what fits is a record
pub fits_some : (s : List ℕ) (b : ℕ) (a : NextRecord) → fits s b a ≡ true → a.length ≡ 0 → ⊥
fits_some s b a t z = never (let n = none-fits s b a z in cc)

-- and so those done are records
pub records_done : (s : List ℕ) (b : ℕ) (r more : List NextRecord) → records_in (done s b r ++ more) ≡ done s b r ++ records_in more
unfolding done
records_done s b [] more = refl
records_done s b (a ∷ r) more =
    by_test (fits s b a)
    (λ t. rw t (records_one a (done s (b - size s a) r ++ more) (fits_some s b a t)
    ∙ ap (λ (l : List NextRecord). a ∷ l) (records_done s (b - size s a) r more)))
    (λ t. rw t)

-- ---- what is written
pub output-append : (s : List ℕ) (xs ys : List NextRecord) → output s (xs ++ ys) ≡ output s xs ++ output s ys
output-append s [] ys = rw (output-none s)
output-append s (a ∷ xs) ys =
    let one = written (rewritten (entry_of s a)) in
    output_one s a (xs ++ ys)
    ∙ (ap (λ (l : List ℕ). one ++ l) (output-append s xs ys)
    ∙ (sym (append_assoc one (output s xs) (output s ys)) ∙ ap (λ (l : List ℕ). l ++ output s ys) (sym (output_one s a xs))))

pub output-size : (s : List ℕ) (a : NextRecord) (ds : List NextRecord) → length (output s (a ∷ ds)) ≡ size s a + length (output s ds)
output-size s a ds =
    rw (output_one s a ds) (length-append (written (rewritten (entry_of s a))) (output s ds) ∙ rw (size-written (entry_of s a)))

-- ---- the account of all answers, the last among them
pub whole : List ℕ → List NextRecord → Account
whole s [] = record { records = 0; written = 0; reclaimed = 0; passed = 0 }
whole s (a ∷ more) = cond (eqb a.length 0) (adding 0 0 0 a.passed (whole s more)) (counting s a (whole s more))

pub whole_end : (s : List ℕ) → whole s [] ≡ record { records = 0; written = 0; reclaimed = 0; passed = 0 }
unfolding whole
whole_end s = refl

module _ (s : List ℕ) (a : NextRecord) (more : List NextRecord) where
  pub whole_none : a.length ≡ 0 → whole s (a ∷ more) ≡ adding 0 0 0 a.passed (whole s more)
  unfolding whole
  whole_none z = rw (eq-eqb a.length 0 z)

  pub whole_one : (a.length ≡ 0 → ⊥) → whole s (a ∷ more) ≡ counting s a (whole s more)
  unfolding whole
  whole_one f = rw (ne_eqb a.length 0 f)

-- from a stop on: what it passes over belongs to the call that stops there
from_stop : (s : List ℕ) (a : NextRecord) (more : List NextRecord)
    → whole s (a ∷ more) ≡ together (account s a []) (whole s (seen_from a.place a ∷ more))
unfolding account
from_stop s a more =
    let b = seen_from a.place a in
    by_test (eqb a.length 0)
    (λ t. let z = eqb-true a.length 0 t in
    rw (whole_none s a more z, whole_none s b more z) (same-account (omega arith) (omega arith) (omega arith) (omega arith)))
    (λ t. let f = eqb-false a.length 0 t in
    rw (whole_one s a more f, whole_one s b more f) (same-account (omega arith) (omega arith) (omega arith) (omega arith)))

pub whole_split : (s : List ℕ) (b : ℕ) (r : List NextRecord) (a : NextRecord) (more : List NextRecord)
    → whole s (done s b r ++ (a ∷ more)) ≡ together (account s a (done s b r)) (whole s (seen_from a.place a ∷ more))
unfolding done account
whole_split s b [] a more = from_stop s a more
whole_split s b (d ∷ r) a more =
    by_test (fits s b d)
    (λ t. let ds = done s (b - size s d) r in
    rw (t, whole_one s d (ds ++ (a ∷ more)) (fits_some s b d t), whole_split s (b - size s d) r a more)
    (same-account (omega arith) (omega arith) (omega arith) (omega arith)))
    (λ t. rw t (from_stop s a more))

-- ---- a budget that holds all that is to be written
pub record Ample (s : List ℕ) (b : ℕ) (r : List NextRecord) : Type 0 where
  pub dones : done s b r ≡ records_in r
  pub stopped : (stop s b r).length ≡ 0
  pub accounts : account s (stop s b r) (done s b r) ≡ whole s r

ample_end : (s : List ℕ) (b : ℕ) (a : NextRecord) → a.length ≡ 0 → Ample s b (a ∷ [])
unfolding account whole
ample_end s b a z =
    let k = stops_here s b a [] (none-fits s b a z) in
    record {
      dones = k.0 ∙ sym (records_none a [] z ∙ records_end);
      stopped = rw k.1 z;
      accounts = rw (k.0, k.1, eq-eqb a.length 0 z) (same-account (omega arith) (omega arith) (omega arith) (omega arith));
    }

ample_on : (s : List ℕ) (b : ℕ) (a : NextRecord) (more : List NextRecord) → (a.length ≡ 0 → ⊥) → size s a ≤ b → Ample s (b - size s a) more
    → Ample s b (a ∷ more)
ample_on s b a more f h m =
    let k = goes_on s b a more (some_fits s b a f h) in
    record {
      dones = k.0 ∙ (ap (λ (l : List NextRecord). a ∷ l) m.dones ∙ sym (records_one a more f));
      stopped = rw k.1 m.stopped;
      accounts = rw (k.0, k.1, account_one) (ap (counting s a) m.accounts ∙ sym (whole_one s a more f));
    }

pub ample : (s : List ℕ) (at : ℕ) → at ≤ length s → (b : ℕ) → length (output s (records_in (readings s at))) ≤ b → Ample s b (readings s at)
ample s =
    reading_induction s (λ at r. (b : ℕ) → length (output s (records_in r)) ≤ b → Ample s b r)
    (λ at h z b k. ample_end s b (next_record s at) z)
    (λ at h f rest b k.
    let a = next_record s at in
    let more = readings s (behind a) in
    let long = ap (λ (l : List NextRecord). length (output s l)) (records_one a more f) ∙ output-size s a (records_in more) in
    ample_on s b a more f (omega (arith, long)) (rest (b - size s a) (omega (arith, long))))
