-- Calls resumed until the end: what they write, joined, and their accounts together are those of one call with ample budget.
--     Does, does_is          what a call that is not refused does
--     answers, does_splits   the answers are those done, the one at which it stops, and more
--     resumed                the answers from its resume place on
--     nights_write, nights_account, nights_start
--     one_night, one_share, one_left     a call with ample budget; all_fit, how much that is
-- Assumes nothing.
use Prim.Native.Nat.{ℕ, ◌+◌, ◌≤◌}
use native.Mathlib.Omega.{arith}
use mathlib.Core.Path.{◌≡◌, refl, sym, ap, ◌∙◌}
use mathlib.Core.List.{List, [], ◌∷◌, ◌++◌}
use lib.Dec.{eqb, ltb}
use lib.ListN.{length}
use lib.Seq.{sets}
use borrow.Author.Tests.{eqb-true, eqb-false, ltb-true, ltb-false}
use Rattle.laws.proofs.Never.{by_test, never}
use Rattle.capture.specs.Finding.{next_record}
use Rattle.capture.specs.Reading.{readings, records_in}
use Rattle.capture.specs.declared.NextRecord.{NextRecord}
use Rattle.capture.proofs.Answers.{seen_from, end_passes_none, none-behind}
use Rattle.capture.proofs.Steps.{readings_end}
use Rattle.capture.proofs.Resuming.{splits_before}
use Rattle.capture.proofs.Held.{records_none, records_one, records_end}
use Rattle.compaction.specs.Account.{output, Account, account}
use Rattle.std.specs.Prelude.{Ok}
use Rattle.compaction.specs.Share.{done, stop, does, stopping, night, share, leaves}
use Rattle.compaction.specs.Nights.{together, Nights, over, next}
use Rattle.compaction.proofs.Nights.{done_splits, stop_splits, stop_is_end, night_past, night-short, night-within}
use Rattle.compaction.proofs.Nights.{stopping_some, stopping_end, stopping-over}
use Rattle.compaction.proofs.Going.{output-none}
use Rattle.compaction.proofs.Exactly.{account-written, spans}
use Rattle.compaction.proofs.Whole.{records_done, output-append}
use Rattle.compaction.proofs.Whole.{whole, whole_end, whole_none, whole_split, Ample, ample}

-- ---- a call that is not refused
pub record Does (s : List ℕ) (start room budget : ℕ) (ds : List NextRecord) (a : NextRecord) : Type 0 where
  pub inside : start ≤ length s
  pub roomy : budget ≤ room
  pub dones : ds ≡ done s budget (readings s start)
  pub stops : a ≡ stop s budget (readings s start)
  pub some : length ds ≡ 0 → a.length ≡ 0

stopping_does : (xs : List NextRecord) (b : NextRecord) (ds : List NextRecord) (a : NextRecord) → stopping xs b ≡ does ds a
    → (ds ≡ xs) × (a ≡ b) × (length ds ≡ 0 → a.length ≡ 0)
stopping_does [] b ds a e =
    by_test (eqb b.length 0)
    (λ t. let z = eqb-true b.length 0 t in
    let q = sym (stopping_end [] b refl z) ∙ e in
    let same : b ≡ a = cc in
    (cc, sym same, λ k. rw (← same) z))
    (λ t. never (let q = sym (stopping-over [] b refl (eqb-false b.length 0 t)) ∙ e in cc))
stopping_does (x ∷ xs) b ds a e =
    let one : x ∷ xs ≡ ds = cc in
    (sym one, cc, λ k. never (let q = ap length one ∙ k in cc))

pub does_is : (s : List ℕ) (start room budget : ℕ) (ds : List NextRecord) (a : NextRecord) → night s start room budget ≡ does ds a
    → Does s start room budget ds a
does_is s start room budget ds a e =
    by_test (ltb (length s) start)
    (λ t. never (let q = sym (night_past s start room budget (ltb-true (length s) start t)) ∙ e in cc))
    (λ t. let h = ltb-false (length s) start t in
    by_test (ltb room budget)
    (λ t. never (let q = sym (night-short s start room budget h (ltb-true room budget t)) ∙ e in cc))
    (λ t. let k = ltb-false room budget t in
    let q = stopping_does (done s budget (readings s start)) (stop s budget (readings s start)) ds a (sym (night-within s start room budget h k) ∙ e) in
    record { inside = h; roomy = k; dones = q.0; stops = q.1; some = q.2 }))

-- ---- from its resume place on
module _ (s : List ℕ) (start budget : ℕ) (h : start ≤ length s) where
  abbrev r : List NextRecord
  r = readings s start

  abbrev last : NextRecord
  last = stop s budget r

  pub later : List NextRecord
  later = (done_splits s start budget h).more

  pub answers : r ≡ done s budget r ++ (last ∷ later)
  unfolding later
  answers = (done_splits s start budget h).whole

  resumed : readings s last.place ≡ seen_from last.place last ∷ later
  unfolding later
  resumed = splits_before s start last (done_splits s start budget h).more (stop_splits s start budget h) last.place (omega arith) (omega arith)

  stop-output : output s (records_in (last ∷ later)) ≡ output s (records_in (seen_from last.place last ∷ later))
  stop-output =
      let b = seen_from last.place last in
      by_test (eqb last.length 0)
      (λ t. let z = eqb-true last.length 0 t in ap (output s) (records_none last later z ∙ sym (records_none b later z)))
      (λ t. let f = eqb-false last.length 0 t in rw (records_one last later f, records_one b later f))

  written_then : output s (records_in r) ≡ output s (done s budget r) ++ output s (records_in (readings s last.place))
  written_then =
      ap (λ (l : List NextRecord). output s (records_in l)) answers
      ∙ (ap (output s) (records_done s budget r (last ∷ later))
      ∙ (output-append s (done s budget r) (records_in (last ∷ later))
      ∙ ap (λ (l : List ℕ). output s (done s budget r) ++ l) (stop-output ∙ ap (λ (l : List NextRecord). output s (records_in l)) (sym resumed))))

  account_then : whole s r ≡ together (account s last (done s budget r)) (whole s (readings s last.place))
  account_then =
      ap (whole s) answers
      ∙ (whole_split s budget r last later
      ∙ ap (λ (l : List NextRecord). together (account s last (done s budget r)) (whole s l)) (sym resumed))

same_split : (more : List NextRecord) {r xs ds : List NextRecord} {b a : NextRecord} → ds ≡ xs → a ≡ b
    → r ≡ xs ++ (b ∷ more) → r ≡ ds ++ (a ∷ more)
same_split more d t e = rw (d, t) e

pub does_splits : (s : List ℕ) (start room budget : ℕ) (ds : List NextRecord) (a : NextRecord) → night s start room budget ≡ does ds a
    → (more : List NextRecord) × (readings s start ≡ ds ++ (a ∷ more))
does_splits s start room budget ds a e =
    let d = does_is s start room budget ds a e in
    let more = later s start budget d.inside in
    (more, same_split more d.dones d.stops (answers s start budget d.inside))

-- ---- all of them
at_the_end : (s : List ℕ) → (records_in (readings s (length s)) ≡ [])
    × (whole s (readings s (length s)) ≡ record { records = 0; written = 0; reclaimed = 0; passed = 0 })
at_the_end s =
    let a = next_record s (length s) in
    let z = none-behind s (length s) (omega arith) in
    let none : a.passed ≡ 0 = end_passes_none s in
    rw (readings_end s (length s) z) (records_none a [] z ∙ records_end, whole_none s a [] z ∙ rw (whole_end s, none))

pub nights_start : {s : List ℕ} {start : ℕ} {out : List ℕ} {k : Account} → Nights s start out k → start ≤ length s
nights_start over = omega arith
nights_start {s} (next {start} room budget {ds} {a} e n) = (does_is s start room budget ds a e).inside

pub nights_write : {s : List ℕ} {start : ℕ} {out : List ℕ} {k : Account} → Nights s start out k → output s (records_in (readings s start)) ≡ out
nights_write {s} over = ap (output s) (at_the_end s).0 ∙ output-none s
nights_write {s} (next {start} room budget {ds} {a} e n) =
    let d = does_is s start room budget ds a e in
    let t : output s (records_in (readings s start)) ≡ output s ds ++ output s (records_in (readings s a.place)) =
    rw (d.dones, d.stops) (written_then s start budget d.inside) in
    t ∙ ap (λ (l : List ℕ). output s ds ++ l) (nights_write n)

pub nights_account : {s : List ℕ} {start : ℕ} {out : List ℕ} {k : Account} → Nights s start out k → whole s (readings s start) ≡ k
nights_account {s} over = (at_the_end s).1
nights_account {s} (next {start} room budget {ds} {a} e n) =
    let d = does_is s start room budget ds a e in
    let t : whole s (readings s start) ≡ together (account s a ds) (whole s (readings s a.place)) =
    rw (d.dones, d.stops) (account_then s start budget d.inside) in
    t ∙ ap (together (account s a ds)) (nights_account n)

-- ---- one call with ample budget
module _ (s : List ℕ) (start room budget : ℕ) (h : start ≤ length s) (k : budget ≤ room)
    (m : length (output s (records_in (readings s start))) ≤ budget) where
  all : Ample s budget (readings s start)
  all = ample s start h budget m

  one_night : night s start room budget ≡ does (records_in (readings s start)) (stop s budget (readings s start))
  one_night =
      let ds = done s budget (readings s start) in
      let a = stop s budget (readings s start) in
      let is : stopping ds a ≡ does ds a =
      by_test (eqb (length ds) 0) (λ t. stopping_end ds a (eqb-true (length ds) 0 t) all.stopped) (λ t. stopping_some ds a (eqb-false (length ds) 0 t)) in
      night-within s start room budget h k ∙ (is ∙ ap (λ (l : List NextRecord). does l a) all.dones)

  to_the_end : (stop s budget (readings s start)).place ≡ length s
  to_the_end = stop_is_end s start budget h all.stopped

  one_account : account s (stop s budget (readings s start)) (records_in (readings s start)) ≡ whole s (readings s start)
  one_account = rw all.dones at all.accounts

  -- what it answers and leaves
  pub one_share : (j : Account) → whole s (readings s start) ≡ j
      → share s (night s start room budget)
      ≡ Ok (record {
        resume = length s;
        records = j.records;
        written = j.written;
        reclaimed = j.reclaimed;
        passed = j.passed;
      })
  one_share j e = rw (one_night, one_account, e, to_the_end)

  pub one_left : (dst : List ℕ) → leaves s dst (night s start room budget) ≡ sets dst 0 (output s (records_in (readings s start)))
  one_left dst = rw one_night

-- what is written is no longer than what was read
pub all_fit : (s : List ℕ) (start : ℕ) → start ≤ length s → start + length (output s (records_in (readings s start))) ≤ length s
all_fit s start h =
    let r = readings s start in
    let b = length (output s (records_in r)) in
    let a : Ample s b r = ample s start h b (omega arith) in
    omega (
      arith,
      stop_is_end s start b h a.stopped,
      (spans s start h b).reached,
      account-written s (stop s b r) (done s b r),
      ap (λ (l : List NextRecord). length (output s l)) a.dones,
    )
