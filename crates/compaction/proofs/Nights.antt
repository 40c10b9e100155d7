-- What a call does, by its arguments and by the records done.
--     done_splits                                     the answers are those done, the one at which the share stops, and more
--     stop_is_end, end_is_stop                        the share stops at the end exactly where no record is left
--     night_past, night-short, night-within           the refusals that come first; past_told, short-told as the code has them
--     some_done, none_left, over_budget               by the records done and the place at which the share stops
-- Assumes nothing.
use Prim.Native.Nat.{ℕ, suc, ◌-◌, ◌<◌, ◌≤◌}
use native.Mathlib.Omega.{arith}
use mathlib.Core.Path.{◌≡◌, refl, sym, ap, ◌∙◌}
use mathlib.Core.List.{List, [], ◌∷◌, ◌++◌}
use mathlib.Core.Bool.{true, false}
use lib.ListN.{length}
use lib.Seq.{sets}
use lib.Dec.{eqb}
use borrow.Author.Tests.{lt-ltb, le-ltb, eq-eqb, ne_eqb, eqb-true, eqb-false}
use Rattle.laws.proofs.Never.{by_test, never}
use Rattle.opus_defines.specs.declared.Refusal.TheVariants.{BadArg, BufferTooSmall, OverBudget}
use Rattle.std.specs.Prelude.{Ok, Err}
use Rattle.compaction.specs.declared.Share.{Share}
use Rattle.capture.specs.Finding.{next_record}
use Rattle.capture.specs.Reading.{behind, begins, readings}
use Rattle.capture.specs.declared.NextRecord.{NextRecord}
use Rattle.capture.proofs.Answers.{found, next_end}
use Rattle.capture.proofs.Steps.{reading_induction}
use Rattle.capture.proofs.Resuming.{Splits, splits}
use Rattle.compaction.specs.Account.{size, output, account}
use Rattle.compaction.specs.Share.{fits, done, stop, Night, refuses, does, stopping, night, accounted, share, leaves}
use Rattle.compaction.proofs.Steps.{none-fits, stops_here, goes_on}
use Rattle.compaction.proofs.Going.{output-none}

-- ---- the answers done, and the one at which the share stops
pub record Cut (s : List ℕ) (b : ℕ) (r : List NextRecord) : Type 0 where
  pub more : List NextRecord
  pub whole : r ≡ done s b r ++ (stop s b r ∷ more)

cut_here : (s : List ℕ) (b : ℕ) (a : NextRecord) (more : List NextRecord) → fits s b a ≡ false → Cut s b (a ∷ more)
cut_here s b a more e = let k = stops_here s b a more e in record { more = more; whole = rw (k.0, k.1) }

cut_later : (s : List ℕ) (b : ℕ) (a : NextRecord) (more : List NextRecord) → fits s b a ≡ true → Cut s (b - size s a) more → Cut s b (a ∷ more)
cut_later s b a more e c =
    let k = goes_on s b a more e in
    record { more = c.more; whole = rw (k.0, k.1) (ap (λ (r : List NextRecord). a ∷ r) c.whole) }

pub done_splits : (s : List ℕ) (start b : ℕ) → start ≤ length s → Cut s b (readings s start)
done_splits s start b h =
    reading_induction s (λ at r. (b : ℕ) → Cut s b r)
    (λ at h z b. cut_here s b (next_record s at) [] (none-fits s b (next_record s at) z))
    (λ at h f rest b.
    let a = next_record s at in
    by_test (fits s b a) (λ t. cut_later s b a (readings s (behind a)) t (rest (b - size s a))) (cut_here s b a (readings s (behind a))))
    start h b

-- the answer at which it stops is one of `next_record`
module _ (s : List ℕ) (start b : ℕ) (h : start ≤ length s) where
  abbrev last : NextRecord
  last = stop s b (readings s start)

  pub stop_splits : Splits s start last (done_splits s start b h).more
  stop_splits = splits s start (done s b (readings s start)) (done_splits s start b h).more last h (done_splits s start b h).whole

  pub stop_is_end : last.length ≡ 0 → last.place ≡ length s
  stop_is_end z =
      let p = stop_splits.answer in
      ap (λ (x : NextRecord). x.place) p.is ∙ next_end s _ p.inside (ap (λ (x : NextRecord). x.length) (sym p.is) ∙ z)

  end_is_stop : length s ≤ last.place → last.length ≡ 0
  end_is_stop e =
      let p = stop_splits.answer in
      by_test (eqb last.length 0) (eqb-true last.length 0)
      (λ t. let q = found s (begins last) (λ z. eqb-false last.length 0 t (ap (λ (x : NextRecord). x.length) p.is ∙ z)) in
      absurd (omega (arith, q.some, q.inside, q.next, ap (λ (x : NextRecord). x.place) p.is)))

-- ---- the refusals that come first
module _ (s : List ℕ) (start room budget : ℕ) where
  pub night_past : length s < start → night s start room budget ≡ refuses BadArg
  unfolding night
  night_past h = rw (lt-ltb (length s) start h)

  pub night-short : start ≤ length s → room < budget → night s start room budget ≡ refuses BufferTooSmall
  unfolding night
  night-short h k = rw (le-ltb (length s) start h, lt-ltb room budget k)

  pub night-within : start ≤ length s → budget ≤ room
      → night s start room budget ≡ stopping (done s budget (readings s start)) (stop s budget (readings s start))
  unfolding night
  night-within h k = rw (le-ltb (length s) start h, le-ltb room budget k)

-- ---- by the records done and the answer at which the share stops
pub stopping_some : (ds : List NextRecord) (a : NextRecord) → (length ds ≡ 0 → ⊥) → stopping ds a ≡ does ds a
stopping_some [] a f = absurd (f refl)
stopping_some (d ∷ ds) a f = refl

pub stopping_end : (ds : List NextRecord) (a : NextRecord) → length ds ≡ 0 → a.length ≡ 0 → stopping ds a ≡ does ds a
stopping_end [] a e z = rw (eq-eqb a.length 0 z)
stopping_end (d ∷ ds) a e z = refl

pub stopping-over : (ds : List NextRecord) (a : NextRecord) → length ds ≡ 0 → (a.length ≡ 0 → ⊥) → stopping ds a ≡ refuses OverBudget
stopping-over [] a e f = rw (ne_eqb a.length 0 f)
stopping-over (d ∷ ds) a e f = never (cc)

pub account_records : (s : List ℕ) (a : NextRecord) (ds : List NextRecord) → (account s a ds).records ≡ length ds
unfolding account
account_records s a [] = refl
account_records s a (d ∷ ds) = ap suc (account_records s a ds)

none-output : (s : List ℕ) (ds : List NextRecord) → length ds ≡ 0 → output s ds ≡ []
none-output s [] e = output-none s
none-output s (d ∷ ds) e = never (cc)

-- a refusal that comes before the share
pub past_told : (s : List ℕ) (start budget : ℕ) (d : List ℕ) → length s < start
    → (Err BadArg ≡ share s (night s start (length d) budget)) × (d ≡ leaves s d (night s start (length d) budget))
past_told s start budget d h = rw (night_past s start (length d) budget h) (refl, refl)

pub short-told : (s : List ℕ) (start budget : ℕ) (d : List ℕ) → start ≤ length s → length d < budget
    → (Err BufferTooSmall ≡ share s (night s start (length d) budget)) × (d ≡ leaves s d (night s start (length d) budget))
short-told s start budget d h k = rw (night-short s start (length d) budget h k) (refl, refl)

-- a share that was made, with no record done no refusal yet
module _ (s : List ℕ) (start budget : ℕ) (d x : List ℕ) (h : start ≤ length s) (k : budget ≤ length d) (r : Share) where
  abbrev ds : List NextRecord
  ds = done s budget (readings s start)

  abbrev a : NextRecord
  a = stop s budget (readings s start)

  abbrev did : Night
  did = night s start (length d) budget

  module _ (is : r ≡ accounted a (account s a ds)) (lies : x ≡ sets d 0 (output s ds)) where
    count : r.records ≡ length ds
    count = ap (λ (q : Share). q.records) is ∙ account_records s a ds

    place : r.resume ≡ a.place
    place = ap (λ (q : Share). q.resume) is

    by_does : did ≡ does ds a → (Ok r ≡ share s did) × (x ≡ leaves s d did)
    by_does e = rw (e, is) (refl, lies)

    pub some_done : (r.records ≡ 0 → ⊥) → (Ok r ≡ share s did) × (x ≡ leaves s d did)
    some_done f = by_does (night-within s start (length d) budget h k ∙ stopping_some ds a (λ z. f (count ∙ z)))

    pub none_left : r.records ≡ 0 → length s ≤ r.resume → (Ok r ≡ share s did) × (x ≡ leaves s d did)
    none_left z e =
        by_does (night-within s start (length d) budget h k ∙ stopping_end ds a (sym count ∙ z) (end_is_stop s start budget h (omega (arith, place))))

    pub over_budget : r.records ≡ 0 → r.resume < length s → (Err OverBudget ≡ share s did) × (x ≡ leaves s d did)
    over_budget z e =
        let none : length ds ≡ 0 = sym count ∙ z in
        let no : a.length ≡ 0 → ⊥ = λ z. omega (arith, place, stop_is_end s start budget h z) in
        rw (night-within s start (length d) budget h k ∙ stopping-over ds a none no) (refl, lies ∙ rw (none-output s ds none))
