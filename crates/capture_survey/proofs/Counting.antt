-- Surveys put together, and the survey of a capture step by step.
--     together-none, none-together, together-all     laws of `together`
--     counted_none, counted_one                      the survey of answers, by the first of them
--     rest, rest_none, rest_one                      the survey from a place on
--     record_most, rest_most                         how large its counts can be
-- Assumes nothing.
use Prim.Native.Nat.{ℕ, ◌+◌, ◌*◌, ◌-◌, ◌≤◌}
use native.Mathlib.Nat.{add-zero, zero-add, add_assoc}
use native.Mathlib.Omega.{arith}
use mathlib.Core.Path.{◌≡◌, refl, ap}
use mathlib.Core.List.{List, [], ◌∷◌}
use mathlib.Core.Bool.{false}
use lib.ListN.{length}
use borrow.Author.Tests.{eq-eqb, ne_eqb}
use Rattle.capture.specs.Finding.{packet_at, next_record}
use Rattle.capture.specs.Reading.{behind, readings}
use Rattle.capture.specs.declared.NextRecord.{NextRecord}
use Rattle.capture.proofs.Answers.{next_place, next_passed, next_place_le, next-within, all_bytes}
use Rattle.capture.proofs.Steps.{readings_end, readings_on, reading_induction}
use Rattle.compaction.proofs.Entries.{next-length}
use Rattle.packet_judge.specs.Judging.{judged}
use Rattle.packet_judge.specs.Tallies.{none, tallied}
use Rattle.packet_judge.specs.declared.Judged.{Judged}
use Rattle.packet_judge.specs.declared.Tally.{Tally}
use Rattle.packet_judge.proofs.Tallying.{tallied_most, plus_one}
use Rattle.capture_survey.specs.Survey.{saved, of_record, of_passed, together, counted, bytes_in}
use Rattle.capture_survey.specs.declared.Survey.{Survey}
use Rattle.capture_survey.proofs.Savings.{saved_most}

-- ---- together
together-none : (t : Survey) → together t (of_passed 0) ≡ t
together-none t = simp add-zero

pub none-together : (t : Survey) → together (of_passed 0) t ≡ t
none-together t = simp zero-add

pub together-all : (t u v : Survey) → together (together t u) v ≡ together t (together u v)
together-all t u v = simp add_assoc

pub bytes_together : (t u : Survey) → bytes_in (together t u) ≡ bytes_in t + bytes_in u
bytes_together t u = omega arith

-- ---- of answers
module _ (s : List ℕ) (a : NextRecord) (more : List NextRecord) where
  pub counted_none : a.length ≡ 0 → counted s (a ∷ more) ≡ together (of_passed a.passed) (counted s more)
  unfolding counted
  counted_none z = rw (eq-eqb a.length 0 z)

  pub counted_one : (a.length ≡ 0 → ⊥) → counted s (a ∷ more) ≡ together (of_record a.passed (packet_at s a.place)) (counted s more)
  unfolding counted
  counted_one f = rw (ne_eqb a.length 0 f)

pub counted_end : (s : List ℕ) → counted s [] ≡ of_passed 0
unfolding counted
counted_end s = refl

-- ---- from a place on
abbrev pub rest : List ℕ → ℕ → Survey
rest s at = counted s (readings s at)

module _ (s : List ℕ) (at : ℕ) where
  pub rest_none : (next_record s at).length ≡ 0 → rest s at ≡ of_passed (next_record s at).passed
  rest_none z =
      rw (readings_end s at z, counted_none s (next_record s at) [] z, counted_end s) (together-none (of_passed (next_record s at).passed))

  pub rest_one : at ≤ length s → ((next_record s at).length ≡ 0 → ⊥) → let a = next_record s at in
      rest s at ≡ together (of_record a.passed (packet_at s a.place)) (rest s (behind a))
  rest_one h f = rw (readings_on s at h f) (counted_one s (next_record s at) (readings s (behind (next_record s at))) f)

-- ---- a record more
pub one_more : (t : Survey) (passed : ℕ) (p : List ℕ) {j : Judged} {v : Tally} {n : ℕ}
    → j ≡ judged false p → v ≡ tallied j t.verdicts → n ≡ saved p
    → record { records = t.records + 1; packets = t.packets + length p; passed = t.passed + passed; verdicts = v; reclaimable = t.reclaimable + n }
    ≡ together t (of_record passed p)
one_more t passed p e f g = rw (g, f, e, plus_one (judged false p) t.verdicts)

pub passed_more : (t : Survey) (n : ℕ) → record {
  records = t.records;
  packets = t.packets;
  passed = t.passed + n;
  verdicts = t.verdicts;
  reclaimable = t.reclaimable;
} ≡ together t (of_passed n)
passed_more t n = simp add-zero

-- ---- how large
pub record_most : (passed : ℕ) (p : List ℕ) → bytes_in (of_record passed p) ≤ 3 * (passed + 5 + length p)
record_most passed p = omega (arith, saved_most p, tallied_most (judged false p) none)

pub rest_most : (s : List ℕ) (at : ℕ) → at ≤ length s → bytes_in (rest s at) ≤ 3 * (length s - at)
rest_most s =
    reading_induction s (λ at r. bytes_in (counted s r) ≤ 3 * (length s - at))
    (λ at h z.
    let a = next_record s at in
    let n = ap bytes_in (counted_none s a [] z) in
    let e = ap bytes_in (counted_end s) in
    omega (arith, n, e, bytes_together (of_passed a.passed) (counted s []), next_place s at h, next_passed s at h, next_place_le s at h))
    (λ at h f more.
    let a = next_record s at in
    let one = ap bytes_in (counted_one s a (readings s (behind a)) f) in
    let p = packet_at s a.place in
    let long : length p ≡ a.length = next-length s at h f in
    omega (
      arith,
      one,
      bytes_together (of_record a.passed p) (rest s (behind a)),
      record_most a.passed p,
      long,
      next_place s at h,
      next_passed s at h,
      all_bytes a f,
      next-within s at h f,
    ))
