-- One answer of `next_record` at a place that is not past the end: where it begins and where its record stands.
--     next_line, next-begins, next_place_le, next-within     its line, where it begins, and that it ends within the capture
--     next_stands, next-nothing, next_end, next_moves     where a record stands and where none does
--     next_again     the answer at a place between
--     end_passes_none     the answer at the end
--     found, none-behind     the same for any place, as a caller has it: an answer that is a record lies behind the place and within
-- Assumes nothing.
use mathlib.Core.Path.{◌≡◌, refl, ap}
use mathlib.Core.Logic.{⊎_elim}
use mathlib.Core.List.{List, [], ◌∷◌}
use mathlib.Core.Bool.{Bool, true, false}
use Prim.Native.Nat.{ℕ, zero, suc, ◌+◌, ◌-◌, ◌<◌, ◌≤◌}
use native.Mathlib.Nat.{eq-or-lt_of_le}
use native.Mathlib.Omega.{arith}
use lib.ListN.{length, get_or, drop, length-drop}
use lib.Seq.{get_or-drop, drop-length, drop-nil, drop-drop}
use lib.Dec.{eqb, ltb}
use borrow.Author.Tests.{eqb-true, eqb-false, ne_eqb, ltb-true, ltb-false}
use Rattle.laws.proofs.Never.{by_test}
use Rattle.capture.specs.declared.NextRecord.{NextRecord}
use Rattle.capture.specs.Finding.{packet_length, before, record_from, next_record}
use Rattle.capture.specs.Reading.{record_bytes, behind, begins}
use Rattle.capture.proofs.Laws.{before_here, before_later, before_le, within, next_is, next_refused}

-- an answer as a place k before its record gives it
abbrev pub seen_from : ℕ → NextRecord → NextRecord
seen_from k a = record { verdict = a.verdict; line = a.line; place = a.place; length = a.length; passed = a.place - k }

-- ---- the bytes of an answer's record
pub no_bytes : (a : NextRecord) → a.length ≡ 0 → record_bytes a ≡ 0
unfolding record_bytes
no_bytes a e = simp e

pub all_bytes : (a : NextRecord) → (a.length ≡ 0 → ⊥) → record_bytes a ≡ 5 + a.length
unfolding record_bytes
all_bytes a f = simp (ne_eqb a.length 0 f)

-- ---- `before` counts up to the first record: at no place before it does one stand, and at it one does, unless it is the end
nothing_if : (b : ℕ) (l : List ℕ) (t : Bool) → eqb (packet_length (b ∷ l)) 0 ≡ t → (k : ℕ) → k < before (b ∷ l)
    → ((j : ℕ) → j < before l → packet_length (drop j l) ≡ 0) → packet_length (drop k (b ∷ l)) ≡ 0
nothing_if b l false e k h rest = absurd (omega (arith, before_here (b ∷ l) (eqb-false (packet_length (b ∷ l)) 0 e)))
nothing_if b l true e zero h rest = eqb-true (packet_length (b ∷ l)) 0 e
nothing_if b l true e (suc k) h rest = rest k (omega (arith, before_later b l (eqb-true (packet_length (b ∷ l)) 0 e)))

nothing-before : (l : List ℕ) (k : ℕ) → k < before l → packet_length (drop k l) ≡ 0
unfolding before
nothing-before [] k h = absurd (omega arith)
nothing-before (b ∷ l) k h = nothing_if b l (eqb (packet_length (b ∷ l)) 0) refl k h (nothing-before l)

record_if : (b : ℕ) (l : List ℕ) (t : Bool) → eqb (packet_length (b ∷ l)) 0 ≡ t → before (b ∷ l) < length (b ∷ l)
    → (before l < length l → packet_length (drop (before l) l) ≡ 0 → ⊥) → packet_length (drop (before (b ∷ l)) (b ∷ l)) ≡ 0 → ⊥
record_if b l false e h rest z =
    eqb-false (packet_length (b ∷ l)) 0 e (rw (before_here (b ∷ l) (eqb-false (packet_length (b ∷ l)) 0 e)) at z)
record_if b l true e h rest z =
    let later = before_later b l (eqb-true (packet_length (b ∷ l)) 0 e) in
    rest (omega (arith, later)) (rw later at z)

record_at_before : (l : List ℕ) → before l < length l → packet_length (drop (before l) l) ≡ 0 → ⊥
record_at_before [] h = absurd (omega arith)
record_at_before (b ∷ l) h = record_if b l (eqb (packet_length (b ∷ l)) 0) refl h (record_at_before l)

-- fewer bytes are before the first record from a later place on
before-drop_if : (b : ℕ) (l : List ℕ) (t : Bool) → eqb (packet_length (b ∷ l)) 0 ≡ t → (k : ℕ) → k ≤ before (b ∷ l)
    → ((j : ℕ) → j ≤ before l → before (drop j l) ≡ before l - j) → before (drop k (b ∷ l)) ≡ before (b ∷ l) - k
before-drop_if b l t e zero h rest = omega arith
before-drop_if b l false e (suc k) h rest = absurd (omega (arith, before_here (b ∷ l) (eqb-false (packet_length (b ∷ l)) 0 e)))
before-drop_if b l true e (suc k) h rest =
    let later = before_later b l (eqb-true (packet_length (b ∷ l)) 0 e) in
    omega (arith, later, rest k (omega (arith, later)))

before-drop : (l : List ℕ) (k : ℕ) → k ≤ before l → before (drop k l) ≡ before l - k
unfolding before
before-drop [] k h = rw (drop-nil k) (omega arith)
before-drop (b ∷ l) k h = before-drop_if b l (eqb (packet_length (b ∷ l)) 0) refl k h (before-drop l)

-- at the end none stands
pub none_at_end : (s : List ℕ) → packet_length (drop (length s) s) ≡ 0
unfolding packet_length
none_at_end s = rw (drop-length s)

-- ---- the answer at a place
module _ (s : List ℕ) (at : ℕ) (inside : at ≤ length s) where
  pub next_place : (next_record s at).place ≡ at + before (drop at s)
  unfolding record_from
  next_place = rw (next_is s at inside)

  pub next_passed : (next_record s at).passed ≡ before (drop at s)
  unfolding record_from
  next_passed = rw (next_is s at inside)

  -- what is found stands at its place
  pub next_stands : (next_record s at).length ≡ packet_length (drop (next_record s at).place s)
  unfolding record_from
  next_stands = rw (next_is s at inside)

  -- the line is the third byte of its head
  pub next_line : (next_record s at).line ≡ get_or s ((next_record s at).place + 2) 0
  unfolding record_from
  next_line = rw (next_is s at inside, get_or-drop)

  pub next-begins : begins (next_record s at) ≡ at
  next-begins = omega (arith, next_place, next_passed)

  pub next_from : at ≤ (next_record s at).place
  next_from = omega (arith, next_place)

  pub next_place_le : (next_record s at).place ≤ length s
  next_place_le = omega (arith, next_place, before_le (drop at s), length-drop at s)

  -- nothing stands at a place before it
  pub next-nothing : (k : ℕ) → at ≤ k → k < (next_record s at).place → packet_length (drop k s) ≡ 0
  next-nothing k h below =
      let e : at + (k - at) ≡ k = omega arith in
      rw (drop-drop (k - at) at s, e) at (nothing-before (drop at s) (k - at) (omega (arith, next_place)))

  -- where there is none, its place is the end
  pub next_end : (next_record s at).length ≡ 0 → (next_record s at).place ≡ length s
  next_end z =
      let l = drop at s in
      let none : packet_length (drop (before l) l) ≡ 0 = rw (drop-drop, ← next_place, ← next_stands) z in
      let all : before l ≡ length l = ⊎_elim (λ e. e) (λ lt. absurd (record_at_before l lt none)) (eq-or-lt_of_le (before_le l)) in
      omega (arith, next_place, length-drop at s)

  -- a record lies within the capture, and the reader moves on by six bytes at least
  pub next-within : ((next_record s at).length ≡ 0 → ⊥) → behind (next_record s at) ≤ length s
  next-within f =
      let a = next_record s at in
      omega (arith, all_bytes a f, within s a.place a.length next_stands f)

  pub next_moves : ((next_record s at).length ≡ 0 → ⊥) → at + 6 ≤ behind (next_record s at)
  next_moves f = omega (arith, next_from, all_bytes (next_record s at) f)

  -- a place between gives the record again, with fewer bytes passed over
  pub next_again : (k : ℕ) → at ≤ k → k ≤ (next_record s at).place
      → next_record s k ≡ seen_from k (next_record s at)
  unfolding record_from
  next_again k h below =
      let l = drop at s in
      let e : at + (k - at) ≡ k = omega arith in
      let fewer : before (drop k s) ≡ before l - (k - at) = rw (drop-drop (k - at) at s, e) at (before-drop l (k - at) (omega (arith, next_place))) in
      let same : k + before (drop k s) ≡ at + before l = omega (arith, next_place) in
      let fewer' : before (drop k s) ≡ at + before l - k = omega (arith, next_place) in
      rw (next_is s k (omega (arith, next_place_le)), next_is s at inside, same, fewer')

-- at the end nothing is passed over
pub end_passes_none : (s : List ℕ) → (next_record s (length s)).passed ≡ 0
unfolding before
end_passes_none s = rw (drop-length s) at (next_passed s (length s) (omega arith))

-- ---- an answer that is a record, whatever place was asked for
pub record Found (s : List ℕ) (at : ℕ) (a : NextRecord) : Type 0 where
  pub asked : at ≤ length s
  pub from : at ≤ a.place
  pub some : 1 ≤ a.length
  pub inside : behind a ≤ length s
  pub next : behind a ≡ a.place + 5 + a.length

pub found : (s : List ℕ) (at : ℕ) → ((next_record s at).length ≡ 0 → ⊥) → Found s at (next_record s at)
found s at f =
    let inside : at ≤ length s =
    by_test (ltb (length s) at) (λ t. absurd (f (ap (λ (a : NextRecord). a.length) (next_refused s at (ltb-true (length s) at t)))))
    (λ t. ltb-false (length s) at t) in
    record {
      asked = inside;
      from = next_from s at inside;
      some = omega arith;
      inside = next-within s at inside f;
      next = omega (arith, all_bytes (next_record s at) f);
    }

-- at the end, and past it, there is none
pub none-behind : (s : List ℕ) (at : ℕ) → length s ≤ at → (next_record s at).length ≡ 0
none-behind s at h =
    by_test (eqb (next_record s at).length 0) (λ t. eqb-true (next_record s at).length 0 t)
    (λ t. let f = found s at (eqb-false (next_record s at).length 0 t) in absurd (omega (arith, f.from, f.some, f.inside, f.next)))
