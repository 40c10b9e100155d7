-- Laws of `packet_length`, `before`, `record_from` and `next_record`, which the proofs of the functions cite.
-- Assumes nothing.
use mathlib.Core.Path.{◌≡◌, refl, sym, ap, ◌∙◌}
use mathlib.Core.List.{List, [], ◌∷◌}
use mathlib.Core.Bool.{Bool, true, false, cond, ◌&&◌}
use Prim.Native.Nat.{ℕ, suc, ◌+◌, ◌*◌, ◌-◌, ◌<◌, ◌≤◌}
use native.Mathlib.Nat.{add-zero}
use native.Mathlib.Numerals.{add-one}
use native.Mathlib.Omega.{arith}
use lib.ListN.{length, get_or, take, drop, length-drop}
use lib.Seq.{get_or-drop, drop-cons, drop-length, drop-drop, take-length}
use lib.Dec.{leb, eqb}
use borrow.Author.Tests.{le-leb, lt-leb, leb-true, eq-eqb, ne_eqb, eqb-true, eqb-false, le-ltb, lt-ltb}
use Rattle.laws.specs.Scan.{slice, index_of}
use Rattle.opus_defines.specs.declared.Refusal.TheVariants.{BadArg}
use Rattle.capture.specs.Finding.{Record}
use Rattle.capture.specs.Finding.{length_in, packet_length, packet_at, before, record_from, no_record, with_passed, next_record}

and_false : (b : Bool) → (b && false) ≡ false
and_false true = refl
and_false false = refl

-- the length that is written at a place
abbrev pub length_at : List ℕ → ℕ → ℕ
length_at s at = 256 * get_or s (at + 3) 0 + get_or s (at + 4) 0

-- ---- what the bytes at a place say of a record there
module _ (s : List ℕ) (at : ℕ) where
  pub length_first : (get_or s at 0 ≡ 0x4B → ⊥) → packet_length (drop at s) ≡ 0
  unfolding packet_length
  length_first h = simp (get_or-drop, add-zero, ne_eqb (get_or s at 0) 0x4B h)

  pub length_second : (get_or s (at + 1) 0 ≡ 0x9D → ⊥) → packet_length (drop at s) ≡ 0
  unfolding packet_length
  length_second h = simp (get_or-drop, ne_eqb (get_or s (at + 1) 0) 0x9D h, and_false)

  pub length_cut : length s - at < 5 + length_at s at → packet_length (drop at s) ≡ 0
  unfolding packet_length
  length_cut h = simp (get_or-drop, length-drop, lt-leb (5 + length_at s at) (length s - at) h, and_false)

  pub length_whole : get_or s at 0 ≡ 0x4B → get_or s (at + 1) 0 ≡ 0x9D → 5 + length_at s at ≤ length s - at
      → packet_length (drop at s) ≡ length_at s at
  unfolding packet_length
  length_whole a b h =
      simp (
        get_or-drop,
        add-zero,
        length-drop,
        eq-eqb (get_or s at 0) 0x4B a,
        eq-eqb (get_or s (at + 1) 0) 0x9D b,
        le-leb (5 + length_at s at)
            (length s - at) h,
      )

-- where a record stands, its three tests hold, and its length is the one that is written
tests_hold : (b₁ b₂ b₃ : Bool) (n : ℕ) → (cond (b₁ && (b₂ && b₃)) n 0 ≡ 0 → ⊥)
    → (b₁ ≡ true) × (b₂ ≡ true) × (b₃ ≡ true) × (cond (b₁ && (b₂ && b₃)) n 0 ≡ n)
tests_hold true true true n f = (refl, refl, refl, refl)
tests_hold true true false n f = absurd (f refl)
tests_hold true false b₃ n f = absurd (f refl)
tests_hold false b₂ b₃ n f = absurd (f refl)

pub record Head (l : List ℕ) : Type 0 where
  pub first : get_or l 0 0 ≡ 0x4B
  pub second : get_or l 1 0 ≡ 0x9D
  pub fits : 5 + length_in l ≤ length l
  pub long : packet_length l ≡ length_in l

pub head_stands : (l : List ℕ) → (packet_length l ≡ 0 → ⊥) → Head l
unfolding packet_length
head_stands l f =
    let t = tests_hold (eqb (get_or l 0 0) 0x4B) (eqb (get_or l 1 0) 0x9D) (leb (5 + length_in l) (length l)) (length_in l) f in
    record {
      first = eqb-true (get_or l 0 0) 0x4B t.0;
      second = eqb-true (get_or l 1 0) 0x9D t.1;
      fits = leb-true (5 + length_in l) (length l) t.2;
      long = t.3;
    }

-- a record at the front of a list lies within it
pub length-fits : (l : List ℕ) → (packet_length l ≡ 0 → ⊥) → 5 + packet_length l ≤ length l
length-fits l f = let h = head_stands l f in omega (arith, h.fits, h.long)

-- ---- the bytes before the first record
-- where a record stands nothing is before it, and where none does one byte is passed over
pub before_here : (l : List ℕ) → (packet_length l ≡ 0 → ⊥) → before l ≡ 0
unfolding before
before_here [] f = refl
before_here (b ∷ l) f = simp (ne_eqb (packet_length (b ∷ l)) 0 f)

pub before_later : (b : ℕ) (l : List ℕ) → packet_length (b ∷ l) ≡ 0 → before (b ∷ l) ≡ suc (before l)
unfolding before
before_later b l e = simp e

before_le_if : (b : ℕ) (l : List ℕ) (t : Bool) → eqb (packet_length (b ∷ l)) 0 ≡ t → before l ≤ length l → before (b ∷ l) ≤ length (b ∷ l)
unfolding before
before_le_if b l true e h = simp e (omega arith)
before_le_if b l false e h = simp e (omega arith)

pub before_le : (l : List ℕ) → before l ≤ length l
unfolding before
before_le [] = omega arith
before_le (b ∷ l) = before_le_if b l (eqb (packet_length (b ∷ l)) 0) refl (before_le l)

-- bytes that are not the first of a mark are all passed over
before_skip_if : (b : ℕ) (l : List ℕ) (t : Bool) → eqb b 0x4B ≡ t → before l ≡ index_of 0x4B l + before (drop (index_of 0x4B l) l)
    → before (b ∷ l) ≡ index_of 0x4B (b ∷ l) + before (drop (index_of 0x4B (b ∷ l)) (b ∷ l))
unfolding index_of
before_skip_if b l true e h = simp e (omega arith)
before_skip_if b l false e h =
    let none : packet_length (b ∷ l) ≡ 0 = length_first (b ∷ l) 0 (eqb-false b 0x4B e) in
    simp e (omega (arith, before_later b l none))

before_skip : (l : List ℕ) → before l ≡ index_of 0x4B l + before (drop (index_of 0x4B l) l)
unfolding index_of
before_skip [] = omega arith
before_skip (b ∷ l) = before_skip_if b l (eqb b 0x4B) refl (before_skip l)

-- r is the first place from `at` on that holds such a byte, or the end
pub record_skip : (s : List ℕ) (at r : ℕ) → r ≡ at + index_of 0x4B (slice at (length s) s) → record_from s at ≡ record_from s r
unfolding record_from slice
record_skip s at r is =
    let k = index_of 0x4B (drop at s) in
    let there : r ≡ at + k = rw take-length at is in
    let e : at + before (drop at s) ≡ r + before (drop r s) = rw (there, ← drop-drop k at s) (omega (arith, before_skip (drop at s))) in
    simp e

-- ---- the first record at or after a place, at which a record's packet has n bytes, or there is none and n is 0
module _ (s : List ℕ) (at n : ℕ) (is : n ≡ packet_length (drop at s)) where
  pub within : (n ≡ 0 → ⊥) → at + 5 + n ≤ length s
  within f = omega (arith, length-drop at s, length-fits (drop at s) (λ z. f (is ∙ z)), is)

  pub packet_none : n ≡ 0 → packet_at s at ≡ []
  unfolding packet_at
  packet_none z = simp (sym is, z)

  pub packet_part : packet_at s at ≡ take (at + 5 + n - (at + 5)) (drop (at + 5) s)
  unfolding packet_at
  packet_part =
      let e : at + 5 + n - (at + 5) ≡ packet_length (drop at s) = omega (arith, is) in
      rw e refl

  pub record_here : (n ≡ 0 → ⊥) → record_from s at ≡ record { line = get_or s (at + 2) 0; place = at; length = n }
  unfolding record_from
  record_here f = simp (before_here (drop at s) (λ z. f (is ∙ z)), add-zero, get_or-drop, is)

  pub record_later : n ≡ 0 → at < length s → record_from s at ≡ record_from s (at + 1)
  unfolding record_from
  record_later z inside =
      let none : packet_length (drop at s) ≡ 0 = sym is ∙ z in
      let step : before (drop at s) ≡ suc (before (drop (at + 1) s)) =
      rw (add-one, drop-cons s at 0 inside) (before_later (get_or s at 0) (drop (suc at) s) (rw (drop-cons s at 0 inside) at none)) in
      let e : at + suc (before (drop (at + 1) s)) ≡ at + 1 + before (drop (at + 1) s) = omega arith in
      simp (step, e)

pub record_none : (s : List ℕ) (at : ℕ) → at ≡ length s → record_from s at ≡ record { line = 0; place = at; length = 0 }
unfolding record_from before packet_length
record_none s at e = simp (e, drop-length, add-zero)

-- ---- the answer
pub next_refused : (s : List ℕ) (start : ℕ) → length s < start → next_record s start ≡ no_record BadArg
unfolding next_record
next_refused s start h = simp (lt-ltb (length s) start h)

pub next_is : (s : List ℕ) (start : ℕ) → start ≤ length s → next_record s start ≡ with_passed (record_from s start) (before (drop start s))
unfolding next_record
next_is s start h = simp (le-ltb (length s) start h)

-- the bytes passed over are those between the start and the record
pub record_place : (s : List ℕ) (at : ℕ) → (record_from s at).place ≡ at + before (drop at s)
unfolding record_from
record_place s at = refl

pub next_found : (s : List ℕ) (start passed : ℕ) (r : Record) → r ≡ record_from s start → passed ≡ r.place - start → start ≤ length s
    → with_passed r passed ≡ next_record s start
next_found s start passed r e p h =
    let e' : r.place ≡ start + before (drop start s) = ap (λ (r : Record). r.place) e ∙ record_place s start in
    let b : passed ≡ before (drop start s) = omega (arith, p, e') in
    rw (b, e) (sym (next_is s start h))
