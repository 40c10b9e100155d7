-- The place of the first 4B in a list, by its first bytes.
--     word_long, word_none, word_some              of eight bytes none is one, or one is
--     Passed, passed_more                          a word more in which none is
--     Told, told_first, told_some, told-last       32 bytes
--     first_here                                   it stands at the place
--     Sought, sought_start, sought_on, sought_here, sought_rest     from 32 bytes to the next
-- Assumes nothing.
use Prim.Native.Nat.{ℕ, suc, ◌+◌, ◌-◌, ◌<◌, ◌≤◌}
use native.Mathlib.Omega.{arith}
use native.Mathlib.Numerals.{add-one}
use mathlib.Core.Path.{◌≡◌, refl, sym, ap, ◌∙◌}
use mathlib.Core.List.{List, [], ◌∷◌, ◌++◌}
use lib.Dec.{eqb}
use borrow.Author.Tests.{eqb-true, eqb-false, eq-eqb, ne_eqb}
use lib.ListN.{length, get_or, take, drop, length-drop, take-append-drop, drop_of_length-le}
use lib.Seq.{drop-cons, drop-drop, take-length, length-take-le}
use Rattle.laws.proofs.Never.{by_test}
use Rattle.laws.specs.Scan.{slice, index_of}
use Rattle.marks.specs.Flags.{flags_of}
use Rattle.marks.proofs.Flags.{flags_none, flags_some}

-- ---- a list and what follows it
index_before : (l m : List ℕ) → index_of 75 l < length l → index_of 75 (l ++ m) ≡ index_of 75 l
unfolding index_of
index_before [] m h = absurd (omega arith)
index_before (b ∷ l) m h = by_test (eqb b 75) (λ t. rw t) (λ t. rw t (ap suc (index_before l m (omega (arith, rw t at h)))))

index_behind : (l m : List ℕ) → index_of 75 l ≡ length l → index_of 75 (l ++ m) ≡ length l + index_of 75 m
unfolding index_of
index_behind [] m e = omega arith
index_behind (b ∷ l) m e =
    by_test (eqb b 75) (λ t. absurd (omega (arith, rw t at e))) (λ t. rw t (omega (arith, index_behind l m (omega (arith, rw t at e)))))

-- ---- eight bytes
module _ (s : List ℕ) (at : ℕ) (h : at + 8 ≤ length s) where
  pub word_long : length (take 8 (drop at s)) ≡ 8
  word_long = length-take-le 8 (drop at s) (omega (arith, length-drop at s))

  apart : take 8 (drop at s) ++ drop (at + 8) s ≡ drop at s
  apart = rw (← drop-drop 8 at s) (take-append-drop 8 (drop at s))

  pub word_none : flags_of (take 8 (drop at s)) ≡ 0 → index_of 75 (drop at s) ≡ 8 + index_of 75 (drop (at + 8) s)
  word_none e =
      let none = flags_none (take 8 (drop at s)) e in
      let k : index_of 75 (take 8 (drop at s) ++ drop (at + 8) s) ≡ length (take 8 (drop at s)) + index_of 75 (drop (at + 8) s) =
      index_behind (take 8 (drop at s)) (drop (at + 8) s) none in
      omega (arith, ap (index_of 75) apart, k, word_long)

  word_some : (flags_of (take 8 (drop at s)) ≡ 0 → ⊥)
      → (index_of 75 (drop at s) ≡ index_of 75 (take 8 (drop at s))) × (index_of 75 (take 8 (drop at s)) < 8)
  word_some f =
      let some = flags_some (take 8 (drop at s)) f in
      (sym (ap (index_of 75) apart) ∙ index_before (take 8 (drop at s)) (drop (at + 8) s) some, omega (arith, some, word_long))

-- ---- the first k bytes from a place on, among which there is none
abbrev pub Passed : List ℕ → ℕ → ℕ → Type 0
Passed s at k = index_of 75 (drop at s) ≡ k + index_of 75 (drop (at + k) s)

-- what is said of 32 bytes
abbrev pub Told : List ℕ → ℕ → ℕ → Type 0
Told s at r = (r ≤ 32) × ((r < 32 → index_of 75 (drop at s) ≡ r) × (r ≡ 32 → Passed s at 32))

module _ (s : List ℕ) (at : ℕ) (h : at + 32 ≤ length s) where
  pub passed_more : (k : ℕ) → k + 8 ≤ 32 → Passed s at k → flags_of (take 8 (drop (at + k) s)) ≡ 0 → (m : ℕ) → m ≡ k + 8 → Passed s at m
  passed_more k most p e m sum =
      let place : at + m ≡ at + k + 8 = omega (arith, sum) in
      rw place (omega (arith, sum, p, word_none s (at + k) (omega arith) e))

  pub told_first : (flags_of (take 8 (drop at s)) ≡ 0 → ⊥) → {i : ℕ} → i ≡ index_of 75 (take 8 (drop at s)) → Told s at i
  told_first f e =
      let w = word_some s at (omega arith) f in
      (omega (arith, e, w.1), (λ l. omega (arith, e, w.0), λ l. absurd (omega (arith, e, w.1))))

  pub told_some : (k : ℕ) → k + 8 ≤ 32 → Passed s at k → (flags_of (take 8 (drop (at + k) s)) ≡ 0 → ⊥) → {i : ℕ}
      → i ≡ index_of 75 (take 8 (drop (at + k) s)) → Told s at (k + i)
  told_some k most p f e =
      let w = word_some s (at + k) (omega arith) f in
      (omega (arith, e, w.1), (λ l. omega (arith, e, p, w.0), λ l. absurd (omega (arith, e, w.1))))

  pub told-last : Passed s at 24 → {i : ℕ} → i ≡ index_of 75 (take 8 (drop (at + 24) s)) → Told s at (24 + i)
  told-last p {i} e =
      by_test (eqb (flags_of (take 8 (drop (at + 24) s))) 0)
      (λ t. let z = eqb-true (flags_of (take 8 (drop (at + 24) s))) 0 t in
      let full : i ≡ 8 = omega (arith, e, flags_none (take 8 (drop (at + 24) s)) z, word_long s (at + 24) (omega arith)) in
      (omega (arith, full), (λ l. absurd (omega (arith, full)), λ l. passed_more 24 (omega arith) p z 32 refl)))
      (λ t. told_some 24 (omega arith) p (eqb-false (flags_of (take 8 (drop (at + 24) s))) 0 t) e)

-- ---- from 32 bytes to the next
slice_all : (s : List ℕ) (at : ℕ) → slice at (length s) s ≡ drop at s
unfolding slice
slice_all s at = rw take-length

pub record Sought (s : List ℕ) (at place : ℕ) : Type 0 where
  pub from : at ≤ place
  pub inside : place ≤ length s
  pub same : at + index_of 75 (drop at s) ≡ place + index_of 75 (drop place s)

pub sought_start : (s : List ℕ) (at : ℕ) → at ≤ length s → Sought s at at
sought_start s at h = record { from = omega arith; inside = h; same = refl }

-- r is the first place
abbrev pub First : List ℕ → ℕ → ℕ → Type 0
First s at r = (r ≡ at + index_of 75 (slice at (length s) s)) × (r ≤ length s)

pub first_here : (s : List ℕ) (at : ℕ) → at < length s → get_or s at 0 ≡ 75 → First s at at
unfolding index_of
first_here s at h e = (rw (slice_all s at, drop-cons s at 0 h, eq-eqb (get_or s at 0) 75 e) (omega arith), omega arith)

module _ {s : List ℕ} {at place : ℕ} (g : Sought s at place) where
  pub sought_rest : {r : ℕ} → First s place r → First s at r
  sought_rest e = (rw (slice_all s at) (omega (arith, g.same, rw (slice_all s place) at e.0)), e.1)

  module _ (h : 32 ≤ length s - place) {m : ℕ} (t : Told s place m) where
    pub sought_here : m < 32 → First s at (place + m)
    sought_here l = (rw (slice_all s at) (omega (arith, g.same, t.1.0 l)), omega (arith, g.inside))

    pub sought_on : 32 ≤ m → Sought s at (place + 32)
    sought_on l =
        record {
          from = omega (arith, g.from);
          inside = omega (arith, g.inside);
          same = omega (arith, g.same, t.1.1 (omega (arith, t.0)));
        }

  -- one byte passed over, which is none
  pub sought_next : place < length s → (get_or s place 0 ≡ 75 → ⊥) → Sought s at (place + 1)
  unfolding index_of
  sought_next h other =
      let step : index_of 75 (drop place s) ≡ suc (index_of 75 (drop (suc place) s)) =
      rw (drop-cons s place 0 h, ne_eqb (get_or s place 0) 75 other) refl in
      record {
        from = omega (arith, g.from);
        inside = omega arith;
        same = rw add-one (omega (arith, g.same, step));
      }

  pub sought_end : length s ≤ place → First s at place
  unfolding index_of
  sought_end h =
      let none : drop place s ≡ [] = drop_of_length-le s h in
      (rw (slice_all s at) (omega (arith, g.same, ap (index_of 75) none)), g.inside)

  pub sought_byte : place < length s → get_or s place 0 ≡ 75 → First s at place
  sought_byte h e = (rw (slice_all s at) (omega (arith, g.same, (first_here s place h e).0, ap (index_of 75) (slice_all s place))), g.inside)
