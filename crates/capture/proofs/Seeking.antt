-- What `record_at` and `seek_mark` go by, and what `next_record` reads at the place that they find.
--     place_here, place_later     a record stands at a place, or none does
--     length_none, stands     a length of 0 is written there, or one that fits
--     place_end     fewer bytes are left than a head has
--     goes_on_lem     a place at which none stands is passed over
--     Found     the first place from a start on at which a record stands, or the end, and the bytes of its packet
-- Assumes nothing.
use mathlib.Core.Path.{◌≡◌, refl, sym, ap, ◌∙◌}
use mathlib.Core.List.{List, [], ◌∷◌}
use mathlib.Core.Bool.{Bool, true, false, cond, ◌&&◌}
use Prim.Native.Nat.{ℕ, suc, ◌+◌, ◌-◌, ◌<◌, ◌≤◌}
use native.Mathlib.Omega.{arith}
use lib.ListN.{length, get_or, drop, length-drop}
use lib.Seq.{get_or-drop, drop-length}
use lib.Dec.{eqb, leb}
use Rattle.std.specs.Prelude.{Ok}
use Rattle.capture.specs.Finding.{Record}
use Rattle.capture.specs.Finding.{length_in, packet_length, before, record_from, next_record}
use Rattle.capture.proofs.Laws.{length_at, length_cut, length_whole, before_later, within, record_here, record_later, record_place, next_found}
use Rattle.capture.proofs.Answers.{next_place, next_stands, next_end}

-- ---- the place alone
module _ (s : List ℕ) (at n : ℕ) (is : n ≡ packet_length (drop at s)) where
  pub place_here : (n ≡ 0 → ⊥) → at ≡ (record_from s at).place
  place_here f = sym (ap (λ (r : Record). r.place) (record_here s at n is f))

  pub place_later : n ≡ 0 → at < length s → (record_from s (at + 1)).place ≡ (record_from s at).place
  place_later z inside = sym (ap (λ (r : Record). r.place) (record_later s at n is z inside))

-- ---- no record stands where the length is 0
none_of : (b : Bool) (n : ℕ) → n ≡ 0 → cond b n 0 ≡ 0
none_of true n z = z
none_of false n z = refl

pub length_none : (s : List ℕ) (at : ℕ) → length_at s at ≡ 0 → packet_length (drop at s) ≡ 0
unfolding packet_length
length_none s at z =
    let l = drop at s in
    none_of (eqb (get_or l 0 0) 0x4B && (eqb (get_or l 1 0) 0x9D && leb (5 + length_in l) (length l))) (length_in l) (simp get_or-drop z)

-- ---- one stands where the mark is whole and the packet ends within
pub stands : (s : List ℕ) (at : ℕ) → get_or s at 0 ≡ 0x4B → get_or s (at + 1) 0 ≡ 0x9D → 5 + length_at s at ≤ length s - at
    → (length_at s at ≡ 0 → ⊥)
    → packet_length (drop at s) ≡ 0 → ⊥
stands s at a b h f z = f (sym (length_whole s at a b h) ∙ z)

-- ---- none where fewer bytes are left than its head has
before-short : (l : List ℕ) → length l < 5 → before l ≡ length l
unfolding before
before-short [] h = refl
before-short (b ∷ l) h =
    let none : packet_length (b ∷ l) ≡ 0 = length_cut (b ∷ l) 0 (omega arith) in
    before_later b l none ∙ ap suc (before-short l (omega arith))

pub place_end : (s : List ℕ) (at : ℕ) → at ≤ length s → length s - at < 5 → length s ≡ (record_from s at).place
place_end s at inside h =
    let e = length-drop at s in
    omega (arith, record_place s at, e, before-short (drop at s) (omega (arith, e)))

-- ---- from a place on at which none stands
pub goes_on_lem : (s : List ℕ) (at place : ℕ) → place < length s → record_from s at ≡ record_from s place → packet_length (drop place s) ≡ 0
    → record_from s at ≡ record_from s (place + 1)
goes_on_lem s at place inside e none = e ∙ record_later s place (packet_length (drop place s)) refl none inside

-- ---- what is read at the place that is found
pub record Found (s : List ℕ) (start place n : ℕ) : Type 0 where
  pub first : place ≡ (record_from s start).place
  pub long : n ≡ packet_length (drop place s)

pub found_here : (s : List ℕ) (start k place n : ℕ) → k ≡ packet_length (drop start s) → (k ≡ 0 → ⊥) → place ≡ start → n ≡ k
    → Found s start place n
found_here s start k place n is f p e = record { first = p ∙ place_here s start k is f; long = e ∙ is ∙ rw p }

pub found_end : (s : List ℕ) (start k place n : ℕ) → k ≡ packet_length (drop start s) → start ≤ length s → length s ≤ start
    → place ≡ start → n ≡ k
    → Found s start place n
found_end s start k place n is inside h p e =
    let end : start ≡ length s = omega arith in
    record { first = p ∙ end ∙ place_end s start inside (omega arith); long = e ∙ is ∙ rw p }

pub found_later : (s : List ℕ) (start k at m place n : ℕ) → k ≡ packet_length (drop start s) → k ≡ 0 → start < length s
    → at ≡ (record_from s (start + 1)).place → m ≡ packet_length (drop at s) → place ≡ at → n ≡ m → Found s start place n
found_later s start k at m place n is z inside first long p e =
    record { first = p ∙ first ∙ place_later s start k is z inside; long = e ∙ long ∙ rw p }

module _ (s : List ℕ) (start place n : ℕ) (inside : start ≤ length s) (r : Found s start place n) where
  pub found_from : start ≤ place
  found_from = omega (arith, r.first, record_place s start)

  pub found_within : (n ≡ 0 → ⊥) → place + 5 + n ≤ length s
  found_within f = within s place n r.long f

  -- where none is left there is no byte of a line either
  found_none : n ≡ 0 → get_or s (place + 2) 0 ≡ 0
  found_none z =
      let there : place ≡ (next_record s start).place = r.first ∙ record_place s start ∙ sym (next_place s start inside) in
      let none : (next_record s start).length ≡ 0 = next_stands s start inside ∙ rw (sym there) (sym r.long ∙ z) in
      let end : place ≡ length s = there ∙ next_end s start inside none in
      rw (end, ← get_or-drop (length s) s 2 0, drop-length s) refl

  found_record : (line : ℕ) → line ≡ get_or s (place + 2) 0 → record { line = line; place = place; length = n } ≡ record_from s start
  unfolding record_from
  found_record line e =
      let there : place ≡ start + before (drop start s) = r.first ∙ record_place s start in
      rw (e, r.long, there, get_or-drop)

  pub found_next : (line passed : ℕ) → line ≡ get_or s (place + 2) 0 → passed ≡ place - start
      → record { verdict = Ok tt; line = line; place = place; length = n; passed = passed } ≡ next_record s start
  found_next line passed e p = next_found s start passed (record { line = line; place = place; length = n }) (found_record line e) p inside

  pub found_next-none : (line passed : ℕ) → line ≡ 0 → n ≡ 0 → passed ≡ place - start
      → record { verdict = Ok tt; line = line; place = place; length = n; passed = passed } ≡ next_record s start
  found_next-none line passed l z p = found_next line passed (l ∙ sym (found_none z)) p
