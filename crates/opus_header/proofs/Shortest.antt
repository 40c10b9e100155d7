-- The compact packet is the shortest, and the only one of its length: whatever packet RFC 6716 spells with these frames and upper six
-- TOC bits is the compact one, or is longer.
-- Assumes nothing.
use Prim.Native.Nat.{ℕ, zero, suc, ◌+◌, ◌≤◌, ◌<◌}
use native.Mathlib.Omega.{arith}
use mathlib.Core.Path.{◌≡◌, refl, sym, ap}
use mathlib.Core.List.{List, [], ◌∷◌, ◌++◌, append-nil}
use mathlib.Core.Bool.{Bool, true, false}
use mathlib.Core.Logic.{◌⊎◌, inl, inr, ⊎_elim}
use lib.Dec.{ltb, eqb}
use lib.ListN.{length, replicate, length-append, length-replicate}
use lib.Seq.{take_all}
use borrow.Author.Tests.{eq-eqb, ltb-false}
use Rattle.laws.proofs.Never.{by_test}
use Rattle.opus_size.specs.Size.{length_field, length_fields}
use Rattle.opus_size.proofs.Fields.{width}
use Rattle.opus_toc.specs.Toc.{toc_byte}
use Rattle.opus_format.specs.Frames.{lengths}
use Rattle.opus_format.specs.Format.{Padding, unpadded, padded, Layout, code0, code1, code2, code3equal, code3unequal, Spells, count_byte, own_length}
use Rattle.opus_header.specs.Header.{same, last, sizes, header, compact_header}
use Rattle.opus_header.specs.Compact.{compact}
use Rattle.opus_header.proofs.Lengths.{firsts_snoc, last_snoc, replicate-same, replicate-last}

-- a header is the compact one and there is no padding, or it is longer than the compact one
abbrev Best : Bool → ℕ → List ℕ → List ℕ → ℕ → Type 0
Best sd six head ns pad = ((head ≡ compact_header sd six ns) × (pad ≡ 0)) ⊎ (length (compact_header sd six ns) < length head)

pub length-header : (sd : Bool) (front ns : List ℕ) → length (header sd front ns) ≡ length front + (length (sizes ns) + length (own_length sd (last ns)))
unfolding header
length-header sd front ns = simp length-append

-- code 3 with these length fields and this last length
abbrev code3 : Bool → ℕ → ℕ → ℕ → ℕ → List ℕ → List ℕ → ℕ → List ℕ
code3 sd six v p count chain fields n = toc_byte six 3 ∷ count_byte v p count ∷ (chain ++ (fields ++ own_length sd n))

-- against code 3 with `fields`: a shorter code is shorter, and so is code 3 with fewer fields or without the chain
module _ (sd : Bool) (six v count : ℕ) (fields : List ℕ) (n : ℕ) (ns : List ℕ) (ends : last ns ≡ n) {p : ℕ} {chain : List ℕ} {pad : ℕ}
    (k : Padding p chain pad) where
  head : List ℕ
  head = code3 sd six v p count chain fields n

  length_head : length head ≡ 2 + (length chain + (length fields + length (own_length sd n)))
  unfolding head
  length_head = simp length-append (omega arith)

  by_padding : compact_header sd six ns ≡ code3 sd six v 0 count [] fields n → Best sd six head ns pad
  unfolding head
  by_padding e = go k
    where
      go : {p : ℕ} {chain : List ℕ} {pad : ℕ} → Padding p chain pad → Best sd six (code3 sd six v p count chain fields n) ns pad
      go unpadded = inl (sym e, refl)
      go (padded more ends h) =
          inr (omega (
            arith,
            ap length e,
            length-append (replicate more 255 ++ (ends ∷ [])) (fields ++ own_length sd n),
            length-append (replicate more 255) (ends ∷ []),
          ))

  by_short : length (sizes ns) ≤ length fields → ltb (length ns) 3 ≡ true → Best sd six head ns pad
  by_short h e = rw e (inr (rw (length-header, ends) (omega (arith, length_head))))

  by_fields : length (sizes ns) < length fields → ltb (length ns) 3 ≡ false → Best sd six head ns pad
  by_fields h e = rw e (inr (rw (length-header, ends) (omega (arith, length_head))))

fields_some : (ns : List ℕ) → 1 ≤ length ns → 1 ≤ length (length_fields ns)
fields_some [] h = absurd (omega arith)
fields_some (n ∷ ns) h = omega (arith, width n, length-append (length_field n) (length_fields ns))

-- lengths that agree, and lengths with a field for each but the last
module _ (sd : Bool) (six : ℕ) {p : ℕ} {chain : List ℕ} {pad : ℕ} (k : Padding p chain pad) where
  best_equal : (count n : ℕ) → Best sd six (code3 sd six 0 p (suc count) chain [] n) (replicate (suc count) n) pad
  unfolding header head
  best_equal count n =
      let ns = replicate (suc count) n in
      let ends : last ns ≡ n = replicate-last count n in
      let alike : same ns ≡ true = replicate-same count n in
      by_test (ltb (length ns) 3) (by_short sd six 0 (suc count) [] n ns ends k (rw alike (omega arith)))
      (λ e. by_padding sd six 0 (suc count) [] n ns ends k (rw (e, alike, ends, length-replicate)))

  best_unequal : (ms : List ℕ) (n : ℕ) → Best sd six (code3 sd six 1 p (suc (length ms)) chain (length_fields ms) n) (ms ++ (n ∷ [])) pad
  unfolding header head
  best_unequal ms n =
      let ns = ms ++ (n ∷ []) in
      let ends : last ns ≡ n = last_snoc ms n in
      let count : length ns ≡ suc (length ms) = omega (arith, length-append ms (n ∷ [])) in
      by_test (same ns)
      (λ alike.
      let none : length (sizes ns) ≡ 0 = rw alike in
      by_test (ltb (length ns) 3) (by_short sd six 1 (suc (length ms)) (length_fields ms) n ns ends k (omega arith))
      (λ e. by_fields sd six 1 (suc (length ms)) (length_fields ms) n ns ends k (omega (arith, fields_some ms (omega (arith, ltb-false (length ns) 3 e)))) e))
      (λ differ.
      let all : sizes ns ≡ length_fields ms = rw (differ, firsts_snoc) in
      by_test (ltb (length ns) 3) (by_short sd six 1 (suc (length ms)) (length_fields ms) n ns ends k (rw all (omega arith)))
      (λ e. by_padding sd six 1 (suc (length ms)) (length_fields ms) n ns ends k (rw (e, all, differ, ends, count))))

best : {sd : Bool} {six : ℕ} {head ns : List ℕ} {pad : ℕ} → Layout sd six head ns pad → Best sd six head ns pad
unfolding header
best (code0 n) = inl (refl, refl)
best (code1 n) = rw (eq-eqb n n refl) (inl (refl, refl))
best {sd} (code2 m n) =
    by_test (eqb n m) (λ e. rw e (inr (omega (arith, width m, length-append (length_field m) (own_length sd n)))))
    (λ e. rw (e, append-nil) (inl (refl, refl)))
best (code3equal zero n l k) = absurd (omega arith)
best {sd} {six} (code3equal (suc count) n l k) = best_equal sd six k count n
best {sd} {six} (code3unequal ms n l k) = best_unequal sd six k ms n

-- no header is shorter than the compact one, so that a block of frames never has to move up to make room for it
pub header_shortest : {sd : Bool} {six : ℕ} {head ns : List ℕ} {pad : ℕ} → Layout sd six head ns pad
    → length (compact_header sd six ns) ≤ length head
header_shortest {sd} {six} {head} {ns} l =
    ⊎_elim (λ b. omega (arith, ap length b.0)) (λ (h : length (compact_header sd six ns) < length head). omega arith) (best l)

pub shortest : {sd : Bool} {six : ℕ} {p : List ℕ} {frames : List (List ℕ)} → Spells sd six p frames
    → (p ≡ compact sd six frames) ⊎ (length (compact sd six frames) < length p)
unfolding compact
shortest {sd} {six} {p} {frames} w =
    ⊎_elim
    (λ b.
    let none : [] ≡ w.padding = take_all 0 w.padding (omega (arith, b.1)) in
    inl (rw (w.bytes, ← none, append-nil, b.0)))
    (λ (h : length (compact_header sd six (lengths frames)) < length w.head). inr (rw w.bytes (simp length-append (omega arith))))
    (best w.layout)
