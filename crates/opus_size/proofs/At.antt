-- A length field at a place of a slice: what stands there is what is read of the bytes from that place on.
--     at_end, at_short, at_cut, at_long     what `size_at` finds, by the bytes there
--     whole_was, short_was                  what a caller of `size_at` knows of the list
--     front_whole, front-short              the same at the front of the slice, for `parse_size`,
--     told-..                               by the rule that it is told
-- Assumes nothing.
use Prim.Native.Nat.{ℕ, suc, ◌+◌, ◌*◌, ◌-◌, ◌≤◌, ◌<◌}
use native.Mathlib.Omega.{arith}
use native.Mathlib.Numerals.{add-one}
use mathlib.Core.Path.{◌≡◌, ap, ◌∙◌}
use mathlib.Core.List.{List, [], ◌∷◌}
use lib.Dec.{ltb, leb}
use lib.ListN.{length, get_or, drop, drop_of_length-le, length-drop}
use lib.Seq.{drop-cons}
use borrow.Author.Tests.{le-ltb, leb-true, leb-false, ltb-true, ltb-false, ne_eqb}
use Rattle.laws.proofs.Never.{never, by_test}
use Rattle.opus_size.specs.Size.{read_field, no_field, field}
use Rattle.opus_size.specs.Answers.{placed, size_at, size_told, parse_size}
use Rattle.std.specs.Prelude.{None, Some, Ok, Err}
use Rattle.opus_defines.specs.declared.Refusal.TheVariants.{BadArg, CutShort}
use Rattle.opus_defines.specs.declared.Rule.{Rule}
use Rattle.opus_defines.specs.declared.Rule.TheVariants.{R4, R7, R8}
use Rattle.opus_size.proofs.Fields.{read_short, read_long}

module _ (s : List ℕ) (at : ℕ) where
  read_end : length s ≤ at → read_field (drop at s) ≡ no_field
  read_end h = rw (drop_of_length-le s h)

  read_one : at < length s → get_or s at 0 < 252 → read_field (drop at s) ≡ field (get_or s at 0) (drop (at + 1) s)
  read_one h k = rw (drop-cons s at 0, add-one at) (read_short (get_or s at 0) (drop (suc at) s) k)

  read-cut : at < length s → length s ≤ at + 1 → 252 ≤ get_or s at 0 → read_field (drop at s) ≡ no_field
  read-cut h l k =
      let none : drop (suc at) s ≡ [] = drop_of_length-le s {i = suc at} (omega arith) in
      rw (drop-cons s at 0, le-ltb (get_or s at 0) 252, none)

  read_two : at + 1 < length s → 252 ≤ get_or s at 0 → read_field (drop at s) ≡ field (4 * get_or s (at + 1) 0 + get_or s at 0) (drop (at + 2) s)
  read_two h k =
      let first : drop at s ≡ get_or s at 0 ∷ drop (suc at) s = drop-cons s at 0 (omega arith) in
      let second : drop (suc at) s ≡ get_or s (suc at) 0 ∷ drop (suc (suc at)) s = drop-cons s (suc at) 0 (omega arith) in
      let next : at + 2 ≡ suc (suc at) = omega arith in
      rw (first, second, next, add-one at) (read_long (get_or s at 0) (get_or s (suc at) 0) (drop (suc (suc at)) s) k)

-- a place within the slice, from what is left behind it
behind : (s : List ℕ) (next n : ℕ) → next ≤ length s → Some (n, next) ≡ placed (length s) (field n (drop next s))
behind s next n h = let e : length s - length (drop next s) ≡ next = omega (arith, length-drop next s) in rw e

module _ (s : List ℕ) (at : ℕ) where
  pub at_end : length s ≤ at → None ≡ size_at s at
  unfolding size_at
  at_end h = rw (read_end s at h)

  pub at_short : at < length s → get_or s at 0 < 252 → Some (get_or s at 0, at + 1) ≡ size_at s at
  unfolding size_at
  at_short h k = rw (read_one s at h k) (behind s (at + 1) (get_or s at 0) (omega arith))

  pub at_cut : at < length s → 252 ≤ get_or s at 0 → length s ≤ at + 1 → None ≡ size_at s at
  unfolding size_at
  at_cut h k l = rw (read-cut s at h l k)

  pub at_long : at + 1 < length s → 252 ≤ get_or s at 0 → Some (4 * get_or s (at + 1) 0 + get_or s at 0, at + 2) ≡ size_at s at
  unfolding size_at
  at_long h k = rw (read_two s at h k) (behind s (at + 2) (4 * get_or s (at + 1) 0 + get_or s at 0) (omega arith))

-- what is read from a place on is a field and a later place, or nothing
pub data Read (s : List ℕ) (at : ℕ) : Type 0 where
  nothing : read_field (drop at s) ≡ no_field → Read s at
  something : (n next : ℕ) → at < next → next ≤ length s → read_field (drop at s) ≡ field n (drop next s) → Read s at

pub read_at : (s : List ℕ) (at : ℕ) → Read s at
read_at s at =
    by_test (leb (length s) at) (λ e. nothing (read_end s at (leb-true (length s) at e)))
    (λ e.
    let h : at < length s = leb-false (length s) at e in
    by_test (ltb (get_or s at 0) 252) (λ e₂. something (get_or s at 0) (at + 1) (omega arith) (omega arith) (read_one s at h (ltb-true (get_or s at 0) 252 e₂)))
    (λ e₂.
    let k : 252 ≤ get_or s at 0 = ltb-false (get_or s at 0) 252 e₂ in
    by_test (leb (length s) (at + 1)) (λ e₃. nothing (read-cut s at h (leb-true (length s) (at + 1) e₃) k))
    (λ e₃.
    let l : at + 1 < length s = leb-false (length s) (at + 1) e₃ in
    something (4 * get_or s (at + 1) 0 + get_or s at 0) (at + 2) (omega arith) (omega arith) (read_two s at l k))))

-- what a caller learns of a field that was found, and of one that was not
pub record Found (s : List ℕ) (at n next : ℕ) : Type 0 where
  pub later : at < next
  pub within : next ≤ length s
  pub means : read_field (drop at s) ≡ field n (drop next s)

pub whole_was : (s : List ℕ) (at n next : ℕ) → size_at s at ≡ Some (n, next) → Found s at n next
unfolding size_at
whole_was s at n next e = go (read_at s at)
  where
    go : Read s at → Found s at n next
    go (nothing r) = never (let q = rw r at e in cc)
    go (something n₂ next₂ l w r) =
        let q : placed (length s) (field n₂ (drop next₂ s)) ≡ Some (n, next) = rw r at e in
        let p = behind s next₂ n₂ w ∙ q in
        let same : n₂ ≡ n = let both : (n₂, next₂) ≡ (n, next) = cc in ap (λ (x : ℕ × ℕ). x.0) both in
        let place : next₂ ≡ next = let both : (n₂, next₂) ≡ (n, next) = cc in ap (λ (x : ℕ × ℕ). x.1) both in
        record { later = omega arith; within = omega arith; means = rw (← same, ← place) r }

pub short_was : (s : List ℕ) (at : ℕ) → size_at s at ≡ None → read_field (drop at s) ≡ no_field
unfolding size_at
short_was s at e = go (read_at s at)
  where
    go : Read s at → read_field (drop at s) ≡ no_field
    go (nothing r) = r
    go (something n next l w r) = never (let q = rw r at e in cc)

module _ (s : List ℕ) (rule : Rule) where
  pub front-short : size_at s 0 ≡ None → Err (CutShort rule) ≡ size_told rule s
  unfolding size_told
  front-short e = rw (short_was s 0 e)

  pub front_whole : (n next : ℕ) → size_at s 0 ≡ Some (n, next) → Ok (record { bytes = next; size = n }) ≡ size_told rule s
  unfolding size_told
  front_whole n next e =
      let f = whole_was s 0 n next e in
      let place : length s - length (drop next s) ≡ next = omega (arith, length-drop next s, f.within) in
      rw (f.means, place)

-- ---- the rule that the length reader is told
module _ (s : List ℕ) (told : ℕ) where
  pub told_4 : told ≡ 4 → size_told R4 s ≡ parse_size told s
  unfolding parse_size
  told_4 e = rw e

  pub told_7 : told ≡ 7 → size_told R7 s ≡ parse_size told s
  unfolding parse_size
  told_7 e = rw e

  pub told_8 : told ≡ 8 → size_told R8 s ≡ parse_size told s
  unfolding parse_size
  told_8 e = rw e

  pub told_other : (told ≡ 4 → ⊥) → (told ≡ 7 → ⊥) → (told ≡ 8 → ⊥) → Err BadArg ≡ parse_size told s
  unfolding parse_size
  told_other a b c = rw (ne_eqb told 4 a, ne_eqb told 7 b, ne_eqb told 8 c)
