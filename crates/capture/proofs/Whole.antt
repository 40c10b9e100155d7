-- The pieces of the answers join to the capture from the start on: each byte once.
-- Assumes nothing.
use mathlib.Core.Path.{◌≡◌}
use mathlib.Core.List.{List, [], ◌∷◌, ◌++◌, append_assoc}
use Prim.Native.Nat.{ℕ, ◌+◌, ◌≤◌}
use native.Mathlib.Nat.{add-zero}
use native.Mathlib.Omega.{arith}
use lib.ListN.{length, take, drop, take-append-drop}
use lib.Seq.{drop-drop, drop-length}
use Rattle.capture.specs.declared.NextRecord.{NextRecord}
use Rattle.capture.specs.Finding.{next_record}
use Rattle.capture.specs.Reading.{record_bytes, behind, readings, pieces, joined}
use Rattle.capture.proofs.Answers.{no_bytes, next_place, next_passed, next-begins, next_end}
use Rattle.capture.proofs.Steps.{reading_induction}

-- two parts, one behind the other, and what is behind both
two_parts : (s : List ℕ) (at n m place : ℕ) → place ≡ at + n → take n (drop at s) ++ take m (drop place s) ++ drop (place + m) s ≡ drop at s
two_parts s at n m place e =
    rw (e, append_assoc, ← drop-drop m (at + n) s, take-append-drop, ← drop-drop n at s) (take-append-drop n (drop at s))

module _ (s : List ℕ) (at : ℕ) (h : at ≤ length s) where
  front : pieces s (next_record s at) ++ drop (behind (next_record s at)) s ≡ drop at s
  unfolding pieces
  front =
      let a = next_record s at in
      rw (next-begins s at h) (two_parts s at a.passed (record_bytes a) a.place (omega (arith, next_place s at h, next_passed s at h)))

  nothing-behind : (next_record s at).length ≡ 0 → drop (behind (next_record s at)) s ≡ []
  nothing-behind z = rw (no_bytes (next_record s at) z, add-zero, next_end s at h z) (drop-length s)

  join_end : (next_record s at).length ≡ 0 → joined s (next_record s at ∷ []) ≡ drop at s
  unfolding joined
  join_end z = rw (nothing-behind z) at front

  join_on : (more : List NextRecord) → joined s more ≡ drop (behind (next_record s at)) s → joined s (next_record s at ∷ more) ≡ drop at s
  unfolding joined
  join_on more e = rw e front

pub join_from : (s : List ℕ) (at : ℕ) → at ≤ length s → joined s (readings s at) ≡ drop at s
join_from s =
    reading_induction s (λ at r. joined s r ≡ drop at s) (join_end s) (λ at h f. join_on s at h (readings s (behind (next_record s at))))
