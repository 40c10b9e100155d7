-- The reader looks at no more than 277 bytes: of longer bytes the front is read as the whole.
--     front_read     the header at the front of s, where n bytes of it are taken
-- Assumes nothing.
use Prim.Native.Nat.{ℕ, zero, suc, ◌+◌, ◌-◌, ◌≤◌, ◌<◌}
use native.Mathlib.Omega.{arith}
use mathlib.Core.Path.{◌≡◌, refl, sym, ap, ◌∙◌}
use mathlib.Core.List.{List, [], ◌∷◌}
use mathlib.Core.Bool.{◌&&◌}
use lib.Dec.{eqb, ltb}
use lib.ListN.{length, take, drop, get_or}
use lib.Seq.{length-take-le, take_all, take-take, get_or-take}
use borrow.Author.Tests.{ltb-true, ltb-false, le-leb, ne_eqb}
use Rattle.laws.specs.Bytes.{Bytes}
use Rattle.laws.proofs.Never.{by_test}
use Rattle.blocks.proofs.Sets.{drop-take}
use Rattle.opus_head.specs.Header.{letters}
use Rattle.opus_head.specs.Reading.{begins, needed, long_as, head_of, head_read}
use Rattle.opus_head.specs.Parts.{checked}
use Rattle.opus_head.proofs.Answered.{read_letters, read-version, read_length, read_fields_lem}

begins-front : (cs : List ℕ) (n : ℕ) (s : List ℕ) → length cs ≤ n → begins cs (take n s) ≡ begins cs s
begins-front [] n s h = refl
begins-front (c ∷ cs) zero s h = absurd (omega arith)
begins-front (c ∷ cs) (suc n) [] h = refl
begins-front (c ∷ cs) (suc n) (b ∷ s) h = ap (λ x. eqb b c && x) (begins-front cs n s (omega arith))

-- a length above what any header needs
long_as_lem : (version n m need : ℕ) → need < 277 → 277 ≤ n → 277 ≤ m → long_as version n need ≡ long_as version m need
long_as_lem version n m need h k l =
    rw (ne_eqb n need (λ e. absurd (omega arith)), ne_eqb m need (λ e. absurd (omega arith)), le-leb need n (omega arith), le-leb need m (omega arith))

module _ (s : List ℕ) (bytes : Bytes s) (n : ℕ) (front : 277 ≤ n) where
  byte : (i : ℕ) → i < 277 → get_or (take n s) i 0 ≡ get_or s i 0
  byte i h = get_or-take n s i 0 (omega arith)

  part : (at k : ℕ) → at + k < 277 → take k (drop at (take n s)) ≡ take k (drop at s)
  part at k h = ap (take k) (drop-take at n s) ∙ take-take k (n - at) (drop at s) (omega arith)

  few : needed s < 277
  few = by_test (eqb (get_or s 18 0) 0) (λ t. rw t (omega arith)) (λ t. rw t (omega (arith, bytes.byte 9)))

  same_need : needed (take n s) ≡ needed s
  same_need = rw (byte 18 (omega arith), byte 9 (omega arith))

  same_fields : head_of (take n s) ≡ head_of s
  same_fields =
      rw (
        byte 8 (omega arith),
        byte 9 (omega arith),
        byte 18 (omega arith),
        byte 19 (omega arith),
        byte 20 (omega arith),
        part 10 2 (omega arith),
        part 12 4 (omega arith),
        part 16 2 (omega arith),
        part 21 (get_or s 9 0) (omega (arith, bytes.byte 9)),
      )

  module _ (more : n < length s) where
    long : length (take n s) ≡ n
    long = length-take-le n s (omega arith)

    same-letters : begins letters (take n s) ≡ begins letters s
    same-letters = begins-front letters n s (omega arith)

    same_long : long_as (get_or (take n s) 8 0) (length (take n s)) (needed (take n s)) ≡ long_as (get_or s 8 0) (length s) (needed s)
    same_long = rw (byte 8 (omega arith), same_need, long) (long_as_lem (get_or s 8 0) n (length s) (needed s) few front (omega arith))

    least : 19 ≤ length (take n s)
    least = omega (arith, long)

    front_longer : head_read (take n s) ≡ head_read s
    front_longer =
        by_test (begins letters s)
        (λ b.
        let b' = same-letters ∙ b in
        by_test (ltb 15 (get_or s 8 0))
        (λ v.
        let w = ltb-true 15 (get_or s 8 0) v in
        read-version (take n s) least b' (omega (arith, w, byte 8 (omega arith))) ∙ sym (read-version s (omega arith) b w))
        (λ v.
        let w = ltb-false 15 (get_or s 8 0) v in
        let w' : get_or (take n s) 8 0 ≤ 15 = rw (byte 8 (omega arith)) w in
        by_test (long_as (get_or s 8 0) (length s) (needed s))
        (λ l.
        read_fields_lem (take n s) least b' w' (same_long ∙ l) ∙ (ap checked same_fields ∙ sym (read_fields_lem s (omega arith) b w l)))
        (λ l. read_length (take n s) least b' w' (same_long ∙ l) ∙ sym (read_length s (omega arith) b w l))))
        (λ b. read_letters (take n s) least (same-letters ∙ b) ∙ sym (read_letters s (omega arith) b))

  pub front_read : head_read (take n s) ≡ head_read s
  front_read = by_test (ltb n (length s)) (λ t. front_longer (ltb-true n (length s) t)) (λ t. ap head_read (take_all n s (ltb-false n (length s) t)))
