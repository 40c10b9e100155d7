-- Dirt looked for by words of eight bytes.
--     Seen, seen_none, seen_more, seen_all                  the first bytes of a word, as a loop goes over them
--     Passed, passed_none, passed_more, passed_dirty        the words passed, of which none is dirty, and one that is
--     passed_last                                           the last word, which may overlap the one before it
-- Assumes nothing.
use Prim.Native.Nat.{ℕ, ◌+◌, ◌-◌, ◌≤◌, ◌<◌, max}
use native.Mathlib.Omega.{arith}
use mathlib.Core.Path.{◌≡◌, refl, sym, ap, ◌∙◌}
use mathlib.Core.List.{List}
use mathlib.Core.Bool.{Bool, true, false, cond}
use lib.Dec.{eqb}
use lib.ListN.{length, get_or, take, drop, length-drop, take-append-drop}
use lib.Seq.{take_all, take-add}
use borrow.Author.Tests.{eq-eqb, ne_eqb, eqb-true, eqb-false}
use Rattle.laws.proofs.Never.{never, by_test}
use Rattle.opus_format.specs.Frames.{longest}
use Rattle.opus_format.specs.Dirt.{dirty}
use Rattle.opus_format.proofs.Lengths.{longest_more, longest-take, longest-append}
use Rattle.opus_format.proofs.Dirt.{dirty_most}

-- ---- dirt by the largest byte
module _ (s : List ℕ) where
  some_dirty : (longest s ≡ 0 → ⊥) → dirty s ≡ true
  some_dirty n = rw (dirty_most s, ne_eqb (longest s) 0 n)

  none-dirty : longest s ≡ 0 → dirty s ≡ false
  none-dirty e = rw (dirty_most s, eq-eqb (longest s) 0 e)

  clean_none : dirty s ≡ false → longest s ≡ 0
  clean_none d =
      by_test (eqb (longest s) 0) (λ t. eqb-true (longest s) 0 t)
      (λ t. never (let e = some_dirty (eqb-false (longest s) 0 t) in cc))

  dirty_some : dirty s ≡ true → longest s ≡ 0 → ⊥
  dirty_some d e = never (let c = none-dirty e in cc)

-- ---- a word
-- the first i bytes
pub record Seen (s : List ℕ) (dirt : Bool) (i : ℕ) : Type 0 where
  pub within : i ≤ length s
  pub dirt_is : dirt ≡ dirty (take i s)

pub seen_none : (s : List ℕ) → Seen s false 0
seen_none s = record { within = omega arith; dirt_is = refl }

dirty_more : (s : List ℕ) (i : ℕ) → i < length s → dirty (take (i + 1) s) ≡ cond (eqb (get_or s i 0) 0) (dirty (take i s)) true
dirty_more s i h =
    let a = get_or s i 0 in
    let most = longest (take i s) in
    by_test (eqb a 0)
    (λ t. let same : max most a ≡ most = omega (arith, eqb-true a 0 t) in
    rw (dirty_most (take (i + 1) s), longest_more s i h, same, t) (sym (dirty_most (take i s))))
    (λ t. let more : longest (take (i + 1) s) ≡ 0 → ⊥ = λ m. eqb-false a 0 t (omega (arith, m, longest_more s i h)) in
    rw t (some_dirty (take (i + 1) s) more))

pub seen_more : (s : List ℕ) (dirt : Bool) (i : ℕ) (dirt' : Bool) → Seen s dirt i → i < length s → dirt' ≡ cond (eqb (get_or s i 0) 0) dirt true
    → Seen s dirt' (i + 1)
seen_more s dirt i dirt' m h a = record { within = omega arith; dirt_is = rw (dirty_more s i h, ← m.dirt_is) a }

pub seen_all : (s : List ℕ) (dirt : Bool) (i : ℕ) → Seen s dirt i → length s ≤ i → dirt ≡ dirty s
seen_all s dirt i m h = rw (take_all i s h) at m.dirt_is

-- ---- words
-- no dirt in the first i bytes
pub record Passed (s : List ℕ) (i : ℕ) : Type 0 where
  pub within : i ≤ length s
  pub clean : longest (take i s) ≡ 0

pub passed_none : (s : List ℕ) → Passed s 0
passed_none s = record { within = omega arith; clean = refl }

-- the bytes up to i, and those behind
module _ (s : List ℕ) (i : ℕ) where
  parts : (e : ℕ) → i ≤ e → longest (take e s) ≡ max (longest (take i s)) (longest (take (e - i) (drop i s)))
  parts e h =
      let sum : i + (e - i) ≡ e = omega arith in
      rw sum at (ap longest (take-add i (e - i) s) ∙ longest-append (take i s) (take (e - i) (drop i s)))

  whole : longest s ≡ max (longest (take i s)) (longest (drop i s))
  whole = ap longest (sym (take-append-drop i s)) ∙ longest-append (take i s) (drop i s)

pub passed_more : (s : List ℕ) (i e : ℕ) → Passed s i → i ≤ e → e ≤ length s → dirty (take (e - i) (drop i s)) ≡ false → Passed s e
passed_more s i e m h k d = record { within = k; clean = omega (arith, parts s i e h, m.clean, clean_none (take (e - i) (drop i s)) d) }

pub passed_dirty : (s : List ℕ) (i n : ℕ) → dirty (take n (drop i s)) ≡ true → true ≡ dirty s
passed_dirty s i n d =
    sym (some_dirty s (λ z. dirty_some (take n (drop i s)) d (omega (arith, z, whole s i, longest-take (drop i s) n))))

pub passed_last : (s : List ℕ) (i : ℕ) → Passed s i → (last : ℕ) → last ≤ i → {d : Bool}
    → d ≡ dirty (take (length s - last) (drop last s)) → d ≡ dirty s
passed_last s i m last h e =
    let same : longest s ≡ longest (drop last s) = omega (arith, whole s last, parts s last i h, m.clean) in
    let is : dirty (drop last s) ≡ dirty s = rw (dirty_most (drop last s), dirty_most s, same) in
    rw (take_all (length s - last) (drop last s) (omega (arith, length-drop last s))) at e ∙ is
