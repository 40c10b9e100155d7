-- The lengths that a call in place is given, by the tests of the code.
--     length_none, length_over, length_most, length_is     what `length_of` answers
--     length-told, lengths-told                            what a caller of them knows
--     length-within, length_own                            a length that is not 0, and one that is within
--     length_outside, ..-outside                           one that is not
--     lengths-.., more_within                              what `lengths_of` answers, and what is known of lengths to pad
-- Assumes nothing.
use Prim.Native.Nat.{ℕ, ◌≤◌, ◌<◌}
use native.Mathlib.Omega.{arith}
use mathlib.Core.Path.{◌≡◌, refl, sym, ◌∙◌}
use mathlib.Core.List.{List}
use mathlib.Core.Bool.{◌||◌}
use lib.Dec.{ltb, eqb}
use lib.IntN.{ℤ, pos, negsuc}
use lib.ListN.{length}
use mathlib.Core.Logic.{inl, inr}
use mir.Syntax.{w32}
use mir.Val.{to_z, of_z, SFits}
use mir.ValLaws.{to_z-of_z}
use borrow.Author.Tests.{ltb-false, lt-ltb, le-ltb, eq-eqb, ne_eqb, eqb-true, eqb-false}
use Rattle.laws.proofs.Never.{never, by_test}
use Rattle.opus_defines.specs.Numbers.{count_of}
use Rattle.std.specs.Prelude.{None, Some}
use Rattle.opus_defines.proofs.Counts.{is_natural}
use Rattle.packet_pad.specs.Lengths.{length_of, Outside, lengths_by, lengths_of}
use Rattle.packet_pad.specs.declared.lengths.Lengths.{Lengths}
use Rattle.packet_pad.specs.declared.lengths.Lengths.TheVariants.{Bad, Same, More}

-- a call is passed the bits of the number
pub length-told : (s : List ℕ) (x : ℤ) → SFits w32 x → {n : ℕ} → n ≡ length_of s (to_z w32 (of_z w32 x)) → length_of s x ≡ n
length-told s x f e = sym (rw (to_z-of_z w32 x f) at e)

pub length_none : (s : List ℕ) (x : ℤ) → count_of x ≡ None → 0 ≡ length_of s x
length_none s (pos n) e = never (cc)
length_none s (negsuc n) e = refl

module _ (s : List ℕ) (x : ℤ) (n : ℕ) (e : count_of x ≡ Some n) where
  pub length_over : length s < n → 0 ≡ length_of s x
  length_over h = rw (is_natural x n e, lt-ltb (length s) n h)

  pub length_most : n ≤ length s → 65535 < n → 0 ≡ length_of s x
  length_most h k = rw (is_natural x n e, le-ltb (length s) n h, lt-ltb 65535 n k)

  pub length_is : n ≤ length s → n ≤ 65535 → n ≡ length_of s x
  length_is h k = rw (is_natural x n e, le-ltb (length s) n h, le-ltb 65535 n k)

pub length_own : (s : List ℕ) (n : ℕ) → n ≤ length s → n ≤ 65535 → length_of s (pos n) ≡ n
length_own s n h k = sym (length_is s (pos n) n refl h k)

pub length-within : (s : List ℕ) (x : ℤ) → (length_of s x ≤ length s) × (length_of s x ≤ 65535)
length-within s (negsuc n) = (omega arith, omega arith)
length-within s (pos n) =
    by_test (ltb (length s) n) (λ t. rw t (omega arith, omega arith))
    (λ t. by_test (ltb 65535 n) (λ u. rw (t, u) (omega arith, omega arith)) (λ u. rw (t, u) (ltb-false (length s) n t, ltb-false 65535 n u)))

pub length_outside : (s : List ℕ) (x : ℤ) → Outside s x → length_of s x ≡ 0
length_outside s (negsuc n) o = refl
length_outside s (pos n) (inl e) = by_test (ltb (length s) n || ltb 65535 n) (λ t. rw t) (λ t. rw t e)
length_outside s (pos n) (inr (inl h)) = rw (lt-ltb (length s) n h)
length_outside s (pos n) (inr (inr h)) = by_test (ltb (length s) n) (λ t. rw t) (λ t. rw (t, lt-ltb 65535 n h))

-- ---- two lengths
module _ (n m : ℕ) where
  pub lengths_none : n ≡ 0 → Bad ≡ lengths_by n m
  lengths_none e = rw e

  module _ (z : n ≡ 0 → ⊥) where
    pub lengths_no_new : m ≡ 0 → Bad ≡ lengths_by n m
    lengths_no_new e = rw (ne_eqb n 0 z, e)

    module _ (y : m ≡ 0 → ⊥) where
      pub lengths-same : n ≡ m → Same ≡ lengths_by n m
      lengths-same e = rw (ne_eqb n 0 z, ne_eqb m 0 y, eq-eqb n m e)

      module _ (x : n ≡ m → ⊥) where
        pub lengths_less : m < n → Bad ≡ lengths_by n m
        lengths_less h = rw (ne_eqb n 0 z, ne_eqb m 0 y, ne_eqb n m x, lt-ltb m n h)

        pub lengths_more : n ≤ m → More n m ≡ lengths_by n m
        lengths_more h = rw (ne_eqb n 0 z, ne_eqb m 0 y, ne_eqb n m x, le-ltb m n h)

-- what `lengths_of` answers, from what `length_of` answered of each
pub lengths_are : (s : List ℕ) (x y : ℤ) {n m : ℕ} {l : Lengths} → length_of s x ≡ n → length_of s y ≡ m → l ≡ lengths_by n m
    → l ≡ lengths_of s x y
unfolding lengths_of
lengths_are s x y a b e = rw (a, b) e

pub lengths-told : (s : List ℕ) (x y : ℤ) → SFits w32 x → SFits w32 y
    → {l k : Lengths} → l ≡ lengths_of s (to_z w32 (of_z w32 x)) (to_z w32 (of_z w32 y)) → l ≡ k → lengths_of s x y ≡ k
lengths-told s x y f g e t = sym (rw (to_z-of_z w32 x f, to_z-of_z w32 y g) at e) ∙ t

more_by : (a b n m : ℕ) → lengths_by a b ≡ More n m → (a ≡ n) × (b ≡ m) × (1 ≤ a) × (a < b)
more_by a b n m e =
    by_test (eqb a 0) (λ t. never (let q = rw t at e in cc))
    (λ t. by_test (eqb b 0) (λ u. never (let q = rw (t, u) at e in cc))
    (λ u. by_test (eqb a b) (λ v. never (let q = rw (t, u, v) at e in cc))
    (λ v. by_test (ltb b a) (λ w. never (let q = rw (t, u, v, w) at e in cc))
    (λ w.
    let q = rw (t, u, v, w) at e in
    let first : a ≡ n = cc in
    let second : b ≡ m = cc in
    let some = eqb-false a 0 t in
    let other = eqb-false a b v in
    (first, second, omega arith, omega (arith, ltb-false b a w))))))

pub more_is : (s : List ℕ) (x y : ℤ) (n m : ℕ) → lengths_of s x y ≡ More n m → length_of s x ≡ n
unfolding lengths_of
more_is s x y n m e = (more_by (length_of s x) (length_of s y) n m e).0

pub more_within : (s : List ℕ) (x y : ℤ) (n m : ℕ) → lengths_of s x y ≡ More n m → (1 ≤ n) × (n < m) × (m ≤ length s) × (m ≤ 65535)
unfolding lengths_of
more_within s x y n m e =
    let q = more_by (length_of s x) (length_of s y) n m e in
    let w = length-within s y in
    (omega (arith, q), omega (arith, q), omega (arith, q, w), omega (arith, q, w))

pub lengths_own : (s : List ℕ) (n m : ℕ) → 1 ≤ n → n < m → m ≤ length s → m ≤ 65535 → lengths_of s (pos n) (pos m) ≡ More n m
unfolding lengths_of
lengths_own s n m some h room short =
    rw (length_own s n (omega arith) (omega arith), length_own s m room short)
    (sym (lengths_more n m (λ e. omega arith) (λ e. omega arith) (λ e. omega arith) (omega arith)))

pub lengths-equal : (s : List ℕ) (n : ℕ) → 1 ≤ n → n ≤ length s → n ≤ 65535 → lengths_of s (pos n) (pos n) ≡ Same
unfolding lengths_of
lengths-equal s n some room short = rw (length_own s n room short) (sym (lengths-same n n (λ e. omega arith) (λ e. omega arith) refl))

-- either of two lengths
module _ (s : List ℕ) (x y : ℤ) where
  pub first_outside : Outside s x → lengths_of s x y ≡ Bad
  unfolding lengths_of
  first_outside o = sym (lengths_none (length_of s x) (length_of s y) (length_outside s x o))

  pub new_outside : Outside s y → lengths_of s x y ≡ Bad
  unfolding lengths_of
  new_outside o =
      let z = length_outside s y o in
      by_test (eqb (length_of s x) 0)
      (λ t. sym (lengths_none (length_of s x) (length_of s y) (eqb-true (length_of s x) 0 t)))
      (λ t. sym (lengths_no_new (length_of s x) (length_of s y) (eqb-false (length_of s x) 0 t) z))

-- ---- what proves `lengths_of`
pub ruleset lengths_by_tests = (length-told, lengths_are, lengths_none, lengths_no_new, lengths-same, lengths_less, lengths_more)
