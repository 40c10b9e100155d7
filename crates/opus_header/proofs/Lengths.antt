-- Lengths of frames: all but the last and the last, and lengths that are all the same.
--     firsts-last, firsts_whole, firsts_count, firsts_snoc, last_snoc     all but the last, and the last
--     firsts-take, last_at, last_most                                     the same by places
--     same-replicate, replicate-same, replicate-last                      lengths that are all the same
--     same-all, all_agree, all_differ                                     one length more that agrees, or does not
-- Assumes nothing.
use Prim.Native.Nat.{ℕ, zero, suc, ◌-◌, ◌≤◌}
use native.Mathlib.Omega.{arith}
use mathlib.Core.Path.{◌≡◌, refl, ap, sym, subst}
use mathlib.Core.List.{List, [], ◌∷◌, ◌++◌}
use mathlib.Core.Bool.{true, false}
use lib.Dec.{eqb}
use lib.ListN.{length, replicate, get_or, take, length-append}
use borrow.Author.Tests.{eqb-true, eq-eqb, ne_eqb}
use Rattle.laws.proofs.Never.{by_test}
use Rattle.laws.proofs.Every.{both_left, both_right}
use Rattle.opus_format.specs.Frames.{longest}
use Rattle.opus_format.proofs.Lengths.{longest_at}
use Rattle.opus_header.specs.Header.{all_are, same, firsts, last}

-- ---- all but the last, and the last
firsts-last : (n : ℕ) (ns : List ℕ) → firsts (n ∷ ns) ++ (last (n ∷ ns) ∷ []) ≡ n ∷ ns
firsts-last n [] = refl
firsts-last n (m ∷ ns) = rw (firsts-last m ns)

pub firsts_whole : (ns : List ℕ) → 1 ≤ length ns → firsts ns ++ (last ns ∷ []) ≡ ns
firsts_whole [] h = absurd (omega arith)
firsts_whole (n ∷ ns) h = firsts-last n ns

pub firsts_count : (ns : List ℕ) → 1 ≤ length ns → suc (length (firsts ns)) ≡ length ns
firsts_count ns h = omega (arith, simp length-append at (ap length (firsts_whole ns h)))

pub firsts_snoc : (ns : List ℕ) (n : ℕ) → firsts (ns ++ (n ∷ [])) ≡ ns
firsts_snoc [] n = refl
firsts_snoc (m ∷ []) n = refl
firsts_snoc (m ∷ k ∷ ns) n = rw (firsts_snoc (k ∷ ns) n)

pub last_snoc : (ns : List ℕ) (n : ℕ) → last (ns ++ (n ∷ [])) ≡ n
last_snoc [] n = refl
last_snoc (m ∷ []) n = refl
last_snoc (m ∷ k ∷ ns) n = last_snoc (k ∷ ns) n

-- ---- the same by places
pub firsts-take : (ns : List ℕ) → take (length ns - 1) ns ≡ firsts ns
firsts-take [] = refl
firsts-take (n ∷ []) = refl
firsts-take (n ∷ m ∷ ns) =
    let e : length (n ∷ m ∷ ns) - 1 ≡ suc (length (m ∷ ns) - 1) = omega arith in
    rw (e, firsts-take (m ∷ ns))

pub last_at : (ns : List ℕ) → get_or ns (length ns - 1) 0 ≡ last ns
last_at [] = refl
last_at (n ∷ []) = refl
last_at (n ∷ m ∷ ns) =
    let e : length (n ∷ m ∷ ns) - 1 ≡ suc (length (m ∷ ns) - 1) = omega arith in
    rw e (last_at (m ∷ ns))

pub last_most : (ns : List ℕ) → 1 ≤ length ns → last ns ≤ longest ns
last_most ns h = omega (arith, last_at ns, longest_at ns (length ns - 1) (omega arith))

-- ---- lengths that are all the same
all_replicate : (n : ℕ) (ns : List ℕ) → all_are n ns ≡ true → ns ≡ replicate (length ns) n
all_replicate n [] e = refl
all_replicate n (m ∷ ns) e =
    let first : m ≡ n = eqb-true m n (both_left (eqb m n) (all_are n ns) e) in
    cc (all_replicate n ns (both_right (eqb m n) (all_are n ns) e))

all-last : (n : ℕ) (ns : List ℕ) → all_are n ns ≡ true → last (n ∷ ns) ≡ n
all-last n [] e = refl
all-last n (m ∷ ns) e =
    let first : m ≡ n = eqb-true m n (both_left (eqb m n) (all_are n ns) e) in
    subst (λ (k : ℕ). last (k ∷ ns) ≡ n) (sym first) (all-last n ns (both_right (eqb m n) (all_are n ns) e))

pub same-replicate : (ns : List ℕ) → same ns ≡ true → ns ≡ replicate (length ns) (last ns)
same-replicate [] e = refl
same-replicate (n ∷ ns) e = rw (all-last n ns e) (ap (λ (ms : List ℕ). n ∷ ms) (all_replicate n ns e))

replicate-all : (count n : ℕ) → all_are n (replicate count n) ≡ true
replicate-all zero n = refl
replicate-all (suc count) n = rw (eq-eqb n n refl) (replicate-all count n)

pub replicate-same : (count n : ℕ) → same (replicate (suc count) n) ≡ true
replicate-same count n = replicate-all count n

pub replicate-last : (count n : ℕ) → last (replicate (suc count) n) ≡ n
replicate-last count n = all-last n (replicate count n) (replicate-all count n)

-- ---- one length more that agrees, or does not
pub same-all : (ns : List ℕ) → all_are (get_or ns 0 0) ns ≡ same ns
same-all [] = refl
same-all (n ∷ ns) = rw (eq-eqb n n refl)

pub all_agree : (n : ℕ) (ns : List ℕ) (m : ℕ) → m ≡ n → all_are n (ns ++ (m ∷ [])) ≡ all_are n ns
all_agree n [] m e = rw (eq-eqb m n e)
all_agree n (k ∷ ns) m e = rw (all_agree n ns m e)

pub all_differ : (n : ℕ) (ns : List ℕ) (m : ℕ) → (m ≡ n → ⊥) → all_are n (ns ++ (m ∷ [])) ≡ false
all_differ n [] m d = rw (ne_eqb m n d)
all_differ n (k ∷ ns) m d = rw (all_differ n ns m d) (by_test (eqb k n) (λ e. rw e) (λ e. rw e))
