-- Numbers of packets (document 02, M-107).
--     or_small                                bits of one number or another: above 1 exactly where one of the two is
--     goes, numbered_more, numbered_below     one number more, as a loop goes over them; the i-th is below i
--     Looked, looked-..                       what one pass over lengths and numbers has found of the first ones
--     after_zero, after_more, last_small      the number of the next packet
--     numbers_none, numbers_one, ..           numbers stored, as the code does
-- Assumes nothing.
use Rattle.std.proofs.Common.{◌≡◌, ℕ, zero, suc, ◌+◌, ◌-◌, ◌*◌, ◌%◌, ◌<◌, ◌≤◌, max, Bool, true, false, ◌&&◌, ◌||◌, eqb, leb, List, [], ◌∷◌, length, get_or}
use Rattle.std.proofs.Common.{take, set, replicate, sym, refl, ap, ◌∙◌, add-one, arith, length-set, take_all, eq-eqb, ne_eqb, eqb-true, le-leb, leb-false}
use Rattle.std.proofs.Common.{leb-true}
use native.Mathlib.Nat.{mod-add-mod}
use mathlib.Core.Bool.{and-true, and_assoc}
use lib.Bits.{bit_or, or_lt, or_comm, or_add_and, and_le_r}
use lib.Seq.{sets, length-sets}
use borrow.Author.Tests.{lt-leb, eqb-false}
use Rattle.laws.proofs.Never.{by_test}
use Rattle.laws.proofs.Every.{both_left, both_right}
use Rattle.opus_size.specs.Size.{most_bytes}
use Rattle.opus_format.specs.Frames.{total, longest}
use Rattle.opus_format.proofs.Lengths.{total_more, longest_more}
use Rattle.packet_numbers.specs.Numbers.{steps, numbered, number_after, excess, jump, kept_well}

-- ---- bits
or_least : (a b : ℕ) → a ≤ bit_or a b
or_least a b = omega (arith, or_add_and a b, and_le_r a b)

or_small : (a b : ℕ) → leb (bit_or a b) 1 ≡ leb a 1 && leb b 1
or_small a b =
    by_test (leb a 1)
    (λ s. by_test (leb b 1)
    (λ t. le-leb (bit_or a b) 1 (omega (arith, or_lt 1 a b (omega (arith, leb-true a 1 s)) (omega (arith, leb-true b 1 t)))) ∙ sym (rw (s, t)))
    (λ t. lt-leb (bit_or a b) 1 (omega (arith, or_least b a, or_comm a b, leb-false b 1 t)) ∙ sym (rw (s, t))))
    (λ s. lt-leb (bit_or a b) 1 (omega (arith, or_least a b, leb-false a 1 s)) ∙ sym (rw s))

-- ---- numbers, one more at a time
-- n is the number b or the next
abbrev pub goes : ℕ → ℕ → Bool
goes b n = eqb n b || eqb n (b + 1)

steps_more : (k : ℕ) (ks : List ℕ) (i : ℕ) → i < length ks
    → steps k (take (suc i) ks) ≡ steps k (take i ks) && goes (get_or (k ∷ ks) i 0) (get_or ks i 0)
steps_more k [] i h = absurd (omega arith)
steps_more k (n ∷ ns) zero h = and-true (goes k n)
steps_more k (n ∷ ns) (suc i) h =
    rw (steps_more n ns i (omega arith)) (sym (and_assoc (goes k n) (steps n (take i ns)) (goes (get_or (n ∷ ns) i 0) (get_or ns i 0))))

goes_near : (b n : ℕ) → goes b n ≡ true → n ≤ b + 1
goes_near b n g =
    by_test (eqb n b) (λ e. omega (arith, eqb-true n b e)) (λ e. omega (arith, eqb-true n (b + 1) (rw e at g)))

steps-below : (k : ℕ) (ks : List ℕ) (i : ℕ) → i ≤ length ks → steps k (take i ks) ≡ true → get_or (k ∷ ks) i 0 ≤ k + i
steps-below k ks zero h s = omega arith
steps-below k [] (suc i) h s = absurd (omega arith)
steps-below k (n ∷ ns) (suc i) h s =
    omega (
      arith,
      goes_near k n (both_left (goes k n) (steps n (take i ns)) s),
      steps-below n ns i (omega arith) (both_right (goes k n) (steps n (take i ns)) s),
    )

pub numbered_more : (ks : List ℕ) (i : ℕ) → 1 ≤ i → i < length ks
    → numbered (take (i + 1) ks) ≡ numbered (take i ks) && goes (get_or ks (i - 1) 0) (get_or ks i 0)
unfolding numbered
numbered_more [] i some h = absurd (omega arith)
numbered_more (k ∷ ks) zero some h = absurd (omega arith)
numbered_more (k ∷ ks) (suc i) some h =
    let e : suc i - 1 ≡ i = omega arith in
    rw (e, add-one, steps_more k ks i (omega arith)) (sym (and_assoc (eqb k 0) (steps k (take i ks)) (goes (get_or (k ∷ ks) i 0) (get_or ks i 0))))

pub numbered_below : (ks : List ℕ) (i : ℕ) → 1 ≤ i → i ≤ length ks → numbered (take i ks) ≡ true → get_or ks (i - 1) 0 < i
unfolding numbered
numbered_below [] i some h s = absurd (omega arith)
numbered_below (k ∷ ks) zero some h s = absurd (omega arith)
numbered_below (k ∷ ks) (suc i) some h s =
    let e : suc i - 1 ≡ i = omega arith in
    rw e (omega (
      arith,
      eqb-true k 0 (both_left (eqb k 0) (steps k (take i ks)) s),
      steps-below k ks i (omega arith) (both_right (eqb k 0) (steps k (take i ks)) s),
    ))

-- ---- one pass
jump_goes : (b k : ℕ) → b < 255 → k < 256 → leb (jump b k) 1 ≡ goes b k
jump_goes b k h l =
    by_test (eqb k b) (λ e. le-leb (jump b k) 1 (omega (arith, eqb-true k b e)) ∙ sym (rw e))
    (λ e. by_test (eqb k (b + 1)) (λ f. le-leb (jump b k) 1 (omega (arith, eqb-true k (b + 1) f)) ∙ sym (rw (e, f)))
    (λ f. lt-leb (jump b k) 1 (omega (arith, eqb-false k b e, eqb-false k (b + 1) f)) ∙ sym (rw (e, f))))

excess_small : (n : ℕ) → leb (excess n) 1 ≡ leb n most_bytes
excess_small n =
    by_test (leb n most_bytes) (λ t. le-leb (excess n) 1 (omega (arith, leb-true n most_bytes t)) ∙ sym t)
    (λ t. lt-leb (excess n) 1 (omega (arith, leb-false n most_bytes t)) ∙ sym t)

max_small : (a b m : ℕ) → leb (max a b) m ≡ leb a m && leb b m
max_small a b m =
    by_test (leb a m)
    (λ s. by_test (leb b m) (λ t. le-leb (max a b) m (omega (arith, leb-true a m s, leb-true b m t)) ∙ sym (rw (s, t)))
    (λ t. lt-leb (max a b) m (omega (arith, leb-false b m t)) ∙ sym (rw (s, t))))
    (λ s. lt-leb (max a b) m (omega (arith, leb-false a m s)) ∙ sym (rw s))

-- where the numbers so far are sound, a jump is a step
sorted : (small sound long step goes : Bool) → (sound ≡ true → step ≡ goes)
    → ((small && sound) && long) && step ≡ (small && long) && (sound && goes)
sorted true true true step goes f = f refl
sorted true true false step goes f = refl
sorted true false true step goes f = refl
sorted true false false step goes f = refl
sorted false sound long step goes f = refl

pub record Looked (ns ks : List ℕ) (sum wrong i : ℕ) : Type 0 where
  pub some : 1 ≤ i
  pub within : i ≤ length ns
  pub sum_is : sum ≡ total (take i ns) % 65536
  pub wrong_is : leb wrong 1 ≡ kept_well (take i ns) (take i ks)

begins_small : (k : ℕ) → leb (k * 2) 1 ≡ eqb k 0
begins_small k =
    by_test (eqb k 0) (λ e. le-leb (k * 2) 1 (omega (arith, eqb-true k 0 e)) ∙ sym e)
    (λ e. lt-leb (k * 2) 1 (omega (arith, eqb-false k 0 e)) ∙ sym e)

first_well : (n k : ℕ) → leb (bit_or (excess n) (k * 2)) 1 ≡ kept_well (n ∷ []) (k ∷ [])
unfolding numbered
first_well n k =
    let long : max n 0 ≡ n = omega arith in
    rw (or_small (excess n) (k * 2), excess_small n, begins_small k, long, and-true (eqb k 0))

pub looked_first : (ns ks : List ℕ) → 1 ≤ length ns → length ks ≡ length ns → get_or ns 0 0 < 65536 → {e k : ℕ} → e ≡ excess (get_or ns 0 0)
    → k ≡ get_or ks 0 0 * 2 → Looked ns ks (get_or ns 0 0) (bit_or e k) 1
looked_first [] ks h l m p q = absurd (omega arith)
looked_first (n ∷ ns) [] h l m p q = absurd (omega arith)
looked_first (n ∷ ns) (k ∷ ks) h l m p q =
    record { some = omega arith; within = h; sum_is = omega arith; wrong_is = rw (p, q) (first_well n k) }

module _ (ns ks : List ℕ) (few : length ns ≤ 48) (same : length ks ≡ length ns) where
  pub looked_more : {sum wrong i : ℕ} → Looked ns ks sum wrong i → i < length ns → get_or ks i 0 < 256 → {sum' e j : ℕ}
      → sum' ≡ (sum + get_or ns i 0) % 65536 → e ≡ excess (get_or ns i 0) → j ≡ jump (get_or ks (i - 1) 0) (get_or ks i 0)
      → Looked ns ks sum' (bit_or (bit_or wrong e) j) (i + 1)
  looked_more {sum} {wrong} {i} c h byte s p q =
      record {
        some = omega arith;
        within = omega arith;
        sum_is = rw (total_more ns i h, ← mod-add-mod (total (take i ns)) 65536 (get_or ns i 0), ← c.sum_is) s;
        wrong_is =
            let n = get_or ns i 0 in
            let b = get_or ks (i - 1) 0 in
            let k = get_or ks i 0 in
            rw (
              p,
              q,
              or_small (bit_or wrong (excess n)) (jump b k),
              or_small wrong (excess n),
              excess_small n,
              c.wrong_is,
              longest_more ns i h,
              max_small (longest (take i ns)) n most_bytes,
              numbered_more ks i c.some (omega (arith, same)),
            )
            (sorted (leb (longest (take i ns)) most_bytes) (numbered (take i ks)) (leb n most_bytes) (leb (jump b k) 1) (goes b k)
            (λ r. jump_goes b k (omega (arith, numbered_below ks i c.some (omega (arith, c.within, same)) r)) byte));
      }

  pub looked_all : {sum wrong i : ℕ} → Looked ns ks sum wrong i → length ns ≤ i
      → (sum ≡ total ns % 65536) × (leb wrong 1 ≡ kept_well ns ks)
  looked_all {sum} {wrong} {i} c h =
      (rw (take_all i ns h) at c.sum_is, rw (take_all i ns h, take_all i ks (omega (arith, same))) at c.wrong_is)

-- ---- the next number
pub after_zero : (packet : List ℕ) (n : ℕ) → n ≡ 0 → 0 ≡ number_after packet n
after_zero packet n e = rw (eq-eqb n 0 e)

pub after_more : (packet : List ℕ) (n : ℕ) → (n ≡ 0 → ⊥) → get_or packet (n - 1) 0 + 1 ≡ number_after packet n
after_more packet n z = rw (ne_eqb n 0 z)

-- that of the last frame of sound numbers can be counted up
pub last_small : (packet : List ℕ) (n : ℕ) → n ≤ length packet → n ≤ 48 → numbered (take n packet) ≡ true → 1 ≤ n
    → get_or packet (n - 1) 0 < 255
last_small packet n l few s some = omega (arith, numbered_below packet n some l s)

-- ---- numbers stored, as the code does
module _ (packet : List ℕ) (at end k : ℕ) where
  pub numbers_none : end ≤ at → packet ≡ sets packet at (replicate (end - at) k)
  numbers_none h = let e : end - at ≡ 0 = omega arith in rw e

  pub numbers_one : at < end → end ≤ at + 1 → set packet at k ≡ sets packet at (replicate (end - at) k)
  numbers_one h g = let e : end - at ≡ 1 = omega arith in rw e

  pub numbers_many : at < end → sets (set packet at k) (at + 1) (replicate (end - (at + 1)) k) ≡ sets packet at (replicate (end - at) k)
  numbers_many h = let e : end - at ≡ suc (end - (at + 1)) = omega arith in rw (e, add-one)

  pub numbers_length : {l : List ℕ} → l ≡ sets (set packet at k) (at + 1) (replicate (end - (at + 1)) k) → length l ≡ length packet
  numbers_length e = ap length e ∙ (length-sets (set packet at k) (at + 1) (replicate (end - (at + 1)) k) ∙ length-set packet at k)

  -- with the number that the code found
  pub numbers_as : {k' : ℕ} {l : List ℕ} → k ≡ k' → l ≡ sets packet at (replicate (end - at) k)
      → l ≡ sets packet at (replicate (end - at) k')
  numbers_as e q = rw (← e) q
