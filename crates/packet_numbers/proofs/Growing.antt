-- Sound numbers of packets: from the first on, and more behind others.
--     none-numbered, numbered-steps, numbered_first     no number is sound, and from 0 on others go by 0 or 1
--     put_numbers_lem        so many times a number stored behind others
--     numbered_grown     the next number, so many times, behind sound ones is sound
--     after_grown        and the number behind them is one more
-- Assumes nothing.
use Rattle.std.proofs.Common.{◌≡◌, ℕ, zero, suc, ◌+◌, ◌-◌, ◌≤◌, true, eqb, List, [], ◌∷◌, ◌++◌, length, get_or, take, replicate, sym, refl, ◌∙◌, zero-add}
use Rattle.std.proofs.Common.{arith, length-take-le, get_or-take, eq-eqb, ne_eqb, eqb-true}
use lib.ListN.{length-replicate, get_or-replicate}
use lib.Seq.{sets}
use Rattle.laws.proofs.Never.{by_test}
use Rattle.laws.proofs.Every.{both_left, both_right}
use Rattle.packet_numbers.specs.Numbers.{steps, numbered, number_after}
use Rattle.packet_numbers.proofs.Numbering.{goes}
use Rattle.blocks.proofs.Sets.{take-sets_at}

-- ---- from the first on
pub none-numbered : numbered [] ≡ true
unfolding numbered
none-numbered = refl

pub numbered-steps : (ks : List ℕ) → numbered ks ≡ true → steps 0 ks ≡ true
unfolding numbered
numbered-steps [] s = refl
numbered-steps (k ∷ ks) s = let z = both_left (eqb k 0) (steps k ks) s in rw (z, both_right (eqb k 0) (steps k ks) s)

pub numbered_first : (k : ℕ) (ks : List ℕ) → numbered (k ∷ ks) ≡ true → (k ≡ 0) × (steps k ks ≡ true)
unfolding numbered
numbered_first k ks s = (eqb-true k 0 (both_left (eqb k 0) (steps k ks) s), both_right (eqb k 0) (steps k ks) s)

-- ---- numbers stored behind others
pub put_numbers_lem : (packet : List ℕ) (n count k : ℕ) → n + count ≤ length packet
    → take (n + count) (sets packet n (replicate count k)) ≡ take n packet ++ replicate count k
put_numbers_lem packet n count k h =
    rw (length-replicate count k) at (take-sets_at packet n (replicate count k) (omega (arith, length-replicate count k)))

steps-same : (k count : ℕ) → steps k (replicate count k) ≡ true
steps-same k zero = refl
steps-same k (suc count) = rw (eq-eqb k k refl) (steps-same k count)

steps_next : (k : ℕ) (ks : List ℕ) (m : ℕ) → goes (get_or (k ∷ ks) (length ks) 0) m ≡ true → (count : ℕ) → steps k ks ≡ true
    → steps k (ks ++ replicate count m) ≡ true
steps_next k [] m g zero s = refl
steps_next k [] m g (suc count) s = rw (g, steps-same m count)
steps_next k (n ∷ ns) m g count s =
    rw (both_left (goes k n) (steps n ns) s) (steps_next n ns m g count (both_right (goes k n) (steps n ns) s))

numbered_next : (ks : List ℕ) → 1 ≤ length ks → (m : ℕ) → goes (get_or ks (length ks - 1) 0) m ≡ true → (count : ℕ) → numbered ks ≡ true
    → numbered (ks ++ replicate count m) ≡ true
unfolding numbered
numbered_next [] h m g count s = absurd (omega arith)
numbered_next (k ∷ ks) h m g count s =
    let e : length (k ∷ ks) - 1 ≡ length ks = omega arith in
    rw (both_left (eqb k 0) (steps k ks) s) (steps_next k ks m (rw e at g) count (both_right (eqb k 0) (steps k ks) s))

goes_up : (b : ℕ) → goes b (b + 1) ≡ true
goes_up b = rw (eq-eqb (b + 1) (b + 1) refl) (by_test (eqb (b + 1) b) (λ e. rw e) (λ e. rw e))

first_numbered : (count : ℕ) → numbered (replicate count 0) ≡ true
unfolding numbered
first_numbered zero = refl
first_numbered (suc count) = steps-same 0 count

pub numbered_grown : (packet : List ℕ) (n count : ℕ) → n + count ≤ length packet → numbered (take n packet) ≡ true
    → numbered (take n packet ++ replicate count (number_after packet n)) ≡ true
numbered_grown packet zero count h s = first_numbered count
numbered_grown packet (suc n) count h s =
    let k = get_or packet n 0 in
    let e : suc n - 1 ≡ n = omega arith in
    let l : length (take (suc n) packet) ≡ suc n = length-take-le (suc n) packet (omega arith) in
    let last : get_or (take (suc n) packet) (length (take (suc n) packet) - 1) 0 ≡ k = rw (l, e) (get_or-take (suc n) packet n 0 (omega arith)) in
    rw (ne_eqb (suc n) 0 (λ z. omega arith), e) (numbered_next (take (suc n) packet) (omega (arith, l)) (k + 1) (rw last (goes_up k)) count s)

-- the number behind them
get_d_behind : (a b : List ℕ) (i : ℕ) → get_or (a ++ b) (length a + i) 0 ≡ get_or b i 0
get_d_behind [] b i = rw zero-add
get_d_behind (x ∷ a) b i = let e : suc (length a) + i ≡ suc (length a + i) = omega arith in rw e (get_d_behind a b i)

pub after_grown : (packet : List ℕ) (n count k : ℕ) → 1 ≤ count → n + count ≤ length packet
    → number_after (sets packet n (replicate count k)) (n + count) ≡ k + 1
after_grown packet n count k some h =
    let l = sets packet n (replicate count k) in
    let m = length-take-le n packet (omega arith) in
    let last : n + count - 1 ≡ length (take n packet) + (count - 1) = omega (arith, m) in
    let read = get_or-take (n + count) l (n + count - 1) 0 (omega arith) in
    let is : get_or l (n + count - 1) 0 ≡ k =
    sym read ∙ (rw (put_numbers_lem packet n count k h, last)
    (get_d_behind (take n packet) (replicate count k) (count - 1) ∙ get_or-replicate count (count - 1) k 0 (omega arith))) in
    rw (ne_eqb (n + count) 0 (λ z. omega arith), is)
