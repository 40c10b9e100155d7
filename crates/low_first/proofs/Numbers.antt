-- Numbers of some bytes, low byte first, and back.
--     low_back, from_back     the two undo each other
--     from_below              a number of k bytes is below 256 to the k
--     number_more             one byte, and those behind it
--     number_one, halves      one byte, and two numbers of as many bytes, as the code puts them together
-- Assumes nothing.
use Prim.Native.Nat.{ℕ, zero, suc, ◌+◌, ◌*◌, ◌<◌, ◌≤◌, ◌/◌, ◌%◌, ◌^◌}
use native.Mathlib.Nat.{pow-suc, mul_assoc, mul_comm}
use native.Mathlib.Numerals.{add-one}
use native.Mathlib.Omega.{arith}
use mathlib.Core.Path.{◌≡◌, refl}
use mathlib.Core.List.{List, [], ◌∷◌, ◌++◌}
use lib.ListN.{length, take, drop, get_or, length-drop}
use lib.Seq.{drop-cons, drop-drop, take-add, length-take-le}
use Rattle.laws.specs.Bytes.{Bytes}
use Rattle.laws.proofs.Bytes.{bytes_tail}
use Rattle.low_first.specs.Numbers.{low_first, from_low, number_at}

pub from_back : (k n : ℕ) → n < 256 ^ k → from_low (low_first k n) ≡ n
from_back zero n h = omega arith
from_back (suc k) n h =
    let less : n / 256 < 256 ^ k = omega (arith, rw pow-suc at h) in
    omega (arith, from_back k (n / 256) less)

pub low_back : (l : List ℕ) → Bytes l → low_first (length l) (from_low l) ≡ l
low_back [] h = refl
low_back (b ∷ l) h =
    let byte : b < 256 = h.byte 0 in
    let first : (from_low l * 256 + b) % 256 ≡ b = omega arith in
    let rest : (from_low l * 256 + b) / 256 ≡ from_low l = omega arith in
    rw (first, rest, low_back l (bytes_tail h))

pub from_below : (l : List ℕ) → Bytes l → from_low l < 256 ^ length l
from_below [] h = omega arith
from_below (b ∷ l) h =
    let byte : b < 256 = h.byte 0 in
    rw pow-suc (omega (arith, from_below l (bytes_tail h)))

-- ---- bytes of a list
from_append : (l m : List ℕ) → from_low (l ++ m) ≡ from_low m * 256 ^ length l + from_low l
from_append [] m = omega arith
from_append (b ∷ l) m = rw (pow-suc, ← mul_assoc) (omega (arith, from_append l m))

module _ (s : List ℕ) (at : ℕ) where
  pub number_more : (n : ℕ) → at < length s → number_at s at (suc n) ≡ number_at s (at + 1) n * 256 + get_or s at 0
  number_more n h = rw (add-one, drop-cons s at 0 h)

  pub number_one : at < length s → {b : ℕ} → b ≡ get_or s at 0 → b ≡ number_at s at 1
  number_one h e = rw (drop-cons s at 0 h) (omega (arith, e))

  pub halves : (n : ℕ) → at + n ≤ length s → {a b : ℕ} → a ≡ number_at s at n → b ≡ number_at s (at + n) n
      → a + 256 ^ n * b ≡ number_at s at (n + n)
  halves n h {a} {b} e f =
      let long : length (take n (drop at s)) ≡ n = length-take-le n (drop at s) (omega (arith, length-drop at s)) in
      rw (take-add n n (drop at s), from_append, long, drop-drop, ← e, ← f) (omega (arith, mul_comm b (256 ^ n)))
