-- Which bytes of a word are 4B, found for all of them at once.
--     no_carry, no_borrow        the sum and the difference stay within a word
--     flags_told                 the flags, as the code computes them
--     first_told, first_most     the first flag
--     flags_none, flags_some     by the place of the first 4B
-- Assumes nothing.
use Prim.Native.Nat.{ℕ, suc, ◌+◌, ◌*◌, ◌-◌, ◌/◌, ◌%◌, ◌^◌, ◌<◌, ◌≤◌}
use native.Mathlib.Omega.{arith}
use mathlib.Core.Path.{◌≡◌, refl}
use mathlib.Core.List.{List, [], ◌∷◌}
use mathlib.Core.Bool.{cond}
use lib.Dec.{eqb}
use lib.ListN.{length, replicate}
use lib.Bits.{bit_and, bit_or, bit_xor, and_block, or_block, xor_block, and_le_r, or_lt, xor_lt}
use lib.Count.{count_trailing_zeros, trailing_le}
use borrow.Author.Tests.{eqb-true}
use Rattle.laws.specs.Bytes.{Bytes}
use Rattle.laws.proofs.Bytes.{bytes_tail}
use Rattle.laws.proofs.Never.{by_test}
use Rattle.laws.proofs.Every.{every_at}
use Rattle.laws.specs.Scan.{index_of}
use Rattle.low_first.specs.Numbers.{from_low}
use Rattle.marks.specs.Flags.{flags_of}

-- ---- a word in which all bytes are b
abbrev all : ℕ → ℕ → ℕ
all n b = from_low (replicate n b)

-- 128 in each byte that is not 4B
abbrev others : ℕ → ℕ → ℕ
others n w = bit_and (bit_or (bit_and (bit_xor w (all n 75)) (all n 127) + all n 127) (bit_xor w (all n 75))) (all n 128)

abbrev of_one : ℕ → ℕ
of_one b = bit_and (bit_or (bit_and (bit_xor b 75) 127 + 127) (bit_xor b 75)) 128

one : (b : ℕ) → b < 256 → of_one b + cond (eqb b 75) 128 0 ≡ 128
one b h = eqb-true (of_one b + cond (eqb b 75) 128 0) 128 (every_at 256 (λ b. eqb (of_one b + cond (eqb b 75) 128 0) 128) refl b h)

-- byte by byte: no sum passes its byte
others_cons : (n w b : ℕ) → b < 256 → others (suc n) (w * 2 ^ 8 + b) ≡ others n w * 2 ^ 8 + of_one b
others_cons n w b h =
    let x = bit_xor b 75 in
    let X = bit_xor w (all n 75) in
    let y = bit_and x 127 + 127 in
    let Y = bit_and X (all n 127) + all n 127 in
    let xs : x < 256 = xor_lt 8 b 75 h (omega arith) in
    let ys : y < 256 = omega (arith, and_le_r x 127) in
    let a : bit_xor (w * 2 ^ 8 + b) (all n 75 * 2 ^ 8 + 75) ≡ X * 2 ^ 8 + x = xor_block 8 w (all n 75) b 75 h (omega arith) in
    let b : bit_and (X * 2 ^ 8 + x) (all n 127 * 2 ^ 8 + 127) ≡ bit_and X (all n 127) * 2 ^ 8 + bit_and x 127 =
    and_block 8 X (all n 127) x 127 xs (omega arith) in
    let c : bit_and X (all n 127) * 2 ^ 8 + bit_and x 127 + (all n 127 * 2 ^ 8 + 127) ≡ Y * 2 ^ 8 + y = omega arith in
    let d : bit_or (Y * 2 ^ 8 + y) (X * 2 ^ 8 + x) ≡ bit_or Y X * 2 ^ 8 + bit_or y x = or_block 8 Y X y x ys xs in
    let e : bit_and (bit_or Y X * 2 ^ 8 + bit_or y x) (all n 128 * 2 ^ 8 + 128) ≡ bit_and (bit_or Y X) (all n 128) * 2 ^ 8 + bit_and (bit_or y x) 128 =
    and_block 8 (bit_or Y X) (all n 128) (bit_or y x) 128 (or_lt 8 y x ys xs) (omega arith) in
    rw (a, b, c, d) e

others_flags : (l : List ℕ) → Bytes l → others (length l) (from_low l) + flags_of l ≡ all (length l) 128
others_flags [] bytes = refl
others_flags (b ∷ l) bytes =
    let h : b < 256 = bytes.byte 0 in
    omega (arith, others_cons (length l) (from_low l) b h, one b h, others_flags l (bytes_tail bytes))

-- ---- as the code has it
module _ (w : ℕ) where
  abbrev mixed : ℕ
  mixed = bit_xor w 0x4B4B4B4B4B4B4B4B

  pub no_carry : bit_and mixed 0x7F7F7F7F7F7F7F7F + 0x7F7F7F7F7F7F7F7F < 2 ^ 64
  no_carry = omega (arith, and_le_r mixed 0x7F7F7F7F7F7F7F7F)

  abbrev found : ℕ
  found = bit_and (bit_or (bit_and mixed 0x7F7F7F7F7F7F7F7F + 0x7F7F7F7F7F7F7F7F) mixed) 0x8080808080808080

  pub no_borrow : found ≤ 0x8080808080808080
  no_borrow = and_le_r (bit_or (bit_and mixed 0x7F7F7F7F7F7F7F7F + 0x7F7F7F7F7F7F7F7F) mixed) 0x8080808080808080

  pub flags_told : (l : List ℕ) → length l ≡ 8 → Bytes l → w ≡ from_low l → 0x8080808080808080 - found ≡ flags_of l
  flags_told l n bytes e =
      let k : others 8 w + flags_of l ≡ 0x8080808080808080 = rw (n, ← e) at (others_flags l bytes) in
      omega (arith, k)

-- ---- the first flag
even : (k n : ℕ) → count_trailing_zeros (suc k) (n * 2) ≡ suc (count_trailing_zeros k n)
unfolding count_trailing_zeros
even k n =
    let rest : n * 2 % 2 ≡ 0 = omega arith in
    let half : n * 2 / 2 ≡ n = omega arith in
    rw (rest, half)

odd : (k n : ℕ) → count_trailing_zeros (suc k) (n * 2 + 1) ≡ 0
unfolding count_trailing_zeros
odd k n = let rest : (n * 2 + 1) % 2 ≡ 1 = omega arith in rw rest

-- eight digits more
abbrev eight : ℕ → ℕ
eight k = suc (suc (suc (suc (suc (suc (suc (suc k)))))))

flagged : (k f : ℕ) → count_trailing_zeros (eight k) (f * 2 ^ 8 + 128) ≡ 7
flagged k f =
    let e : f * 2 ^ 8 + 128 ≡ (f * 2 + 1) * 2 * 2 * 2 * 2 * 2 * 2 * 2 = omega arith in
    rw (e, even, even, even, even, even, even, even, odd)

unflagged : (k f : ℕ) → count_trailing_zeros (eight k) (f * 2 ^ 8 + 0) ≡ eight (count_trailing_zeros k f)
unflagged k f =
    let e : f * 2 ^ 8 + 0 ≡ f * 2 * 2 * 2 * 2 * 2 * 2 * 2 * 2 = omega arith in
    rw (e, even, even, even, even, even, even, even, even)

first_flag : (l : List ℕ) → count_trailing_zeros (8 * length l) (flags_of l) / 8 ≡ index_of 75 l
unfolding index_of count_trailing_zeros
first_flag [] = refl
first_flag (b ∷ l) =
    let k = 8 * length l in
    let more : 8 * suc (length l) ≡ eight k = omega arith in
    by_test (eqb b 75) (λ t. rw (t, more, flagged k (flags_of l)) (omega arith))
    (λ t. rw (t, more, unflagged k (flags_of l)) (omega (arith, first_flag l)))

pub first_told : (t : ℕ) (l : List ℕ) → length l ≡ 8 → t ≡ flags_of l → count_trailing_zeros 64 t / 8 ≡ index_of 75 l
first_told t l n e = rw e (rw n at (first_flag l))

pub first_most : (t : ℕ) → count_trailing_zeros 64 t ≤ 64
first_most t = trailing_le 64 t

-- ---- by the place of the first 4B
pub flags_none : (l : List ℕ) → flags_of l ≡ 0 → index_of 75 l ≡ length l
unfolding index_of
flags_none [] e = refl
flags_none (b ∷ l) e =
    by_test (eqb b 75) (λ t. absurd (omega (arith, rw t at e))) (λ t. rw t (omega (arith, flags_none l (omega (arith, rw t at e)))))

pub flags_some : (l : List ℕ) → (flags_of l ≡ 0 → ⊥) → index_of 75 l < length l
unfolding index_of
flags_some [] f = absurd (f refl)
flags_some (b ∷ l) f =
    by_test (eqb b 75) (λ t. rw t (omega arith))
    (λ t. rw t (omega (arith, flags_some l (λ z. f (rw (t, z))))))
