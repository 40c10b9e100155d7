-- A length field written at a place: the stores that the code makes are the field's bytes, one behind the other.
-- Assumes nothing.
use Prim.Native.Nat.{ℕ, ◌+◌, ◌-◌, ◌/◌, ◌%◌, ◌≤◌, ◌<◌}
use native.Mathlib.Omega.{arith}
use native.Mathlib.Numerals.{add-one}
use mathlib.Core.Path.{◌≡◌, refl}
use mathlib.Core.List.{List}
use lib.IntN.{pos, negsuc, ℤ}
use lib.ListN.{length, set}
use lib.Seq.{sets}
use borrow.Author.Tests.{lt-ltb, le-ltb}
use Rattle.laws.proofs.Never.{never}
use Rattle.opus_defines.specs.Numbers.{count_of, refusal_number}
use Rattle.std.specs.Prelude.{None, Some}
use Rattle.opus_defines.specs.declared.Refusal.TheVariants.{BadArg, BufferTooSmall}
use Rattle.opus_defines.proofs.Counts.{is_natural}
use Rattle.opus_size.specs.Size.{most_bytes, length_field}
use Rattle.opus_size.specs.Answers.{encode_size}
use Rattle.opus_size.proofs.Fields.{short, two_bytes}

module _ (l : List ℕ) (at n : ℕ) where
  pub put_short : n < 252 → (set l at n ≡ sets l at (length_field n)) × (at + 1 ≡ at + length (length_field n))
  put_short h = rw (short n h) (refl, refl)

  pub put_long : 252 ≤ n → (set (set l at (252 + n % 4)) (at + 1) (n / 4 - 63) ≡ sets l at (length_field n)) × (at + 2 ≡ at + length (length_field n))
  put_long h =
      let second : (n - 252) / 4 ≡ n / 4 - 63 = omega arith in
      rw (two_bytes n h, second) (rw add-one, refl)

-- what `encode_size` leaves, by the tests on its way
module _ (z : ℤ) (s : List ℕ) where
  pub encode_negative : count_of z ≡ None → (refusal_number BadArg ≡ (encode_size z s).report.number) × (s ≡ (encode_size z s).bytes)
  unfolding encode_size
  encode_negative = go z
    where
      go : (z : ℤ) → count_of z ≡ None → (refusal_number BadArg ≡ (encode_size z s).report.number) × (s ≡ (encode_size z s).bytes)
      go (pos n) e = never (cc)
      go (negsuc n) e = (refl, refl)

  module _ (n : ℕ) (e : count_of z ≡ Some n) where
    is_pos : z ≡ pos n
    is_pos = is_natural z n e

    pub encode_long : most_bytes < n → (refusal_number BadArg ≡ (encode_size z s).report.number) × (s ≡ (encode_size z s).bytes)
    unfolding encode_size
    encode_long h = rw (is_pos, lt-ltb most_bytes n h) (refl, refl)

    pub encode_full : n ≤ most_bytes → length s < length (length_field n) → (refusal_number BufferTooSmall ≡ (encode_size z s).report.number)
        × (s ≡ (encode_size z s).bytes)
    unfolding encode_size
    encode_full h k = rw (is_pos, le-ltb most_bytes n h, lt-ltb (length s) (length (length_field n)) k) (refl, refl)

    pub encode_put : n ≤ most_bytes → length (length_field n) ≤ length s
        → (pos (length (length_field n)) ≡ (encode_size z s).report.number) × (sets s 0 (length_field n) ≡ (encode_size z s).bytes)
    unfolding encode_size
    encode_put h k = rw (is_pos, le-ltb most_bytes n h, le-ltb (length s) (length (length_field n)) k) (refl, refl)
