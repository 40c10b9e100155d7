-- The fields of a header as the code reads and writes them.
-- Assumes nothing.
use Prim.Native.Nat.{ℕ, zero, suc, ◌+◌, ◌-◌, ◌<◌, ◌≤◌, ◌/◌, ◌%◌}
use native.Mathlib.Nat.{sub-zero, zero-sub, suc-sub-suc}
use native.Mathlib.Omega.{arith}
use mathlib.Core.Path.{◌≡◌, refl, ◌∙◌}
use mathlib.Core.List.{List, [], ◌∷◌}
use lib.Dec.{eqb}
use lib.IntN.{ℤ}
use lib.ListN.{length, take, drop, get_or, set, replicate, length-replicate}
use lib.Seq.{sets, sets-eq, take-nil}
use mir.Syntax.{w16}
use mir.Val.{to_z, of_z, SFits}
use mir.ValLaws.{to_z-of_z}
use borrow.Author.Tests.{eq-eqb, ne_eqb}
use Rattle.laws.proofs.Never.{by_test}
use Rattle.low_first.specs.Numbers.{number_at}
use Rattle.opus_head.specs.Header.{bits16, fixed_bytes}
use Rattle.opus_head.specs.Reading.{signed16, entries, needed, head_of, bytes_needed, head_with, plain_head}

-- ---- mappings
drop_zeros : (k n : ℕ) → drop {A = ℕ} k (replicate n 0) ≡ replicate (n - k) 0
drop_zeros zero n = rw sub-zero
drop_zeros (suc k) zero = rw zero-sub
drop_zeros (suc k) (suc n) = rw suc-sub-suc (drop_zeros k n)

pub entries_laid : (es : List ℕ) → length es ≤ 255 → {m : List ℕ} → m ≡ sets (replicate 255 0) 0 es → m ≡ entries es
entries_laid es h e =
    let long : length {A = ℕ} (replicate 255 0) ≡ 255 = length-replicate {A = ℕ} 255 0 in
    let none : 0 + length es ≡ length es = omega arith in
    e ∙ rw (sets-eq es (replicate 255 0) 0 (omega arith), none, drop_zeros (length es) 255)

pub own_one_lem : (n : ℕ) → n ≤ 1 → replicate 255 0 ≡ entries (take n (0 ∷ 1 ∷ []))
own_one_lem zero h = refl
own_one_lem (suc zero) h = refl
own_one_lem (suc (suc n)) h = absurd (omega arith)

pub own_two : (n : ℕ) → 1 < n → set (replicate 255 0) 1 1 ≡ entries (take n (0 ∷ 1 ∷ []))
own_two zero h = absurd (omega arith)
own_two (suc zero) h = absurd (omega arith)
own_two (suc (suc n)) h = rw (take-nil {A = ℕ} n)

-- ---- the fields together
module _ (s : List ℕ) where
  pub head_plain : get_or s 18 0 ≡ 0 → head_of s ≡ plain_head s
  head_plain e = rw (eq-eqb (get_or s 18 0) 0 e)

  pub head_table : (get_or s 18 0 ≡ 0 → ⊥) → head_of s ≡ head_with s (get_or s 19 0) (get_or s 20 0) (entries (take (get_or s 9 0) (drop 21 s)))
  head_table o = rw (ne_eqb (get_or s 18 0) 0 o)

  pub head_version : (head_of s).version ≡ get_or s 8 0
  head_version = by_test (eqb (get_or s 18 0) 0) (λ t. rw t) (λ t. rw t)

  pub mapped_as : {n : ℕ} {mapping : List ℕ} → n ≡ get_or s 9 0 → mapping ≡ entries (take n (drop 21 s))
      → head_with s (get_or s 19 0) (get_or s 20 0) mapping ≡ head_with s (get_or s 19 0) (get_or s 20 0) (entries (take (get_or s 9 0) (drop 21 s)))
  mapped_as en em = rw (em, en)

  pub needs_table : (get_or s 18 0 ≡ 0 → ⊥) → needed s ≡ 21 + get_or s 9 0
  needs_table o = rw (ne_eqb (get_or s 18 0) 0 o)

  pub needs : needed s ≡ bytes_needed (get_or s 18 0) (get_or s 9 0)
  needs = refl

  pub fields_read : (streams coupled : ℕ) (mapping : List ℕ) {skip rate bits : ℕ} {gain : ℤ} → skip ≡ number_at s 10 2 → rate ≡ number_at s 12 4
      → bits ≡ number_at s 16 2 → gain ≡ signed16 bits → SFits w16 gain
      → record {
        version = get_or s 8 0;
        channels = get_or s 9 0;
        pre_skip = skip;
        rate = rate;
        gain = to_z w16 (of_z w16 gain);
        family = get_or s 18 0;
        streams = streams;
        coupled = coupled;
        mapping = mapping;
      }
      ≡ head_with s streams coupled mapping
  fields_read streams coupled mapping {gain = gain} a b c d f = rw (to_z-of_z w16 gain f, d, c, b, a)

-- ---- what every header has, byte by byte
pub fixed_laid : (version channels skip rate : ℕ) (gain : ℤ) (family : ℕ) → SFits w16 gain → {bits : ℕ} → bits ≡ bits16 (to_z w16 (of_z w16 gain))
    → 0x4f ∷ 0x70 ∷ 0x75 ∷ 0x73 ∷ 0x48 ∷ 0x65 ∷ 0x61 ∷ 0x64 ∷ version ∷ channels ∷ skip % 256 ∷ skip / 256 % 256
    ∷ rate % 256 ∷ rate / 256 % 256 ∷ rate / 256 / 256 % 256 ∷ rate / 256 / 256 / 256 % 256 ∷ bits % 256 ∷ bits / 256 % 256 ∷ family ∷ []
    ≡ fixed_bytes version channels skip rate gain family
fixed_laid version channels skip rate gain family f e = rw (e, to_z-of_z w16 gain f)
