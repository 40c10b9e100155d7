-- Length fields: what is written is read back, and what is read was written so. Each length has one spelling.
--     field_read, field_was     both ways, with anything behind the field
--     field_bytes_lem, width        a field is one or two bytes
-- Assumes nothing.
use Prim.Native.Nat.{ℕ, ◌+◌, ◌*◌, ◌-◌, ◌/◌, ◌%◌, ◌≤◌, ◌<◌}
use native.Mathlib.Omega.{arith}
use mathlib.Core.Path.{◌≡◌, refl, sym, ◌∙◌}
use mathlib.Core.List.{List, [], ◌∷◌, ◌++◌}
use mathlib.Core.Bool.{Bool, true, false}
use lib.Dec.{ltb}
use lib.ListN.{length}
use borrow.Author.Tests.{ltb-true, ltb-false, lt-ltb, le-ltb}
use Rattle.laws.specs.Bytes.{Bytes}
use Rattle.laws.proofs.Never.{never, by_test}
use Rattle.laws.proofs.Bytes.{bytes_nil, bytes_cons}
use Rattle.opus_size.specs.Size.{most_bytes, length_field, read_field, field}

-- the two forms of a field
pub short : (n : ℕ) → n < 252 → length_field n ≡ n ∷ []
unfolding length_field
short n h = rw lt-ltb

pub two_bytes : (n : ℕ) → 252 ≤ n → length_field n ≡ (252 + n % 4) ∷ ((n - 252) / 4) ∷ []
unfolding length_field
two_bytes n h = rw (le-ltb n 252)

long : (a b : ℕ) → 252 ≤ a → a < 256 → length_field (4 * b + a) ≡ a ∷ b ∷ []
long a b h k =
    let first : 252 + (4 * b + a) % 4 ≡ a = omega arith in
    let second : (4 * b + a - 252) / 4 ≡ b = omega arith in
    rw (two_bytes (4 * b + a) (omega arith), first, second)

-- a length up to 1275 is below 252, or is 4 * b + a with bytes a and b
forms : (P : ℕ → Type 0) → ((n : ℕ) → n < 252 → P n) → ((a b : ℕ) → 252 ≤ a → a < 256 → b < 256 → P (4 * b + a))
    → (n : ℕ) → n ≤ most_bytes → P n
forms P s l n h =
    by_test (ltb n 252) (λ e. s n (ltb-true n 252 e))
    (λ e.
    let big : 252 ≤ n = ltb-false n 252 e in
    let whole : 4 * ((n - 252) / 4) + (252 + n % 4) ≡ n = omega arith in
    rw whole at (l (252 + n % 4) ((n - 252) / 4) (omega arith) (omega arith) (omega arith)))

-- one byte below 252, two from there on
pub width : (n : ℕ) → (1 ≤ length (length_field n)) × (length (length_field n) ≤ 2)
width n = by_test (ltb n 252) (λ e. rw (short n (ltb-true n 252 e)) (omega arith)) (λ e. rw (two_bytes n (ltb-false n 252 e)) (omega arith))

pub read_short : (n : ℕ) (s : List ℕ) → n < 252 → read_field (n ∷ s) ≡ field n s
read_short n s h = rw lt-ltb

pub read_long : (a b : ℕ) (s : List ℕ) → 252 ≤ a → read_field (a ∷ b ∷ s) ≡ field (4 * b + a) s
read_long a b s h = rw (le-ltb a 252)

pub field_read : (s : List ℕ) (n : ℕ) → n ≤ most_bytes → read_field (length_field n ++ s) ≡ field n s
field_read s =
    forms (λ n. read_field (length_field n ++ s) ≡ field n s)
    (λ n h. rw (short n h) (read_short n s h))
    (λ a b h k l. rw (long a b h k) (read_long a b s h))

pub field_was : (s rest : List ℕ) (n : ℕ) → Bytes s → read_field s ≡ field n rest → (s ≡ length_field n ++ rest) × (n ≤ most_bytes)
field_was [] rest n bytes r = never (cc)
field_was (a ∷ s) rest n bytes r = go (ltb a 252) refl s bytes r
  where
    go : (t : Bool) → ltb a 252 ≡ t → (s : List ℕ) → Bytes (a ∷ s) → read_field (a ∷ s) ≡ field n rest
        → (a ∷ s ≡ length_field n ++ rest) × (n ≤ most_bytes)
    go true e s bytes r =
        let h : a < 252 = ltb-true a 252 e in
        let q : field a s ≡ field n rest = sym (read_short a s h) ∙ r in
        let same : a ≡ n = cc in
        (cc (short a h), omega arith)
    go false e [] bytes r = never (cc)
    go false e (b ∷ s) bytes r =
        let h : 252 ≤ a = ltb-false a 252 e in
        let q : field (4 * b + a) s ≡ field n rest = sym (read_long a b s h) ∙ r in
        let same : 4 * b + a ≡ n = cc in
        (cc (long a b h (bytes.byte 0)), omega (arith, bytes.byte 0, bytes.byte 1))

pub field_bytes_lem : (n : ℕ) → n ≤ most_bytes → Bytes (length_field n)
field_bytes_lem =
    forms (λ n. Bytes (length_field n))
    (λ n h. rw (short n h) (bytes_cons (omega arith) bytes_nil))
    (λ a b h k l. rw (long a b h k) (bytes_cons k (bytes_cons l bytes_nil)))
