-- Lists of bytes: the empty list, one byte more or less, two lists joined, parts, and bytes stored.
-- Assumes nothing.
use Prim.Native.Nat.{ℕ, zero, suc, ◌<◌}
use native.Mathlib.Omega.{arith}
use mathlib.Core.List.{List, [], ◌∷◌, ◌++◌}
use lib.ListN.{get_or, set, take, drop}
use lib.Seq.{sets}
use Rattle.laws.specs.Bytes.{Bytes}

pub bytes_nil : Bytes []
bytes_nil = record { byte = λ i. omega arith }

pub bytes_cons : {a : ℕ} {s : List ℕ} → a < 256 → Bytes s → Bytes (a ∷ s)
bytes_cons {a} {s} h k = record { byte = go }
  where
    go : (i : ℕ) → get_or (a ∷ s) i 0 < 256
    go zero = h
    go (suc i) = k.byte i

pub bytes_tail : {a : ℕ} {s : List ℕ} → Bytes (a ∷ s) → Bytes s
bytes_tail h = record { byte = λ i. h.byte (suc i) }

pub bytes_append : (s t : List ℕ) → Bytes s → Bytes t → Bytes (s ++ t)
bytes_append [] t h k = k
bytes_append (a ∷ s) t h k = bytes_cons (h.byte 0) (bytes_append s t (bytes_tail h) k)

pub bytes_after : (s t : List ℕ) → Bytes (s ++ t) → Bytes t
bytes_after [] t h = h
bytes_after (a ∷ s) t h = bytes_after s t (bytes_tail h)

pub bytes_take : (n : ℕ) (s : List ℕ) → Bytes s → Bytes (take n s)
bytes_take zero s h = bytes_nil
bytes_take (suc n) [] h = h
bytes_take (suc n) (a ∷ s) h = bytes_cons (h.byte 0) (bytes_take n s (bytes_tail h))

pub bytes_drop : (n : ℕ) (s : List ℕ) → Bytes s → Bytes (drop n s)
bytes_drop zero s h = h
bytes_drop (suc n) [] h = h
bytes_drop (suc n) (a ∷ s) h = bytes_drop n s (bytes_tail h)

bytes_set : (s : List ℕ) (i a : ℕ) → Bytes s → a < 256 → Bytes (set s i a)
bytes_set [] i a h k = h
bytes_set (b ∷ s) zero a h k = bytes_cons k (bytes_tail h)
bytes_set (b ∷ s) (suc i) a h k = bytes_cons (h.byte 0) (bytes_set s i a (bytes_tail h) k)

pub bytes_sets : (s : List ℕ) (at : ℕ) (vs : List ℕ) → Bytes s → Bytes vs → Bytes (sets s at vs)
bytes_sets s at [] h k = h
bytes_sets s at (a ∷ vs) h k = bytes_sets (set s at a) (suc at) vs (bytes_set s at a h (k.byte 0)) (bytes_tail k)
