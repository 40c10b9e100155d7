-- Several length fields: what is written is read back, and what is read was written so.
-- Assumes nothing.
use Prim.Native.Nat.{ℕ, zero, suc, ◌≤◌}
use native.Mathlib.Omega.{arith}
use mathlib.Core.Path.{◌≡◌, refl}
use mathlib.Core.List.{List, [], ◌∷◌, ◌++◌, append_assoc}
use lib.Dec.{ltb}
use lib.ListN.{length, length-append}
use borrow.Author.Tests.{le-ltb}
use Rattle.laws.specs.Bytes.{Bytes}
use Rattle.laws.proofs.Never.{never, by_test}
use Rattle.laws.proofs.Bytes.{bytes_after}
use Rattle.opus_size.specs.Size.{most_bytes, length_field, length_fields, read_field, Field, no_field, field}
use Rattle.opus_size.proofs.Fields.{field_read, field_was}
use Rattle.opus_format.specs.Frames.{total, longest}
use Rattle.opus_format.specs.Reading.{read_fields, before, Fields, no_fields, fields}

-- where there is room for all of them
pub fields_read : (ns s : List ℕ) → longest ns ≤ most_bytes → total ns ≤ length s → read_fields (length ns) (length_fields ns ++ s) ≡ fields ns s
fields_read [] s h k = refl
fields_read (n ∷ ns) s h k =
    let room : n ≤ length (length_fields ns ++ s) = omega (arith, length-append (length_fields ns) s) in
    rw (
      append_assoc (length_field n) (length_fields ns) s,
      field_read (length_fields ns ++ s) n (omega arith),
      le-ltb (length (length_fields ns ++ s)) n room,
      fields_read ns s (omega arith) (omega arith),
    )

-- the bytes s begin with the fields of k lengths ns, and rest stands behind them
pub record FieldsWere (k : ℕ) (s ns rest : List ℕ) : Type 0 where
  pub spelled : s ≡ length_fields ns ++ rest
  pub count : length ns ≡ k
  pub small : longest ns ≤ most_bytes

pub fields_was : (k : ℕ) (s ns rest : List ℕ) → Bytes s → read_fields k s ≡ fields ns rest → FieldsWere k s ns rest
fields_was zero s ns rest bytes r =
    let none : ns ≡ [] = cc in
    record { spelled = cc; count = cc; small = rw none (omega arith) }
fields_was (suc k) s ns rest bytes r = first (fields_was k) (read_field s) refl
  where
    Was : Type 0
    Was = (s ns rest : List ℕ) → Bytes s → read_fields k s ≡ fields ns rest → FieldsWere k s ns rest

    others : Was → (n : ℕ) (t : List ℕ) → read_field s ≡ field n t → (f : Fields) → read_fields k t ≡ f → before n f ≡ fields ns rest
        → FieldsWere (suc k) s ns rest
    others ih n t e (no_fields u) d q = never (cc)
    others ih n t e (fields ms u) d q =
        let one = field_was s t n bytes e in
        let more = ih t ms u (bytes_after (length_field n) t (rw one.0 at bytes)) d in
        let same : ns ≡ n ∷ ms = cc in
        record {
          spelled = cc (one.0, more.spelled, append_assoc (length_field n) (length_fields ms) u);
          count = cc more.count;
          small = rw same (omega (arith, one.1, more.small));
        }

    first : Was → (f : Field) → read_field s ≡ f → FieldsWere (suc k) s ns rest
    first ih no_field e = never (cc)
    first ih (field n t) e =
        by_test (ltb (length t) n)
        (λ c. never (let q : no_fields s ≡ fields ns rest = rw (e, c) at r in cc))
        (λ c. others ih n t e (read_fields k t) refl (rw (e, c) at r))
