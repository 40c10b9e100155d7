-- Length fields one behind another, and what the loop of `put_sizes` keeps.
--     fields_append, fields_next, fields_within     the fields of some of the lengths
--     Written                                       the fields of the first i lengths are written; its start, a turn, and its end
-- Assumes nothing.
use Prim.Native.Nat.{ℕ, suc, ◌+◌, ◌≤◌, ◌<◌}
use native.Mathlib.Omega.{arith}
use mathlib.Core.Path.{◌≡◌, refl, ap, ◌∙◌}
use mathlib.Core.List.{List, [], ◌∷◌, ◌++◌, append_assoc, append-nil}
use lib.ListN.{length, get_or, take, drop, length-append}
use lib.Seq.{sets, split_at, take_all, length-sets}
use Rattle.blocks.proofs.Sets.{sets-append}
use Rattle.opus_size.specs.Size.{most_bytes, length_field, length_fields}
use Rattle.opus_format.specs.Frames.{longest}
use Rattle.opus_format.proofs.Lengths.{longest_at, take_next}

pub fields_append : (ms ns : List ℕ) → length_fields (ms ++ ns) ≡ length_fields ms ++ length_fields ns
fields_append [] ns = refl
fields_append (m ∷ ms) ns = rw (fields_append ms ns, append_assoc)

module _ (ns : List ℕ) (i : ℕ) (h : i < length ns) where
  pub fields_next : length_fields (take (i + 1) ns) ≡ length_fields (take i ns) ++ length_field (get_or ns i 0)
  fields_next = rw (take_next ns i h, fields_append, append-nil)

  fields_within : length (length_fields (take i ns)) + length (length_field (get_or ns i 0)) ≤ length (length_fields ns)
  fields_within =
      let n = get_or ns i 0 in
      let rest = drop (suc i) ns in
      let whole : length_fields ns ≡ length_fields (take i ns) ++ (length_field n ++ length_fields rest) =
      ap length_fields (split_at ns i 0 h)
      ∙ fields_append (take i ns) (n ∷ rest) in
      omega (arith, simp length-append at (ap length whole))

-- of ns the fields of the first i are written from `at` on, over l: d is what stands there now, and `next` is behind them
pub record Written (l : List ℕ) (at : ℕ) (ns d : List ℕ) (next i : ℕ) : Type 0 where
  pub most : i ≤ length ns
  pub bytes : d ≡ sets l at (length_fields (take i ns))
  pub place : next ≡ at + length (length_fields (take i ns))

pub written_start : (l : List ℕ) (at : ℕ) (ns : List ℕ) → Written l at ns l at 0
written_start l at ns = record { most = omega arith; bytes = refl; place = omega arith }

module _ {l : List ℕ} {at : ℕ} {ns d : List ℕ} {next i : ℕ} (w : Written l at ns d next i) where
  pub written-length : length d ≡ length l
  written-length = ap length w.bytes ∙ length-sets l at (length_fields (take i ns))

  module _ {n : ℕ} (e : n ≡ get_or ns i 0) (h : i < length ns) where
    pub written_room : longest ns ≤ most_bytes → at + length (length_fields ns) ≤ length l
        → (n ≤ most_bytes) × (next + length (length_field n) ≤ length d)
    written_room s r = rw e (omega (arith, longest_at ns i h, fields_within ns i h, written-length, w.place))

    pub written_more : {d' : List ℕ} {next' : ℕ} → d' ≡ sets d next (length_field n) → next' ≡ next + length (length_field n)
        → Written l at ns d' next' (i + 1)
    written_more f g =
        record {
          most = omega arith;
          bytes = rw (fields_next ns i h, sets-append, ← e, ← w.bytes, ← w.place) f;
          place = rw (fields_next ns i h, ← e) (omega (arith, length-append (length_fields (take i ns)) (length_field n), w.place));
        }

  pub written_end : length ns ≤ i → (d ≡ sets l at (length_fields ns)) × (next ≡ at + length (length_fields ns))
  written_end h =
      let all : take i ns ≡ ns = take_all i ns h in
      (rw all at w.bytes, rw all at w.place)
