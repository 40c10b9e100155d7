-- What the loop of `sums_of` keeps.
--     Counted     what is counted of the first i lengths; its start, a turn, its bounds, and its end
-- Assumes nothing.
use Prim.Native.Nat.{ℕ, ◌+◌, ◌*◌, ◌-◌, ◌≤◌, ◌<◌}
use native.Mathlib.Omega.{arith}
use mathlib.Core.Path.{◌≡◌, refl, sym, ap, ◌∙◌}
use mathlib.Core.List.{List, [], ◌∷◌, ◌++◌, append-nil}
use mathlib.Core.Bool.{Bool, true, false}
use lib.ListN.{length, get_or, take, length-append}
use lib.Seq.{take_all}
use Rattle.opus_size.specs.Size.{most_bytes, length_field, length_fields}
use Rattle.opus_size.proofs.Fields.{width}
use Rattle.opus_format.specs.Frames.{total, longest}
use Rattle.opus_format.proofs.Frames.{total_snoc}
use Rattle.opus_header.specs.Header.{all_are, same, firsts, last}
use Rattle.opus_header.specs.Sums.{sums_of}
use Rattle.opus_format.proofs.Lengths.{longest_at, take_next}
use Rattle.opus_header.proofs.Lengths.{firsts_whole, last_at, same-all, all_agree, all_differ}
use Rattle.opus_header.proofs.Sizes.{fields_append, fields_next}

-- of ns the first i are counted: their sum t, the bytes f of their fields, and whether all are the first; with bounds of the two numbers
pub record Counted (ns : List ℕ) (t f : ℕ) (alike : Bool) (i : ℕ) : Type 0 where
  pub most : i ≤ length ns
  pub sum : t ≡ total (take i ns)
  pub fields : f ≡ length (length_fields (take i ns))
  pub agree : alike ≡ all_are (get_or ns 0 0) (take i ns)
  pub small : t ≤ 1275 * i
  pub few : f ≤ 2 * i

pub counted_start : (ns : List ℕ) → Counted ns 0 0 true 0
counted_start ns = record { most = omega arith; sum = refl; fields = refl; agree = refl; small = omega arith; few = omega arith }

module _ {ns : List ℕ} {t f : ℕ} {alike : Bool} {i : ℕ} (k : Counted ns t f alike i) where
  -- one length more, which is the first or is another
  module _ {first n : ℕ} (e : first ≡ get_or ns 0 0) (g : n ≡ get_or ns i 0) (h : i < length ns) where
    pub agrees : n ≡ first → alike ≡ all_are (get_or ns 0 0) (take (i + 1) ns)
    agrees s = rw (take_next ns i h, all_agree (get_or ns 0 0) (take i ns) (get_or ns i 0) (cc)) k.agree

    pub differs : (n ≡ first → ⊥) → false ≡ all_are (get_or ns 0 0) (take (i + 1) ns)
    differs d = rw (take_next ns i h, all_differ (get_or ns 0 0) (take i ns) (get_or ns i 0) (λ s. d (g ∙ (s ∙ sym e))))

    -- 48 lengths of 1275 bytes fit 16 bits
    pub counted_small : longest ns ≤ most_bytes → t + n ≤ 1275 * (i + 1)
    counted_small s = omega (arith, k.small, longest_at ns i h, g)

    pub counted_more : longest ns ≤ most_bytes → {b : ℕ} → b ≡ length (length_field n)
        → {alike' : Bool} → alike' ≡ all_are (get_or ns 0 0) (take (i + 1) ns)
        → Counted ns (t + n) (f + b) alike' (i + 1)
    counted_more short eb s =
        record {
          most = omega arith;
          sum = rw (take_next ns i h, total_snoc, ← g) (omega arith);
          fields = rw (fields_next ns i h, ← g, length-append) (omega arith);
          agree = s;
          small = counted_small short;
          few = omega (arith, width n);
        }

  -- all are counted
  module _ {z : ℕ} (e : z ≡ get_or ns (length ns - 1) 0) (h : length ns ≤ i) (some : 1 ≤ length ns) where
    all : take i ns ≡ ns
    all = take_all i ns h

    sum_whole : t ≡ total ns
    sum_whole = rw all at k.sum

    agree_whole : alike ≡ same ns
    agree_whole = (rw all at k.agree) ∙ same-all ns

    ends : z ≡ last ns
    ends = e ∙ last_at ns

    fields_whole : f ≡ length (length_fields (firsts ns)) + length (length_field z)
    fields_whole =
        let w : length_fields ns ≡ length_fields (firsts ns) ++ length_fields (last ns ∷ []) =
        ap length_fields (sym (firsts_whole ns some))
        ∙ fields_append (firsts ns) (last ns ∷ []) in
        let l : length (length_fields ns) ≡ length (length_fields (firsts ns)) + length (length_field z) = rw (w, ends, append-nil, length-append) in
        (rw all at k.fields) ∙ l

    -- as the struct has them
    module _ {tw zw : ℕ} (wt : tw ≡ t) (wz : zw ≡ z) where
      pub counted_same : alike ≡ true → record { total = tw; sizes = 0; same = alike; last = zw } ≡ sums_of ns
      unfolding sums_of
      counted_same s = rw (wt, wz, sum_whole, ← agree_whole, ends, s)

      pub counted_differ : {b fw : ℕ} → b ≡ length (length_field z) → fw ≡ f - b → alike ≡ false
          → record { total = tw; sizes = fw; same = alike; last = zw } ≡ sums_of ns
      unfolding sums_of
      counted_differ {b} eb wf s =
          let left : f - b ≡ length (length_fields (firsts ns)) = omega (arith, fields_whole) in
          rw (wt, wz, wf, left, sum_whole, ← agree_whole, ends, s)

    pub counted_field : {b : ℕ} → b ≡ length (length_field z) → b ≤ f
    counted_field eb = omega (arith, fields_whole)
