-- The lengths of all frames, with the last or the only one left out or said: what is written is read back, and what is read was written so.
-- `sd` is true for the self-delimited form.
--     equal-read, equal_was         frames of one length
--     unequal_read, unequal_was     frames of different lengths, with the length fields of all but the last
-- Assumes nothing.
use Prim.Native.Nat.{ℕ, ◌+◌, ◌*◌, ◌-◌, ◌/◌, ◌%◌, ◌≤◌}
use native.Mathlib.Nat.{mul-mod_right, mul-div_right, div-add-mod}
use native.Mathlib.Omega.{arith}
use mathlib.Core.Path.{◌≡◌, refl}
use mathlib.Core.List.{List, [], ◌∷◌, ◌++◌, append_assoc}
use mathlib.Core.Bool.{Bool, true, false, cond}
use lib.Dec.{ltb, eqb}
use lib.ListN.{length, replicate, length-append}
use borrow.Author.Tests.{ltb-false, eqb-true, le-ltb}
use Rattle.laws.specs.Bytes.{Bytes}
use Rattle.laws.proofs.Never.{never, by_test}
use Rattle.laws.proofs.Bytes.{bytes_after}
use Rattle.opus_size.specs.Size.{most_bytes, length_fields, read_field, Field, no_field, field}
use Rattle.opus_size.proofs.Fields.{field_read, field_was}
use Rattle.opus_format.specs.Frames.{total, longest}
use Rattle.opus_format.specs.Format.{own_length}
use Rattle.opus_defines.specs.declared.Rule.{Rule}
use Rattle.opus_defines.specs.declared.Rule.TheVariants.{R2, R8}
use Rattle.opus_format.specs.Reading.{broken, front, own_last, last_length, own_equal, equal}
use Rattle.opus_format.specs.Reading.{Fields, no_fields, fields, read_fields, together, behind_fields, unequal}
use Rattle.opus_format.proofs.Frames.{total_snoc, longest_snoc, total-same}
use Rattle.opus_format.proofs.Fields.{fields_read, fields_was}

-- k bytes fit into t, and fill it in the ordinary form
pub record Holds (sd : Bool) (k : ℕ) (t : List ℕ) : Type 0 where
  pub enough : k ≤ length t
  pub full : sd ≡ false → length t ≤ k

-- the lengths ns of the frames go by one number; s says it where the form asks for it, and the frames stand in t
pub record FrontWas (sd : Bool) (of : ℕ → List ℕ) (s ns t : List ℕ) : Type 0 where
  pub last : ℕ
  pub same : ns ≡ of last
  pub spelled : s ≡ own_length sd last ++ t
  pub small : last ≤ most_bytes
  pub holds : Holds sd (total ns) t

-- ---- the two forms, whatever lengths go by the number
module _ (of : ℕ → List ℕ) (s ns t : List ℕ) (n : ℕ) where
  -- the frames take all of s
  rest_was : total (of n) ≡ length s → cond (ltb most_bytes n) (broken R2 s) (front (of n) s) ≡ front ns t → FrontWas false of s ns t
  rest_was size e =
      by_test (ltb most_bytes n) (λ d. never (cc))
      (λ d.
      let q : front (of n) s ≡ front ns t = rw d at e in
      let same : ns ≡ of n = cc in
      let place : s ≡ t = cc in
      let long : total ns ≡ length t = rw (same, ← place) size in
      record { last = n; same = same; spelled = place; small = ltb-false most_bytes n d; holds = omega arith })

  -- s says the number, and `need` bytes are enough
  own_was : (u : List ℕ) (need : ℕ) → total (of n) ≡ need → Bytes s → read_field s ≡ field n u
      → cond (ltb (length u) need) (broken R8 s) (front (of n) u) ≡ front ns t → FrontWas true of s ns t
  own_was u need size bytes f e =
      by_test (ltb (length u) need) (λ d. never (cc))
      (λ d.
      let q : front (of n) u ≡ front ns t = rw d at e in
      let same : ns ≡ of n = cc in
      let place : u ≡ t = cc in
      let was = field_was s u n bytes f in
      let long : total ns ≤ length t = rw (same, ← place) (omega (arith, ltb-false (length u) need d)) in
      record { last = n; same = same; spelled = cc was.0; small = was.1; holds = record { enough = long; full = λ x. never (cc) } })

-- ---- frames of different lengths, of which ns are all but the last
abbrev pub ending : List ℕ → ℕ → List ℕ
ending ns n = ns ++ (n ∷ [])

last-read : (sd : Bool) (ns : List ℕ) (n : ℕ) (t : List ℕ) → n ≤ most_bytes → Holds sd (total (ending ns n)) t
    → last_length sd ns (own_length sd n ++ t) ≡ front (ending ns n) t
last-read false ns n t h k =
    let last : length t - total ns ≡ n = omega (arith, k.full refl, k.enough, total_snoc ns n) in
    rw (last, le-ltb most_bytes n h)
last-read true ns n t h k =
    let fits : total ns + n ≤ length t = omega (arith, k.enough, total_snoc ns n) in
    rw (field_read t n h, le-ltb (length t) (total ns + n) fits)

last_was : (sd : Bool) (ns s ms t : List ℕ) → Bytes s → total ns ≤ length s → last_length sd ns s ≡ front ms t → FrontWas sd (ending ns) s ms t
last_was false ns s ms t bytes h e =
    let n = length s - total ns in
    rest_was (ending ns) s ms t n (omega (arith, total_snoc ns n)) e
last_was true ns s ms t bytes h e = go (read_field s) refl e
  where
    go : (f : Field) → read_field s ≡ f → own_last ns s f ≡ front ms t → FrontWas true (ending ns) s ms t
    go no_field d e = never (cc)
    go (field n u) d e = own_was (ending ns) s ms t n u (total ns + n) (total_snoc ns n) bytes d e

-- ---- frames of one length
pub equal-read : (sd : Bool) (r : Rule) (count n : ℕ) (t : List ℕ) → 1 ≤ count → n ≤ most_bytes → Holds sd (total (replicate count n)) t
    → equal sd r count (own_length sd n ++ t) ≡ front (replicate count n) t
equal-read false r count n t c h k =
    let size : length t ≡ count * n = omega (arith, k.full refl, total-same count n) in
    let even : length t % count ≡ 0 = rw (size, mul-mod_right count n) in
    let each : length t / count ≡ n = rw size (mul-div_right n c) in
    rw (even, each, le-ltb most_bytes n h)
equal-read true r count n t c h k =
    let fits : count * n ≤ length t = omega (arith, k.enough, total-same count n) in
    rw (field_read t n h, le-ltb (length t) (count * n) fits)

pub equal_was : (sd : Bool) (r : Rule) (count : ℕ) (s ms t : List ℕ) → Bytes s → equal sd r count s ≡ front ms t
    → FrontWas sd (replicate count) s ms t
equal_was false r count s ms t bytes e =
    let n = length s / count in
    by_test (eqb (length s % count) 0)
    (λ d.
    let size : total (replicate count n) ≡ length s = omega (arith, total-same count n, div-add-mod (length s) count, eqb-true (length s % count) 0 d) in
    rest_was (replicate count) s ms t n size (rw d at e))
    (λ d. never (cc))
equal_was true r count s ms t bytes e = go (read_field s) refl e
  where
    go : (f : Field) → read_field s ≡ f → own_equal count s f ≡ front ms t → FrontWas true (replicate count) s ms t
    go no_field d e = never (cc)
    go (field n u) d e = own_was (replicate count) s ms t n u (count * n) (total-same count n) bytes d e

-- ---- behind the length fields of all frames but the last
pub unequal_read : (sd : Bool) (r : Rule) (ns : List ℕ) (n : ℕ) (t : List ℕ) → longest (ending ns n) ≤ most_bytes → Holds sd (total (ending ns n)) t
    → unequal sd r (length ns) ((length_fields ns ++ own_length sd n) ++ t) ≡ front (ending ns n) t
unequal_read sd r ns n t h k =
    let u = own_length sd n ++ t in
    let room : total ns ≤ length u = omega (arith, k.enough, total_snoc ns n, length-append (own_length sd n) t) in
    let small = longest_snoc ns n in
    rw (append_assoc (length_fields ns) (own_length sd n) t, fields_read ns u (omega (arith, small)) room, le-ltb (length u) (total ns) room)
    (last-read sd ns n t (omega (arith, small)) k)

-- the bytes s begin with the fields of k lengths, and with the last length where the form asks for it
pub record UnequalWas (sd : Bool) (k : ℕ) (s ms t : List ℕ) : Type 0 where
  pub others : List ℕ
  pub last : ℕ
  pub count : length others ≡ k
  pub same : ms ≡ ending others last
  pub spelled : s ≡ (length_fields others ++ own_length sd last) ++ t
  pub small : longest ms ≤ most_bytes
  pub holds : Holds sd (total ms) t

pub unequal_was : (sd : Bool) (r : Rule) (k : ℕ) (s ms t : List ℕ) → Bytes s → unequal sd r k s ≡ front ms t → UnequalWas sd k s ms t
unequal_was sd r k s ms t bytes e = go (read_fields k s) refl e
  where
    fit : (ns u : List ℕ) → read_fields k s ≡ fields ns u → total ns ≤ length u → last_length sd ns u ≡ front ms t → UnequalWas sd k s ms t
    fit ns u d h e =
        let were = fields_was k s ns u bytes d in
        let was = last_was sd ns u ms t (bytes_after (length_fields ns) u (rw were.spelled at bytes)) h e in
        record {
          others = ns;
          last = was.last;
          count = were.count;
          same = was.same;
          spelled = cc (were.spelled, was.spelled, append_assoc (length_fields ns) (own_length sd was.last) t);
          small = rw was.same (omega (arith, longest_snoc ns was.last, were.small, was.small));
          holds = was.holds;
        }

    go : (f : Fields) → read_fields k s ≡ f → behind_fields sd r (together f) ≡ front ms t → UnequalWas sd k s ms t
    go (no_fields u) d e = never (cc)
    go (fields ns u) d e =
        by_test (ltb (length u) (total ns))
        (λ c. never (let q : broken r u ≡ front ms t = rw c at e in cc))
        (λ c. fit ns u d (ltb-false (length u) (total ns) c) (rw c at e))
