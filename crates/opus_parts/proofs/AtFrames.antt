-- Frames behind length fields of a slice, as the code has them: a lent array of 48 lengths, the place of the first frame, and the sum.
--     sizes_inside                  unequal lengths that are all there lie within the slice, and leave room for their frames
--     rest-.., own-..               the last frame takes the rest, or says its length: one law for each `return`
--     shared-.., each-..            equal lengths: the frames share the slice, or say their one length
--     Within, ..-within             frames that were found lie within the slice, and are as many as asked for
-- Assumes nothing.
use Prim.Native.Nat.{ℕ, ◌+◌, ◌*◌, ◌-◌, ◌/◌, ◌%◌, ◌≤◌, ◌<◌}
use native.Mathlib.Omega.{arith}
use native.Mathlib.Nat.{div-add-mod, mul-div-le}
use mathlib.Core.Path.{◌≡◌, sym, ap, ◌∙◌}
use mathlib.Core.List.{List, [], ◌∷◌, ◌++◌}
use mathlib.Core.Bool.{Bool, true, false}
use lib.Dec.{ltb, eqb}
use lib.ListN.{length, drop, set, replicate, length-append, length-drop, length-replicate}
use borrow.Author.Tests.{lt-ltb, le-ltb, eq-eqb, ne_eqb, ltb-false}
use Rattle.laws.proofs.Never.{cond_elim}
use Rattle.opus_size.specs.Size.{most_bytes, Field, read_field, no_field, field}
use Rattle.opus_size.proofs.At.{Read, nothing, something, read_at, Found}
use Rattle.opus_format.specs.Frames.{total}
use Rattle.opus_defines.specs.declared.Rule.{Rule}
use Rattle.opus_defines.specs.declared.Rule.TheVariants.{R2, R8}
use Rattle.opus_format.specs.Reading.{Front, broken, front, own_last, last_length, Fields, read_fields, together, behind_fields}
use Rattle.opus_format.specs.Reading.{unequal, own_equal, equal}
use Rattle.opus_format.specs.Frames.{padded48}
use Rattle.opus_parts.specs.Parts.{SizesRead, FramesRead}
use Rattle.std.specs.Prelude.{Err, Ok, Result}
use Rattle.opus_format.proofs.Frames.{total_snoc, total-same}
use Rattle.opus_parts.proofs.AtSizes.{padded_more, place_is, Known, known, Fitting, misfit, fit, fitting}

-- a rule that is broken at a place
abbrev broken_at : Rule → ℕ → Result (ℕ × ℕ) (Rule × ℕ)
broken_at rule place = Err (rule, place)

-- ---- frames from a place of the slice on
-- of unequal lengths, the last of which is stored behind the others
unequal_at : (s ns lengths : List ℕ) (n k next sum : ℕ) → length ns ≡ k → k < 48 → next ≤ length s → lengths ≡ padded48 ns → sum
    ≡ total ns + n
    → FramesRead s (front (ns ++ (n ∷ [])) (drop next s)) (Ok (next, sum)) (set lengths k n)
unequal_at s ns lengths n k next sum l b h f t =
    let all : total (ns ++ (n ∷ [])) ≡ sum = omega (arith, total_snoc ns n) in
    (rw (place_is s next h, all), ap (λ (x : List ℕ). set x k n) f ∙ padded_more ns n k l b)

-- of one length
equal_at_lem : (s lengths : List ℕ) (count n next sum : ℕ) → lengths ≡ padded48 (replicate count n) → next ≤ length s → sum ≡ count * n
    → FramesRead s (front (replicate count n) (drop next s)) (Ok (next, sum)) lengths
equal_at_lem s lengths count n next sum f h t = (rw (place_is s next h, total-same count n, t), f)

-- ---- unequal lengths
pub sizes_inside : (s : List ℕ) (k next sum : ℕ) (lengths : List ℕ) → SizesRead s (together (read_fields k s)) (Ok (next, sum)) lengths
    → (next ≤ length s) × (sum ≤ length s - next)
sizes_inside s k next sum lengths e = let all = known s k next sum lengths e in (all.inside, all.fits)

module _ (s : List ℕ) (k : ℕ) (r : Rule) where
  module _ (next sum : ℕ) (lengths : List ℕ) (e : SizesRead s (together (read_fields k s)) (Ok (next, sum)) lengths) where
    found : Known s k next sum lengths
    found = known s k next sum lengths e

    left : length (drop next s) ≡ length s - next
    left = length-drop next s

    -- what breaks behind the fields points there
    there : (x : Rule) → broken_at x next ≡ broken_at x (length s - length (drop next s))
    there x = ap (broken_at x) (sym (place_is s next found.inside))

    pub rest_long : most_bytes < length s - next - sum → (l : List ℕ) → FramesRead s (unequal false r k s) (Err (R2, next)) l
    rest_long m l = rw (found.means, left, ← found.summed, lt-ltb _ _ m) (there R2, tt)

    pub rest_read : k < 48 → length s - next - sum ≤ most_bytes
        → FramesRead s (unequal false r k s) (Ok (next, length s - next)) (set lengths k (length s - next - sum))
    rest_read b m =
        let n = length s - next - sum in
        let last : unequal false r k s ≡ front (found.ns ++ (n ∷ [])) (drop next s) = rw (found.means, left, ← found.summed, le-ltb _ _ m) in
        rw last (unequal_at s found.ns lengths n k next _ found.count b found.inside found.filled (omega (arith, found.summed, found.fits)))

    pub own_short : read_field (drop next s) ≡ no_field → (l : List ℕ) → FramesRead s (unequal true r k s) (Err (R8, next)) l
    own_short e l = rw (found.means, e) (there R8, tt)

    module _ (n first wide : ℕ) (g : Found s next n first) (q : wide ≡ n) where
      pub own_over : length s - first < sum + wide → (l : List ℕ) → FramesRead s (unequal true r k s) (Err (R8, next)) l
      own_over m l =
          let less : ltb (length (drop first s)) (total found.ns + n) ≡ true =
          lt-ltb (length (drop first s)) (total found.ns + n) (omega (arith, length-drop first s, found.summed)) in
          rw (found.means, g.means, less) (there R8, tt)

      pub own_read : k < 48 → sum + wide ≤ length s - first → FramesRead s (unequal true r k s) (Ok (first, sum + wide)) (set lengths k n)
      own_read b m =
          let enough : ltb (length (drop first s)) (total found.ns + n) ≡ false =
          le-ltb (length (drop first s)) (total found.ns + n) (omega (arith, length-drop first s, found.summed)) in
          rw (found.means, g.means, enough)
          (unequal_at s found.ns lengths n k first _ found.count b g.within found.filled (omega (arith, found.summed)))

-- ---- equal lengths
module _ (s : List ℕ) (count : ℕ) (r : Rule) where
  -- what breaks points at the front of the slice
  at_front : (x : Rule) → broken_at x 0 ≡ broken_at x (length s - length s)
  at_front x = let none : 0 ≡ length s - length s = omega arith in ap (broken_at x) none

  pub shared_uneven : (length s % count ≡ 0 → ⊥) → (l : List ℕ) → FramesRead s (equal false r count s) (Err (r, 0)) l
  shared_uneven n l = rw (ne_eqb _ _ n) (at_front r, tt)

  module _ (z : length s % count ≡ 0) where
    pub shared_long : most_bytes < length s / count → (l : List ℕ) → FramesRead s (equal false r count s) (Err (R2, 0)) l
    shared_long h l = rw (eq-eqb _ _ z, lt-ltb _ _ h) (at_front R2, tt)

    pub shared_read : (lengths : List ℕ) → lengths ≡ padded48 (replicate count (length s / count)) → length s / count ≤ most_bytes
        → FramesRead s (equal false r count s) (Ok (0, length s)) lengths
    shared_read lengths f h =
        let all : length s ≡ count * (length s / count) = omega (arith, div-add-mod (length s) count) in
        let each : equal false r count s ≡ front (replicate count (length s / count)) s = rw (eq-eqb _ _ z, le-ltb _ _ h) in
        rw each (equal_at_lem s lengths count (length s / count) 0 (length s) f (omega arith) all)

  pub each-short : read_field s ≡ no_field → (l : List ℕ) → FramesRead s (equal true r count s) (Err (R8, 0)) l
  each-short e l = rw e (at_front R8, tt)

  module _ (n first wide : ℕ) (g : Found s 0 n first) (q : wide ≡ n) where
    product : count * wide ≡ count * n
    product = ap (λ (x : ℕ). count * x) q

    pub each_over : length s - first < count * wide → (l : List ℕ) → FramesRead s (equal true r count s) (Err (R8, 0)) l
    each_over h l =
        let less : ltb (length (drop first s)) (count * n) ≡ true =
        lt-ltb (length (drop first s)) (count * n) (omega (arith, length-drop first s, product)) in
        rw (g.means, less) (at_front R8, tt)

    pub each_read : (lengths : List ℕ) → lengths ≡ padded48 (replicate count n) → count * wide ≤ length s - first
        → FramesRead s (equal true r count s) (Ok (first, count * wide)) lengths
    each_read lengths f h =
        let enough : ltb (length (drop first s)) (count * n) ≡ false =
        le-ltb (length (drop first s)) (count * n) (omega (arith, length-drop first s, product)) in
        rw (g.means, enough) (equal_at_lem s lengths count n first (count * wide) f g.within product)

-- ---- frames that were found lie within the slice, and are as many as asked for; a field that breaks lies within it
abbrev pub Within : ℕ → ℕ → Front → Type 0
Within m count (broken r t) = length t ≤ m
Within m count (front ns t) = (length t ≤ m) × (total ns ≤ length t) × (length ns ≡ count)

module _ (s : List ℕ) (count : ℕ) where
  -- a fact of what follows from a field at a place
  from_field : (g : Field → Front) (at : ℕ) → Within (length s) count (g no_field)
      → ((n : ℕ) (t : List ℕ) → length t ≤ length s → Within (length s) count (g (field n t)))
      → Within (length s) count (g (read_field (drop at s)))
  from_field g at none one = go (read_at s at)
    where
      go : Read s at → Within (length s) count (g (read_field (drop at s)))
      go (nothing r) = rw r none
      go (something n next l w r) = rw r (one n (drop next s) (omega (arith, length-drop next s)))

  last_within : (sd : Bool) (ns : List ℕ) (at : ℕ) → length ns + 1 ≡ count → total ns ≤ length (drop at s)
      → Within (length s) count (last_length sd ns (drop at s))
  last_within false ns at c h =
      cond_elim (Within (length s) count) (ltb most_bytes (length (drop at s) - total ns)) _ _ (λ e. omega (arith, length-drop at s))
      (λ e. (
        omega (arith, length-drop at s),
        omega (arith, total_snoc ns (length (drop at s) - total ns)),
        omega (arith, length-append ns ((length (drop at s) - total ns) ∷ [])),
      ))
  last_within true ns at c h =
      from_field (own_last ns (drop at s)) at (omega (arith, length-drop at s))
      (λ n t l.
      cond_elim (Within (length s) count) (ltb (length t) (total ns + n)) _ _ (λ e. omega (arith, length-drop at s))
      (λ e. (l, omega (arith, ltb-false (length t) (total ns + n) e, total_snoc ns n), omega (arith, length-append ns (n ∷ [])))))

  pub unequal-within : (sd : Bool) (r : Rule) (k : ℕ) → k + 1 ≡ count → Within (length s) count (unequal sd r k s)
  unequal-within sd r k c = go (fitting s k)
    where
      go : {f : Fields} → Fitting s k f → Within (length s) count (behind_fields sd r f)
      go (misfit t h) = h
      go (fit ns next l h room) = last_within sd ns next (omega arith) (omega (arith, length-drop next s))

  pub equal-within : (sd : Bool) (r : Rule) → Within (length s) count (equal sd r count s)
  equal-within false r =
      cond_elim (Within (length s) count) (eqb (length s % count) 0) _ _
      (λ e. cond_elim (Within (length s) count) (ltb most_bytes (length s / count)) _ _ (λ e₂. omega arith)
      (λ e₂. (omega arith, omega (arith, total-same count (length s / count), mul-div-le (length s) count), length-replicate count (length s / count))))
      (λ e. omega arith)
  equal-within true r =
      from_field (own_equal count s) 0 (omega arith)
      (λ n t l.
      cond_elim (Within (length s) count) (ltb (length t) (count * n)) _ _ (λ e. omega arith)
      (λ e. (l, omega (arith, ltb-false (length t) (count * n) e, total-same count n), length-replicate count n)))
