-- A packet that is refused breaks the rule that is named, at the place that is named (document 02, M-100).
--     fields_broke, unequal_broke, equal_broke     what breaks in front of the frames: the rule, and the bytes from the field concerned on
--     refused_breaks                               packets
--     refused_stands_not                           and RFC 6716 spells no packet there
-- Assumes nothing.
use Prim.Native.Nat.{ℕ, zero, suc, ◌+◌, ◌*◌, ◌-◌, ◌/◌, ◌%◌, ◌≤◌, ◌<◌}
use native.Mathlib.Omega.{arith}
use mathlib.Core.Path.{◌≡◌, refl, sym, ap, ◌∙◌}
use mathlib.Core.List.{List, [], ◌∷◌, ◌++◌, append_assoc, append-nil}
use mathlib.Core.Bool.{Bool, true, false}
use lib.Dec.{ltb, eqb}
use lib.ListN.{length, take, drop, length-append, length-drop, take-append-drop}
use lib.Seq.{take-append-add}
use borrow.Author.Tests.{ltb-true, ltb-false, eqb-false}
use Rattle.laws.specs.Bytes.{Bytes}
use Rattle.laws.proofs.Bytes.{bytes_after, bytes_tail, bytes_take}
use Rattle.laws.proofs.Never.{never, by_test}
use Rattle.opus_defines.specs.declared.Rule.{Rule}
use Rattle.opus_defines.specs.declared.Rule.TheVariants.{R1, R2, R3, R4, R5, R6, R7, R8}
use Rattle.opus_size.specs.Size.{most_bytes, length_field, length_fields, Field as Read, no_field, field, read_field}
use Rattle.opus_size.proofs.Fields.{field_read, field_was}
use Rattle.std.specs.Prelude.{Ok}
use Rattle.opus_toc.specs.Toc.{upper_six}
use Rattle.opus_toc.specs.Answers.{frames_by_code, nb_frames}
use Rattle.opus_format.specs.Frames.{total}
use Rattle.opus_format.specs.Format.{Lasts, Padding, Spells, Behind}
use Rattle.opus_format.specs.Reading.{Front, broken, front, own_last, last_length, Fields, no_fields, fields, before, read_fields, together as fitted}
use Rattle.opus_format.specs.Reading.{behind_fields, unequal, own_equal, equal, read_padding, frames3, size_rule, lasts, pointed, accept, behind_padding}
use Rattle.opus_format.specs.Reading.{read3, refused, read_code, read}
use Rattle.opus_format.specs.Broken.{Cramped, Unpaddable, EachFits, Start, plain, counted, Place, Breaks, empty, implied, shared, odd, first}
use Rattle.opus_format.specs.Broken.{uncounted, long, equal_padding, undivided, unequal_padding, one, together, last, each}
use Rattle.opus_format.proofs.Fields.{fields_was}
use Rattle.opus_format.proofs.Padding.{padding_read, padding_was}
use Rattle.opus_format.proofs.Counts.{lasts_passes, passed_lasts}
use Rattle.opus_format.proofs.Complete.{spelled_read}

-- ---- one length field
-- what is read of u tells all that a length field there could say
cramped_none : (of : ℕ → ℕ) (u : List ℕ) → read_field u ≡ no_field → Cramped of u
cramped_none of u r n t h e = never (let q = sym (field_read t n h) ∙ (ap read_field (sym e) ∙ r) in cc)

cramped_over : (of : ℕ → ℕ) (u : List ℕ) (m : ℕ) (s : List ℕ) → read_field u ≡ field m s → length s < of m → Cramped of u
cramped_over of u m s r over n t h e =
    let q : field n t ≡ field m s = sym (field_read t n h) ∙ (ap read_field (sym e) ∙ r) in
    let length_is : m ≡ n = cc in
    let rest-is : s ≡ t = cc in
    rw (← length_is, ← rest-is) over

-- ---- several
record Broke (k : ℕ) (s u : List ℕ) : Type 0 where
  ns : List ℕ
  some : length ns < k
  whole : s ≡ length_fields ns ++ u
  fits : EachFits ns u
  only : k ≡ 1 → s ≡ u
  why : Cramped (λ n. n) u

fields_broke : (k : ℕ) (s u : List ℕ) → Bytes s → read_fields k s ≡ no_fields u → Broke k s u
fields_broke zero s u bytes e = never (cc)
fields_broke (suc k) s u bytes e = go (fields_broke k) (read_field s) refl
  where
    here : s ≡ u → Cramped (λ n. n) s → Broke (suc k) s u
    here same why = rw (← same) (record { ns = []; some = omega arith; whole = refl; fits = tt; only = λ q. refl; why = why })

    behind : ((s u : List ℕ) → Bytes s → read_fields k s ≡ no_fields u → Broke k s u) → (n : ℕ) (t : List ℕ) → read_field s ≡ field n t
        → n ≤ length t
        → (f : Fields) → read_fields k t ≡ f → before n f ≡ no_fields u → Broke (suc k) s u
    behind ih n t r h (fields ms v) d q = never (cc)
    behind ih n t r h (no_fields v) d q =
        let same : no_fields v ≡ no_fields u = q in
        let was = field_was s t n bytes r in
        let b = ih t u (bytes_after (length_field n) t (rw was.0 at bytes)) (d ∙ same) in
        record {
          ns = n ∷ b.ns;
          some = omega (arith, b.some);
          whole = cc (was.0, b.whole, append_assoc (length_field n) (length_fields b.ns) u);
          fits = (rw (← b.whole) h, b.fits);
          only = λ q. absurd (omega (arith, b.some));
          why = b.why;
        }

    go : ((s u : List ℕ) → Bytes s → read_fields k s ≡ no_fields u → Broke k s u) → (f : Read) → read_field s ≡ f → Broke (suc k) s u
    go ih no_field r = let q : no_fields s ≡ no_fields u = rw r at e in here (cc) (cramped_none (λ n. n) s r)
    go ih (field n t) r =
        by_test (ltb (length t) n)
        (λ c. let q : no_fields s ≡ no_fields u = rw (r, c) at e in here (cc) (cramped_over (λ n. n) s n t r (ltb-true (length t) n c)))
        (λ c. behind ih n t r (ltb-false (length t) n c) (read_fields k t) refl (rw (r, c) at e))

-- fields that are all there: each fits
fields_fit : (k : ℕ) (s ns v : List ℕ) → Bytes s → read_fields k s ≡ fields ns v → EachFits ns v
fields_fit zero s ns v bytes e = let none : [] ≡ ns = cc in rw (← none) tt
fields_fit (suc k) s ns v bytes e = go (fields_fit k) (read_field s) refl
  where
    Fit : Type 0
    Fit = (s ns v : List ℕ) → Bytes s → read_fields k s ≡ fields ns v → EachFits ns v

    others : Fit → (n : ℕ) (t : List ℕ) → read_field s ≡ field n t → n ≤ length t → (f : Fields) → read_fields k t ≡ f → before n f
        ≡ fields ns v → EachFits ns v
    others ih n t r h (no_fields u) d q = never (cc)
    others ih n t r h (fields ms u) d q =
        let lengths_are : n ∷ ms ≡ ns = cc in
        let rest-is : u ≡ v = cc in
        let inner = bytes_after (length_field n) t (rw (field_was s t n bytes r).0 at bytes) in
        rw (← lengths_are, ← rest-is) (rw (← (fields_was k t ms u inner d).spelled) h, ih t ms u inner d)

    go : Fit → (f : Read) → read_field s ≡ f → EachFits ns v
    go ih no_field r = never (let q = rw r at e in cc)
    go ih (field n t) r =
        by_test (ltb (length t) n) (λ c. never (let q = rw (r, c) at e in cc))
        (λ c. others ih n t r (ltb-false (length t) n c) (read_fields k t) refl (rw (r, c) at e))

-- ---- unequal lengths
-- k length fields that are all there, and each fits
record All (k : ℕ) (s ns u : List ℕ) : Type 0 where
  count : length ns ≡ k
  whole : s ≡ length_fields ns ++ u
  fits : EachFits ns u

data Bad (sd : Bool) (r : Rule) (k : ℕ) (s : List ℕ) : Rule → List ℕ → Type 0 where
  some : (u : List ℕ) → Broke k s u → Bad sd r k s r u
  sum : (ns u : List ℕ) → (k ≡ 1 → ⊥) → (k ≡ 0 → ⊥) → All k s ns u → length u < total ns → Bad sd r k s r u
  rest : (ns u : List ℕ) → sd ≡ false → All k s ns u → most_bytes < length u - total ns → Bad sd r k s R2 u
  own : (ns u : List ℕ) → sd ≡ true → All k s ns u → Cramped (λ n. total ns + n) u → Bad sd r k s R8 u

-- one length that fits, and none, are not too long together
few_fit : (k : ℕ) (s ns u : List ℕ) → read_fields k s ≡ fields ns u → length u < total ns → (k ≡ 1 → ⊥) × (k ≡ 0 → ⊥)
few_fit zero s ns u e over = absurd (let none : ns ≡ [] = cc in let z = ap total none in omega arith)
few_fit (suc zero) s ns u e over = absurd (go (read_field s) refl)
  where
    go : (f : Read) → read_field s ≡ f → ⊥
    go no_field r = never (let q = rw r at e in cc)
    go (field n t) r =
        by_test (ltb (length t) n) (λ c. never (let q = rw (r, c) at e in cc))
        (λ c.
        let q : fields (n ∷ []) t ≡ fields ns u = rw (r, c) at e in
        let lengths_are : n ∷ [] ≡ ns = cc in
        let rest-is : t ≡ u = cc in
        let sum_is : total (n ∷ []) ≡ total ns = ap total lengths_are in
        let long-is : length t ≡ length u = ap length rest-is in
        omega (arith, ltb-false (length t) n c))
few_fit (suc (suc k)) s ns u e over = (λ q. omega arith, λ q. omega arith)

module _ (sd : Bool) (r : Rule) (k : ℕ) (s : List ℕ) (bytes : Bytes s) where
  last_broke : (ns v : List ℕ) → All k s ns v → (sd₂ : Bool) → sd ≡ sd₂ → (x : Rule) (u : List ℕ) → last_length sd₂ ns v ≡ broken x u
      → Bad sd r k s x u
  last_broke ns v whole false d x u e =
      by_test (ltb most_bytes (length v - total ns))
      (λ c.
      let q : broken R2 v ≡ broken x u = rw c at e in
      let rule-is : R2 ≡ x = cc in
      let same : v ≡ u = cc in
      rw (← rule-is, ← same) (rest ns v d whole (ltb-true most_bytes (length v - total ns) c)))
      (λ c. never (let q = rw c at e in cc))
  last_broke ns v whole true d x u e = go (read_field v) refl e
    where
      done : broken R8 v ≡ broken x u → Cramped (λ n. total ns + n) v → Bad sd r k s x u
      done q why =
          let rule-is : R8 ≡ x = cc in
          let same : v ≡ u = cc in
          rw (← rule-is, ← same) (own ns v d whole why)

      go : (f : Read) → read_field v ≡ f → own_last ns v f ≡ broken x u → Bad sd r k s x u
      go no_field q e = done e (cramped_none (λ n. total ns + n) v q)
      go (field n t) q e =
          by_test (ltb (length t) (total ns + n))
          (λ c. done (rw c at e) (cramped_over (λ n. total ns + n) v n t q (ltb-true (length t) (total ns + n) c)))
          (λ c. never (let z = rw c at e in cc))

  unequal_broke : (x : Rule) (u : List ℕ) → unequal sd r k s ≡ broken x u → Bad sd r k s x u
  unequal_broke x u e = go (read_fields k s) refl e
    where
      alike_broken : (v : List ℕ) → broken r v ≡ broken x u → Bad sd r k s r v → Bad sd r k s x u
      alike_broken v q b =
          let rule-is : r ≡ x = cc in
          let same : v ≡ u = cc in
          rw (← rule-is, ← same) b

      go : (f : Fields) → read_fields k s ≡ f → behind_fields sd r (fitted f) ≡ broken x u → Bad sd r k s x u
      go (no_fields v) d e = alike_broken v e (some v (fields_broke k s v bytes d))
      go (fields ns v) d e =
          let were = fields_was k s ns v bytes d in
          let whole : All k s ns v = record { count = were.count; whole = were.spelled; fits = fields_fit k s ns v bytes d } in
          by_test (ltb (length v) (total ns))
          (λ c.
          let over = ltb-true (length v) (total ns) c in
          let f = few_fit k s ns v d over in
          alike_broken v (rw c at e) (sum ns v f.0 f.1 whole over))
          (λ c. last_broke ns v whole sd refl x u (rw c at e))

-- ---- equal lengths: they break at the front of s
data Uneven (sd : Bool) (r : Rule) (count : ℕ) (s : List ℕ) : Rule → Type 0 where
  uneven : sd ≡ false → (length s % count ≡ 0 → ⊥) → Uneven sd r count s r
  divided : sd ≡ false → most_bytes < length s / count → Uneven sd r count s R2
  alike : sd ≡ true → Cramped (λ n. count * n) s → Uneven sd r count s R8

equal_broke : (sd : Bool) (r : Rule) (count : ℕ) (s : List ℕ) (x : Rule) (u : List ℕ) → equal sd r count s ≡ broken x u → (Uneven sd r count s x)
    × (s ≡ u)
equal_broke false r count s x u e =
    by_test (eqb (length s % count) 0)
    (λ c. by_test (ltb most_bytes (length s / count))
    (λ d.
    let q : broken R2 s ≡ broken x u = rw (c, d) at e in
    let rule-is : R2 ≡ x = cc in
    (rw (← rule-is) (divided refl (ltb-true most_bytes (length s / count) d)), cc))
    (λ d. never (let q = rw (c, d) at e in cc)))
    (λ c.
    let q : broken r s ≡ broken x u = rw c at e in
    let rule-is : r ≡ x = cc in
    (rw (← rule-is) (uneven refl (eqb-false (length s % count) 0 c)), cc))
equal_broke true r count s x u e = go (read_field s) refl e
  where
    done : broken R8 s ≡ broken x u → Cramped (λ n. count * n) s → (Uneven true r count s x) × (s ≡ u)
    done q why = let rule-is : R8 ≡ x = cc in (rw (← rule-is) (alike refl why), cc)

    go : (f : Read) → read_field s ≡ f → own_equal count s f ≡ broken x u → (Uneven true r count s x) × (s ≡ u)
    go no_field q e = done e (cramped_none (λ n. count * n) s q)
    go (field n t) q e =
        by_test (ltb (length t) (count * n))
        (λ c. done (rw c at e) (cramped_over (λ n. count * n) s n t q (ltb-true (length t) (count * n) c)))
        (λ c. never (let z = rw c at e in cc))

-- ---- packets
accept_broke : (m toc pad : ℕ) (f : Front) (x : Rule) (place : ℕ) → accept m toc pad f ≡ refused x place
    → (u : List ℕ) × (f ≡ broken x u) × (pointed x (m - pad - length u) ≡ place)
accept_broke m toc pad (broken r u) x place e =
    let rule-is : r ≡ x = cc in
    let at : pointed r (m - pad - length u) ≡ place = cc in
    (u, ap (λ y. broken y u) rule-is, rw rule-is at at)
accept_broke m toc pad (front ns t) x place e = never (cc)

-- behind the bytes a, with which the packet starts, and in front of its padding q stands s
module _ (sd : Bool) (p a s q : List ℕ) (whole : p ≡ a ++ (s ++ q)) (starts : Start p a (length q)) where
  parts_long : length p ≡ length a + length s + length q
  parts_long = rw whole (omega (arith, length-append a (s ++ q), length-append s q))

  without : take (length p - length q) p ≡ a ++ s
  without =
      let size : length p - length q ≡ length (a ++ s) + 0 = omega (arith, parts_long, length-append a s) in
      let parts : p ≡ (a ++ s) ++ q = whole ∙ sym (append_assoc a s q) in
      ap (λ n. take n p) size ∙ (ap (take (length (a ++ s) + 0)) parts ∙ (take-append-add (a ++ s) q 0 ∙ append-nil (a ++ s)))

  -- the place of u
  abbrev at : List ℕ → ℕ
  at u = length p - length q - length u

  placed : (ns u : List ℕ) → s ≡ length_fields ns ++ u → EachFits ns u → Place p ns (at u) u
  placed ns u e fits =
      record {
        start = a;
        pad = length q;
        starts = starts;
        whole = without ∙ ap (λ l. a ++ l) e;
        fits = fits;
        at = omega (arith, parts_long, length-append a (length_fields ns), ap length e, length-append (length_fields ns) u);
      }

  all_placed : {k : ℕ} (ns u : List ℕ) → All k s ns u → Place p ns (at u) u
  all_placed ns u l = placed ns u l.whole l.fits

  here : Place p [] (at s) s
  here = placed [] s refl tt

  -- unequal lengths, where r is the rule of a length
  module _ (r : Rule) (k : ℕ) (frames : nb_frames p ≡ Ok (suc k)) (some-breaks : (u : List ℕ) → Broke k s u → Breaks sd p r (pointed r (at u)))
      (sum-breaks : (ns u : List ℕ) → (k ≡ 1 → ⊥) → (k ≡ 0 → ⊥) → All k s ns u → length u < total ns
      → Breaks sd p r (pointed r (at u))) where
    said_all : (ns u : List ℕ) → All k s ns u → nb_frames p ≡ Ok (suc (length ns))
    said_all ns u l = frames ∙ ap (λ n. Ok (suc n)) (sym l.count)

    bad_breaks : {x : Rule} {u : List ℕ} → Bad sd r k s x u → Breaks sd p x (pointed x (at u))
    bad_breaks (some u b) = some-breaks u b
    bad_breaks (sum ns u n z l over) = sum-breaks ns u n z l over
    bad_breaks (rest ns u d l over) = implied ns u (at u) d (all_placed ns u l) (said_all ns u l) over
    bad_breaks (own ns u d l why) = last ns u (at u) d (all_placed ns u l) (said_all ns u l) why

  -- equal ones
  module _ (r : Rule) (count : ℕ) (frames : nb_frames p ≡ Ok count)
      (uneven-breaks : sd ≡ false → (length s % count ≡ 0 → ⊥) → Breaks sd p r (pointed r (at s))) where
    uneven_all : {x : Rule} → Uneven sd r count s x → Breaks sd p x (pointed x (at s))
    uneven_all (uneven d n) = uneven-breaks d n
    uneven_all (divided d over) = shared count s (at s) d here frames over
    uneven_all (alike d why) = each count s (at s) d here frames why

-- codes 0 to 2
module _ (sd : Bool) (toc : ℕ) (s : List ℕ) (bytes : Bytes s) where
  packet_whole : toc ∷ s ≡ (toc ∷ []) ++ (s ++ [])
  packet_whole = ap (λ l. toc ∷ l) (sym (append-nil s))

  starts_plain : (c : ℕ) → toc % 4 ≡ c → c < 3 → Start (toc ∷ s) (toc ∷ []) 0
  starts_plain c e h = plain toc s refl (λ t. omega arith)

  said_by : (c : ℕ) → toc % 4 ≡ c → nb_frames (toc ∷ s) ≡ frames_by_code c s
  unfolding nb_frames
  said_by c e = rw e

  code0 : toc % 4 ≡ 0 → (x : Rule) (place : ℕ) → accept (suc (length s)) toc 0 (unequal sd R2 0 s) ≡ refused x place → Breaks sd (toc ∷ s) x place
  code0 c x place e =
      let b = accept_broke (suc (length s)) toc 0 (unequal sd R2 0 s) x place e in
      rw b.2 at
      (bad_breaks sd (toc ∷ s) (toc ∷ []) s [] packet_whole (starts_plain 0 c (omega arith)) R2 0 (said_by 0 c)
      (λ u w. absurd (omega (arith, w.some))) (λ ns u n z w over. absurd (z refl))
      (unequal_broke sd R2 0 s bytes x b.0 b.1))

  code1 : toc % 4 ≡ 1 → (x : Rule) (place : ℕ) → accept (suc (length s)) toc 0 (equal sd R3 2 s) ≡ refused x place → Breaks sd (toc ∷ s) x place
  code1 c x place e =
      let b = accept_broke (suc (length s)) toc 0 (equal sd R3 2 s) x place e in
      let w = equal_broke sd R3 2 s x b.0 b.1 in
      let rest-is : suc (length s) - 1 ≡ length s = omega arith in
      let at_is = ap (λ l. pointed x (suc (length s) - 0 - length l)) w.1 ∙ b.2 in
      rw at_is at
      (uneven_all sd (toc ∷ s) (toc ∷ []) s [] packet_whole (starts_plain 1 c (omega arith)) R3 2 (said_by 1 c) (λ d n. odd d c (rw rest-is n)) w.0)

  code2 : toc % 4 ≡ 2 → (x : Rule) (place : ℕ) → accept (suc (length s)) toc 0 (unequal sd R4 1 s) ≡ refused x place → Breaks sd (toc ∷ s) x place
  code2 c x place e =
      let b = accept_broke (suc (length s)) toc 0 (unequal sd R4 1 s) x place e in
      rw b.2 at
      (bad_breaks sd (toc ∷ s) (toc ∷ []) s [] packet_whole (starts_plain 2 c (omega arith)) R4 1 (said_by 2 c) field_breaks
      (λ ns u n z w over. absurd (n refl)) (unequal_broke sd R4 1 s bytes x b.0 b.1))
    where
      field_breaks : (u : List ℕ) → Broke 1 s u → Breaks sd (toc ∷ s) R4 (suc (length s) - 0 - length u)
      field_breaks u w =
          let same : s ≡ u = w.only refl in
          let at_one : suc (length s) - 0 - length u ≡ 1 = omega (arith, ap length same) in
          rw at_one (first c (rw same w.why))

-- code 3
padding_cut : (s : List ℕ) → read_padding 1 s ≡ no_field → Unpaddable s
padding_cut s r chain left pad d e = never (let q = sym (padding_read d left) ∙ (ap (read_padding 1) (sym e) ∙ r) in cc)

padding_over : (s : List ℕ) (n : ℕ) (t : List ℕ) → read_padding 1 s ≡ field n t → length t < n → Unpaddable s
padding_over s n t r over chain left pad d e =
    let q : field pad left ≡ field n t = sym (padding_read d left) ∙ (ap (read_padding 1) (sym e) ∙ r) in
    let pad-is : n ≡ pad = cc in
    let left_is : t ≡ left = cc in
    rw (← pad-is, ← left_is) over

module _ (sd : Bool) (toc c : ℕ) (s : List ℕ) (three : toc % 4 ≡ 3) (bytes : Bytes s) where
  unpaddable : (v : ℕ) → c / 128 % 2 ≡ v → Unpaddable s → Breaks sd (toc ∷ c ∷ s) (size_rule v) 2
  unpaddable zero d u = equal_padding three d u
  unpaddable (suc v) d u = unequal_padding three (λ z. never (let q = sym d ∙ z in cc)) u

  -- the frames, between the padding lengths a and the padding q
  module _ (a b q : List ℕ) (whole : s ≡ a ++ (b ++ q)) (inner : Bytes b) (padding : Padding (c / 64 % 2) a (length q)) (count : 1 ≤ c % 64) where
    all : toc ∷ c ∷ s ≡ (toc ∷ c ∷ a) ++ (b ++ q)
    all = ap (λ l. toc ∷ c ∷ l) whole

    starts_counted : Start (toc ∷ c ∷ s) (toc ∷ c ∷ a) (length q)
    starts_counted = counted toc c a (b ++ q) (length q) all three padding (omega (arith, length-append b q))

    said_3 : (n : ℕ) → c % 64 ≡ n → nb_frames (toc ∷ c ∷ s) ≡ Ok n
    unfolding nb_frames
    said_3 n e = rw (three, e)

    frames_break : (v : ℕ) → c / 128 % 2 ≡ v → (x : Rule) (place : ℕ)
        → accept (suc (suc (length s))) toc (length q) (frames3 sd v (c % 64) b) ≡ refused x place → Breaks sd (toc ∷ c ∷ s) x place
    frames_break zero d x place e =
        let w = accept_broke (suc (suc (length s))) toc (length q) (equal sd R6 (c % 64) b) x place e in
        let y = equal_broke sd R6 (c % 64) b x w.0 w.1 in
        let at_is = ap (λ l. pointed x (suc (suc (length s)) - length q - length l)) y.1 ∙ w.2 in
        let p = toc ∷ c ∷ s in
        rw at_is at
        (uneven_all sd p (toc ∷ c ∷ a) b q all starts_counted R6 (c % 64) (said_3 (c % 64) refl)
        (λ f n. undivided b _ f three d (here sd p (toc ∷ c ∷ a) b q all starts_counted) n) y.0)
    frames_break (suc v) d x place e =
        let w = accept_broke (suc (suc (length s))) toc (length q) (unequal sd R7 (c % 64 - 1) b) x place e in
        let flag : c / 128 % 2 ≡ 0 → ⊥ = λ z. never (let y = sym d ∙ z in cc) in
        let p = toc ∷ c ∷ s in
        let start = toc ∷ c ∷ a in
        rw w.2 at
        (bad_breaks sd p start b q all starts_counted R7 (c % 64 - 1) (said_3 (suc (c % 64 - 1)) (omega arith))
        (λ u k. one k.ns u _ three flag (placed sd p start b q all starts_counted k.ns u k.whole k.fits) (omega (arith, k.some)) k.why)
        (λ ns u n z k over. together ns u _ three flag (all_placed sd p start b q all starts_counted ns u k) (omega (arith, k.count)) over)
        (unequal_broke sd R7 (c % 64 - 1) b inner x w.0 w.1))

  -- the padding
  padding_break : Lasts (upper_six toc) (c % 64) → (x : Rule) (place : ℕ)
      → behind_padding sd (suc (suc (length s))) toc (c / 128 % 2) (c % 64) (read_padding (c / 64 % 2) s) ≡ refused x place
      → Breaks sd (toc ∷ c ∷ s) x place
  padding_break l x place e = go (read_padding (c / 64 % 2) s) refl e
    where
      done : refused (size_rule (c / 128 % 2)) 2 ≡ refused x place → Unpaddable s → Breaks sd (toc ∷ c ∷ s) x place
      done q u =
          let rule-is : size_rule (c / 128 % 2) ≡ x = cc in
          let at-two : 2 ≡ place = cc in
          rw (← rule-is, ← at-two) (unpaddable (c / 128 % 2) refl u)

      -- without its flag there is no padding
      flagged : (p : ℕ) → c / 64 % 2 ≡ p → p < 2 → (f : Read) → read_padding (c / 64 % 2) s ≡ f → (f ≡ field 0 s → ⊥) → read_padding 1 s
          ≡ f
      flagged zero d h f r n = absurd (n (sym r ∙ rw d))
      flagged (suc zero) d h f r n = rw d at r
      flagged (suc (suc p)) d h f r n = absurd (omega arith)

      is : (f : Read) → read_padding (c / 64 % 2) s ≡ f → (f ≡ field 0 s → ⊥) → read_padding 1 s ≡ f
      is = flagged (c / 64 % 2) refl (omega arith)

      go : (f : Read) → read_padding (c / 64 % 2) s ≡ f
          → behind_padding sd (suc (suc (length s))) toc (c / 128 % 2) (c % 64) f ≡ refused x place → Breaks sd (toc ∷ c ∷ s) x place
      go no_field r e = done e (padding_cut s (is no_field r (λ z. never (cc))))
      go (field pad u) r e =
          by_test (ltb (length u) pad)
          (λ o.
          let over = ltb-true (length u) pad o in
          done (rw o at e) (padding_over s pad u (is (field pad u) r (λ z. let none : pad ≡ 0 = cc in omega arith)) over))
          (λ o.
          let w = padding_was (c / 64 % 2) (omega arith) s pad u bytes r in
          let k = length u - pad in
          let fits = ltb-false (length u) pad o in
          let rest_long : length (drop k u) ≡ pad = omega (arith, length-drop k u) in
          let parts : s ≡ w.chain ++ (take k u ++ drop k u) = w.spelled ∙ ap (λ l. w.chain ++ l) (sym (take-append-drop k u)) in
          let inner = bytes_take k u (bytes_after w.chain u (rw w.spelled at bytes)) in
          frames_break w.chain (take k u) (drop k u) parts inner (rw rest_long w.padding) l.some (c / 128 % 2) refl x place (rw rest_long (rw o at e)))

code3 : (sd : Bool) (toc : ℕ) (s : List ℕ) → toc % 4 ≡ 3 → Bytes s → (x : Rule) (place : ℕ) → read3 sd (suc (length s)) toc s
    ≡ refused x place
    → Breaks sd (toc ∷ s) x place
code3 sd toc [] three bytes x place e =
    let rule-is : R5 ≡ x = cc in
    let at_one : 1 ≡ place = cc in
    rw (← rule-is, ← at_one) (uncounted three refl)
code3 sd toc (c ∷ s) three bytes x place e =
    by_test (lasts (upper_six toc) (c % 64))
    (λ d. padding_break sd toc c s three (bytes_tail bytes) (passed_lasts (upper_six toc) (c % 64) d) x place (rw d at e))
    (λ d.
    let q : refused R5 1 ≡ refused x place = rw d at e in
    let rule-is : R5 ≡ x = cc in
    let at_one : 1 ≡ place = cc in
    rw (← rule-is, ← at_one) (long three (λ l. never (let z = sym (lasts_passes l) ∙ d in cc))))

pub refused_breaks : (sd : Bool) (p : List ℕ) → Bytes p → (x : Rule) (place : ℕ) → read sd p ≡ refused x place → Breaks sd p x place
unfolding read
refused_breaks sd [] bytes x place e =
    let rule-is : R1 ≡ x = cc in
    let at_front : 0 ≡ place = cc in
    rw (← rule-is, ← at_front) (empty refl)
refused_breaks sd (toc ∷ s) bytes x place e = go (toc % 4) refl e
  where
    go : (c : ℕ) → toc % 4 ≡ c → read_code sd c (suc (length s)) toc s ≡ refused x place → Breaks sd (toc ∷ s) x place
    go zero c e = code0 sd toc s (bytes_tail bytes) c x place e
    go (suc zero) c e = code1 sd toc s (bytes_tail bytes) c x place e
    go (suc (suc zero)) c e = code2 sd toc s (bytes_tail bytes) c x place e
    go (suc (suc (suc zero))) c e = code3 sd toc s c (bytes_tail bytes) x place e
    go (suc (suc (suc (suc k)))) c e = absurd (omega arith)

-- and RFC 6716 spells no packet at its front
pub refused_stands_not : (sd : Bool) (p : List ℕ) (x : Rule) (place : ℕ) → read sd p ≡ refused x place → (six : ℕ) (q left : List ℕ)
    (frames : List (List ℕ)) → Spells sd six q frames → Behind sd left → p ≡ q ++ left → ⊥
refused_stands_not sd p x place r six q left frames w b e = never (let z = sym (spelled_read w left b) ∙ (ap (read sd) (sym e) ∙ r) in cc)
