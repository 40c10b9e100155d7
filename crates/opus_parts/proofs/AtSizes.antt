-- Length fields at the front of a slice, as the code has them: a lent array of 48 lengths with zeros behind them, and a place in the slice.
--     place_is                     a place, from what stands behind it
--     padded_more, same_more       one length more in the array
--     Placed, placed               what fields are, from a place on
--     Taken, taken-..              a field by its bytes
--     Sizes                        what the loop over the fields keeps, with a law for its start, a turn, and each of its ends
--     Stops                        the same for the loop that looks for the place where they break
--     cut-last, cut_later          where they break, by the last length that was read
--     Known, known                 what a caller knows of fields that were all found
--     none_known                   and of others: they break, and where
-- Assumes nothing.
use Prim.Native.Nat.{ℕ, zero, suc, ◌+◌, ◌*◌, ◌-◌, ◌≤◌, ◌<◌}
use native.Mathlib.Omega.{arith}
use native.Mathlib.Nat.{sub-zero}
use mathlib.Core.Path.{◌≡◌, refl, sym, ap, ◌∙◌}
use mathlib.Core.List.{List, [], ◌∷◌, ◌++◌, append_assoc, append-nil}
use mathlib.Core.Bool.{true, false}
use lib.Dec.{ltb}
use lib.ListN.{length, get_or, drop, set, replicate, length-append, length-drop, length-replicate, replicate-append-replicate}
use lib.Seq.{set_at}
use borrow.Author.Tests.{lt-ltb, le-ltb, ltb-true, ltb-false}
use Rattle.laws.proofs.Never.{never, by_test, cond_elim}
use Rattle.opus_size.specs.Size.{length_field, read_field, no_field}
use Rattle.opus_size.proofs.Fields.{short, two_bytes, width}
use Rattle.opus_size.proofs.At.{Read, nothing, something, read_at, Found, whole_was, at_short, at_long}
use Rattle.opus_format.specs.Frames.{total}
use Rattle.opus_format.specs.Reading.{Fields, no_fields, fields, before, read_fields, together}
use Rattle.opus_format.specs.Frames.{padded48}
use Rattle.opus_parts.specs.Parts.{sizes_at, SizesRead, stop_at, cut_at}
use Rattle.std.specs.Prelude.{Err, Ok}
use Rattle.opus_format.proofs.Frames.{total-append, total_snoc}

-- a place, from what stands behind it
pub place_is : (s : List ℕ) (next : ℕ) → next ≤ length s → length s - length (drop next s) ≡ next
place_is s next h = omega (arith, length-drop next s)

-- ---- the array of 48 lengths
pub padded_more : (ns : List ℕ) (n i : ℕ) → length ns ≡ i → i < 48 → set (padded48 ns) i n ≡ padded48 (ns ++ (n ∷ []))
padded_more ns n i l h =
    let e : 48 - length ns ≡ suc (48 - (length ns + 1)) = omega arith in
    rw (e, set_at ns _ _ _ _ l, length-append, append_assoc)

-- equal lengths, one more
pub same_more : (lengths : List ℕ) (n i : ℕ) → lengths ≡ padded48 (replicate i n) → i < 48 → set lengths i n ≡ padded48 (replicate (i + 1) n)
same_more lengths n i e h =
    ap (λ (l : List ℕ). set l i n) e
    ∙ (padded_more (replicate i n) n i (length-replicate i n) h ∙ ap padded48 (replicate-append-replicate i 1 n))

-- ---- the loop over the fields
-- lengths that were read, before those that are still to be read
abbrev before_all : List ℕ → Fields → Fields
before_all done (no_fields t) = no_fields t
before_all done (fields ns s) = fields (done ++ ns) s

before-none : (f : Fields) → before_all [] f ≡ f
before-none (no_fields t) = refl
before-none (fields ns s) = refl

before_more : (done : List ℕ) (n : ℕ) (f : Fields) → before_all (done ++ (n ∷ [])) f ≡ before_all done (before n f)
before_more done n (no_fields t) = refl
before_more done n (fields ns s) = rw append_assoc

-- one field more, by the test of its length
pub one_fits : (s : List ℕ) (next n after j : ℕ) → Found s next n after → n ≤ length s - after
    → read_fields (suc j) (drop next s) ≡ before n (read_fields j (drop after s))
one_fits s next n after j f h =
    let fits : ltb (length (drop after s)) n ≡ false = le-ltb (length (drop after s)) n (omega (arith, length-drop after s)) in
    rw (f.means, fits)

pub one_over : (s : List ℕ) (next n after j : ℕ) → Found s next n after → length s - after < n → read_fields (suc j) (drop next s)
    ≡ no_fields (drop next s)
one_over s next n after j f h =
    let over : ltb (length (drop after s)) n ≡ true = lt-ltb (length (drop after s)) n (omega (arith, length-drop after s)) in
    rw (f.means, over)

-- ---- what fields are, from a place on
pub data Placed (s : List ℕ) (at k : ℕ) : Fields → Type 0 where
  nowhere : (t : List ℕ) → length t ≤ length s → Placed s at k (no_fields t)
  here : (ns : List ℕ) (next : ℕ) → length ns ≡ k → at + k ≤ next → next ≤ length s → Placed s at k (fields ns (drop next s))

one_more : {s : List ℕ} {k : ℕ} {f : Fields} (at next n : ℕ) → at < next → Placed s next k f → Placed s at (suc k) (before n f)
one_more at next n h (nowhere t l) = nowhere t l
one_more at next n h (here ns end l a i) = here (n ∷ ns) end (ap suc l) (omega arith) i

pub placed : (s : List ℕ) (k at : ℕ) → at ≤ length s → Placed s at k (read_fields k (drop at s))
placed s zero at h = here [] at refl (omega arith) h
placed s (suc k) at h = go (placed s k) (read_at s at)
  where
    go : ((next : ℕ) → next ≤ length s → Placed s next k (read_fields k (drop next s))) → Read s at
        → Placed s at (suc k) (read_fields (suc k) (drop at s))
    go more (nothing r) = rw r (nowhere (drop at s) (omega (arith, length-drop at s)))
    go more (something n next l w r) =
        rw r (cond_elim (Placed s at (suc k)) (ltb (length (drop next s)) n) _ _ (λ c. nowhere (drop at s) (omega (arith, length-drop at s)))
        (λ c. one_more at next n l (more next w)))

-- what the fields from `next` on say of all of them: they with the lengths that were read are all, or the last length is above what stands behind it
data Rest (s : List ℕ) (k : ℕ) (done : List ℕ) (next last i : ℕ) : Type 0 where
  goes : before_all done (read_fields (k - i) (drop next s)) ≡ read_fields k s → last ≤ length s - next → Rest s k done next last i
  broke : read_fields k s ≡ no_fields (drop (next - length (length_field last)) s) → length s - next < last → Rest s k done next last i

-- of k fields i are read, and their lengths are in the array; `used` is their bytes and the lengths
pub record Sizes (s : List ℕ) (k : ℕ) (lengths : List ℕ) (next used last i : ℕ) : Type 0 where
  pub done : List ℕ
  pub count : length done ≡ i
  pub most : i ≤ k
  pub inside : next ≤ length s
  pub filled : lengths ≡ padded48 done
  pub summed : used ≡ next + total done
  pub small : used ≤ 2000 * i
  pub behind : 1 ≤ last → length (length_field last) ≤ next
  pub over : last ≤ total done
  rest : Rest s k done next last i

-- a field that was read by its bytes, one or two, and what is used with it
pub record Taken (s : List ℕ) (next used n after more : ℕ) : Type 0 where
  pub found : Found s next n after
  pub width : after ≡ next + length (length_field n)
  pub few : n ≤ 1275
  pub sum : more ≡ used + (after - next) + n

module _ (s : List ℕ) (next used a : ℕ) (first : a ≡ get_or s next 0) (n after more : ℕ) where
  pub taken_one : next < length s → a < 252 → n ≡ a → after ≡ next + 1 → more ≡ used + (1 + a) → Taken s next used n after more
  taken_one h k is place sum =
      let e : n ≡ get_or s next 0 = is ∙ first in
      record {
        found = rw (e, place) (whole_was s next (get_or s next 0) (next + 1) (sym (at_short s next h (omega arith))));
        width = rw (short n (omega arith)) place;
        few = omega arith;
        sum = omega arith;
      }

  pub taken_two : next + 1 < length s → 252 ≤ a → a < 256 → (b : ℕ) → b ≡ get_or s (next + 1) 0 → b < 256
      → n ≡ a + 4 * b → after ≡ next + 1 + 1 → more ≡ used + (1 + a) + (1 + 4 * b) → Taken s next used n after more
  taken_two h k m b second m₂ is place sum =
      let e : n ≡ 4 * get_or s (next + 1) 0 + get_or s next 0 = omega arith in
      let p : after ≡ next + 2 = omega arith in
      record {
        found = rw (e, p) (whole_was s next (4 * get_or s (next + 1) 0 + get_or s next 0) (next + 2) (sym (at_long s next h (omega arith))));
        width = rw (two_bytes n (omega arith)) p;
        few = omega arith;
        sum = omega arith;
      }

module _ (s : List ℕ) (k : ℕ) where
  pub sizes_start : (lengths : List ℕ) → lengths ≡ padded48 [] → Sizes s k lengths 0 0 0 0
  sizes_start lengths e =
      record {
        done = [];
        count = refl;
        most = omega arith;
        inside = omega arith;
        filled = e;
        summed = refl;
        small = omega arith;
        behind = λ h. absurd (omega arith);
        over = omega arith;
        rest = goes (rw (sub-zero, before-none)) (omega arith);
      }

  module _ (lengths : List ℕ) (next used last i : ℕ) (z : Sizes s k lengths next used last i) where
    one_less : i < k → k - i ≡ suc (k - (i + 1))
    one_less h = omega arith

    -- below the slice's length all lengths fit by themselves
    all_go : used < length s → before_all z.done (read_fields (k - i) (drop next s)) ≡ read_fields k s
    all_go h = go z.rest
      where
        go : Rest s k z.done next last i → before_all z.done (read_fields (k - i) (drop next s)) ≡ read_fields k s
        go (goes q f) = q
        go (broke q f) = absurd (omega (arith, z.summed, z.over, z.inside))

    rest_more : i < k → used < length s → (n after u : ℕ) → Taken s next used n after u → Rest s k (z.done ++ (n ∷ [])) after n (i + 1)
    rest_more h b n after u t =
        by_test (ltb (length s - after) n)
        (λ c.
        let over = ltb-true (length s - after) n c in
        let start : after - length (length_field n) ≡ next = omega (arith, t.width) in
        broke (rw start (rw (one_less h, one_over s next n after (k - (i + 1)) t.found over) at (sym (all_go b)))) over)
        (λ c.
        let fits = ltb-false (length s - after) n c in
        goes (rw before_more (rw (one_less h, one_fits s next n after (k - (i + 1)) t.found fits) at (all_go b))) fits)

    pub sizes_more : i < k → k < 48 → used < length s → (n after u : ℕ) → Taken s next used n after u
        → Sizes s k (set lengths i n) after u n (i + 1)
    sizes_more h m b n after u t =
        record {
          done = z.done ++ (n ∷ []);
          count = simp length-append (omega arith);
          most = omega arith;
          inside = t.found.within;
          filled = rw z.filled (padded_more z.done n i z.count (omega arith));
          summed = omega (arith, total_snoc z.done n, z.summed, t.found.later, t.sum);
          small = omega (arith, z.small, t.width, t.few, t.sum, width n);
          behind = λ _. omega (arith, t.width);
          over = omega (arith, total_snoc z.done n);
          rest = rest_more h b n after u t;
        }

    -- nothing is said of the array where the fields break
    broken_at : (t : List ℕ) (place : ℕ) → together (read_fields k s) ≡ no_fields t → place ≡ length s - length t → (l : List ℕ)
        → SizesRead s (together (read_fields k s)) (Err place) l
    broken_at t place q e l = rw (q, e) (refl, tt)

    -- a field that is not whole
    pub sizes-cut : i < k → used < length s → read_field (drop next s) ≡ no_field → (place : ℕ) → place ≡ next → (l : List ℕ)
        → SizesRead s (together (read_fields k s)) (Err place) l
    sizes-cut h b e place p l = broken_at (drop next s) place (rw (← all_go b, one_less h, e)) (p ∙ sym (place_is s next z.inside)) l

    none_left : k ≤ i → before_all z.done (read_fields (k - i) (drop next s)) ≡ fields z.done (drop next s)
    none_left h = let none : k - i ≡ 0 = omega arith in rw (none, append-nil)

    -- fields and lengths above the slice, each field that is left counted as a byte
    pub sizes-over : (j : ℕ) → j ≡ k - i → length s < used + j → (place : ℕ) → place ≡ cut_at s next last j → (l : List ℕ)
        → SizesRead s (together (read_fields k s)) (Err place) l
    sizes-over j y h place p l = go z.rest
      where
        e : place ≡ cut_at s next last (k - i)
        e = rw (← y) p

        go : Rest s k z.done next last i → SizesRead s (together (read_fields k s)) (Err place) l
        go (broke q f) =
            let at = next - length (length_field last) in
            let inside : at ≤ length s = omega (arith, z.inside) in
            let there : place ≡ at = rw (lt-ltb (length s - next) last f) at e in
            broken_at (drop at s) place (rw q) (there ∙ sym (place_is s at inside)) l
        go (goes q f) = found (read_fields (k - i) (drop next s)) refl (placed s (k - i) next z.inside)
          where
            there : place ≡ stop_at (length s) (read_fields (k - i) (drop next s))
            there = rw (le-ltb (length s - next) last f) at e

            found : (r : Fields) → read_fields (k - i) (drop next s) ≡ r → Placed s next (k - i) r
                → SizesRead s (together (read_fields k s)) (Err place) l
            found r w (nowhere t a) = broken_at t place (rw (← q, w)) (rw w at there) l
            found r w (here ns end c a b) =
                let long : ltb (length (drop end s)) (total (z.done ++ ns)) ≡ true =
                lt-ltb (length (drop end s)) (total (z.done ++ ns)) (omega (arith, length-drop end s, total-append z.done ns, z.summed)) in
                broken_at (drop end s) place (rw (← q, w, long)) (rw w at there) l

    pub sizes_end : k ≤ i → used ≤ length s → SizesRead s (together (read_fields k s)) (Ok (next, used - next)) lengths
    sizes_end h fits = go z.rest
      where
        go : Rest s k z.done next last i → SizesRead s (together (read_fields k s)) (Ok (next, used - next)) lengths
        go (broke q f) = absurd (omega (arith, z.summed, z.over, z.inside))
        go (goes q f) =
            let sums : used - next ≡ total z.done = omega (arith, z.summed) in
            let enough : ltb (length (drop next s)) (total z.done) ≡ false =
            le-ltb (length (drop next s)) (total z.done) (omega (arith, length-drop next s, z.summed)) in
            let all : together (read_fields k s) ≡ fields z.done (drop next s) = rw (← q, none_left h, enough) in
            (rw (all, place_is s next z.inside, sums), rw all z.filled)

-- ---- the loop that looks for the place
stop-before : (m n : ℕ) (f : Fields) → stop_at m (before n f) ≡ stop_at m f
stop-before m n (no_fields t) = refl
stop-before m n (fields ns t) = refl

pub record Stops (s : List ℕ) (from k next i : ℕ) : Type 0 where
  pub most : i ≤ k
  pub inside : next ≤ length s
  pub rest : stop_at (length s) (read_fields (k - i) (drop next s)) ≡ stop_at (length s) (read_fields k (drop from s))

module _ (s : List ℕ) (from k : ℕ) where
  pub stops_start : from ≤ length s → Stops s from k from 0
  stops_start h = record { most = omega arith; inside = h; rest = rw sub-zero }

  module _ (next i : ℕ) (z : Stops s from k next i) where
    less : i < k → k - i ≡ suc (k - (i + 1))
    less h = omega arith

    pub stops_cut : i < k → read_field (drop next s) ≡ no_field → next ≡ stop_at (length s) (read_fields k (drop from s))
    stops_cut h e = rw (less h, e, place_is s next z.inside) at z.rest

    module _ (h : i < k) (n after w : ℕ) (f : Found s next n after) (e : w ≡ n) where
      pub stops_over : length s - after < w → next ≡ stop_at (length s) (read_fields k (drop from s))
      stops_over over =
          rw (less h, one_over s next n after (k - (i + 1)) f (omega arith), place_is s next z.inside) at z.rest

      pub stops_more : w ≤ length s - after → Stops s from k after (i + 1)
      stops_more fits =
          let j = k - (i + 1) in
          let one = one_fits s next n after j f (omega arith) in
          record {
            most = omega arith;
            inside = f.within;
            rest = rw (less h, one, stop-before (length s) n (read_fields j (drop after s))) at z.rest;
          }

    pub stops_end : k ≤ i → next ≡ stop_at (length s) (read_fields k (drop from s))
    stops_end h = let none : k - i ≡ 0 = omega arith in rw (none, place_is s next z.inside) at z.rest

-- where fields break that do not fit together
module _ (s : List ℕ) (next last k : ℕ) where
  pub cut-last : length s - next < last → next - length (length_field last) ≡ cut_at s next last k
  cut-last h = rw (lt-ltb (length s - next) last h)

  pub cut_later : last ≤ length s - next → stop_at (length s) (read_fields k (drop next s)) ≡ cut_at s next last k
  cut_later h = rw (le-ltb (length s - next) last h)

-- ---- what is known of the fields afterwards
-- fields that are all there, with room for all lengths
pub data Fitting (s : List ℕ) (k : ℕ) : Fields → Type 0 where
  misfit : (t : List ℕ) → length t ≤ length s → Fitting s k (no_fields t)
  fit : (ns : List ℕ) (next : ℕ) → length ns ≡ k → next ≤ length s → total ns ≤ length s - next → Fitting s k (fields ns (drop next s))

pub fitting : (s : List ℕ) (k : ℕ) → Fitting s k (together (read_fields k s))
fitting s k = go (placed s k 0 (omega arith))
  where
    go : {f : Fields} → Placed s 0 k f → Fitting s k (together f)
    go (nowhere t h) = misfit t h
    go (here ns next l a h) =
        let left = drop next s in
        cond_elim (Fitting s k) (ltb (length left) (total ns)) (no_fields left) (fields ns left) (λ c. misfit left (omega (arith, length-drop next s)))
        (λ c. fit ns next l h (omega (arith, ltb-false (length left) (total ns) c, length-drop next s)))

-- the lengths that were read, in the array, and what stands behind their fields
pub record Known (s : List ℕ) (k next sum : ℕ) (lengths : List ℕ) : Type 0 where
  pub ns : List ℕ
  pub count : length ns ≡ k
  pub inside : next ≤ length s
  pub filled : lengths ≡ padded48 ns
  pub summed : sum ≡ total ns
  pub fits : sum ≤ length s - next
  pub means : together (read_fields k s) ≡ fields ns (drop next s)

module _ (s : List ℕ) (k : ℕ) where
  pub known : (next sum : ℕ) (lengths : List ℕ) → SizesRead s (together (read_fields k s)) (Ok (next, sum)) lengths → Known s k next sum lengths
  known next sum lengths e = go (together (read_fields k s)) refl (fitting s k)
    where
      go : (r : Fields) → together (read_fields k s) ≡ r → Fitting s k r → Known s k next sum lengths
      go r q (misfit t h) = never (let p = rw q at e.0 in cc)
      go r q (fit ns next₂ l h room) =
          let p = rw (q, place_is s next₂ h) at e.0 in
          let same : next ≡ next₂ = let both : (next, sum) ≡ (next₂, total ns) = cc in ap (λ (x : ℕ × ℕ). x.0) both in
          let sums : sum ≡ total ns = let both : (next, sum) ≡ (next₂, total ns) = cc in ap (λ (x : ℕ × ℕ). x.1) both in
          record {
            ns = ns;
            count = l;
            inside = omega arith;
            filled = rw q at e.1;
            summed = sums;
            fits = omega arith;
            means = rw same q;
          }

  -- or they break, and where
  pub none_known : (place : ℕ) → Err place ≡ sizes_at (length s) (together (read_fields k s))
      → (t : List ℕ) × (together (read_fields k s) ≡ no_fields t) × (place ≡ length s - length t)
  none_known place e = go (together (read_fields k s)) refl
    where
      go : (r : Fields) → together (read_fields k s) ≡ r → (t : List ℕ) × (together (read_fields k s) ≡ no_fields t) × (place ≡ length s - length t)
      go (no_fields t) q = (t, q, (let p = rw q at e in cc))
      go (fields ns t) q = never (let p = rw q at e in cc)
