-- Lists of lengths, by places and by the longest, and the frames that they cut off a block.
--     take_next, total_more, longest_more                     one length more, as a loop goes over them
--     longest_at, longest-take, longest-append, total_most    each length, some of them, and their sum, by the longest
--     cut-append, cut_left, cut-front, cut-take               frames by two lists of lengths; what stands behind the frames does not matter
-- Assumes nothing.
use Prim.Native.Nat.{ℕ, zero, suc, ◌+◌, ◌*◌, ◌≤◌, ◌<◌, max}
use native.Mathlib.Numerals.{add-one}
use native.Mathlib.Omega.{arith}
use mathlib.Core.Path.{◌≡◌, refl, ap, sym, ◌∙◌}
use mathlib.Core.List.{List, [], ◌∷◌, ◌++◌}
use lib.ListN.{length, get_or, take, drop, length-drop, take-append-drop}
use lib.Seq.{take-suc, drop-drop, take-append-le, drop-append-le, length-take-le}
use Rattle.opus_size.specs.Size.{most_bytes}
use Rattle.opus_format.specs.Frames.{cut, total, longest}
use Rattle.opus_format.proofs.Frames.{total_snoc, longest_snoc}

-- ---- one length more
module _ (ns : List ℕ) (i : ℕ) (h : i < length ns) where
  pub take_next : take (i + 1) ns ≡ take i ns ++ (get_or ns i 0 ∷ [])
  take_next = rw (add-one, take-suc ns i 0 h)

  pub total_more : total (take (i + 1) ns) ≡ total (take i ns) + get_or ns i 0
  total_more = rw take_next (total_snoc (take i ns) (get_or ns i 0))

  pub longest_more : longest (take (i + 1) ns) ≡ max (longest (take i ns)) (get_or ns i 0)
  longest_more = rw take_next (longest_snoc (take i ns) (get_or ns i 0))

-- ---- by the longest
pub longest_at : (ns : List ℕ) (i : ℕ) → i < length ns → get_or ns i 0 ≤ longest ns
longest_at [] i h = absurd (omega arith)
longest_at (n ∷ ns) zero h = omega arith
longest_at (n ∷ ns) (suc i) h = omega (arith, longest_at ns i (omega arith))

pub longest-take : (ns : List ℕ) (i : ℕ) → longest (take i ns) ≤ longest ns
longest-take ns zero = omega arith
longest-take [] (suc i) = omega arith
longest-take (n ∷ ns) (suc i) = omega (arith, longest-take ns i)

pub longest-append : (a b : List ℕ) → longest (a ++ b) ≡ max (longest a) (longest b)
longest-append [] b = omega arith
longest-append (n ∷ a) b = omega (arith, longest-append a b)

pub total_most : (ns : List ℕ) → longest ns ≤ most_bytes → total ns ≤ most_bytes * length ns
total_most [] h = omega arith
total_most (n ∷ ns) h = omega (arith, total_most ns (omega arith))

-- ---- frames
pub cut-append : (a b s : List ℕ) → cut (a ++ b) s ≡ cut a s ++ cut b (drop (total a) s)
cut-append [] b s = refl
cut-append (n ∷ a) b s = rw (cut-append a b (drop n s), drop-drop (total a) n s)

cut_left : (ns a b : List ℕ) → total ns ≤ length a → cut ns (a ++ b) ≡ cut ns a
cut_left [] a b h = refl
cut_left (n ∷ ns) a b h =
    rw (take-append-le n a b (omega arith), drop-append-le n a b (omega arith), cut_left ns (drop n a) b (omega (arith, length-drop n a)))

pub cut-front : (ns s t : List ℕ) → total ns ≤ length s → cut ns (take (total ns) s ++ t) ≡ cut ns s
cut-front ns s t h =
    let f = take (total ns) s in
    let l : total ns ≤ length f = omega (arith, length-take-le (total ns) s h) in
    cut_left ns f t l ∙ (sym (cut_left ns f (drop (total ns) s) l) ∙ ap (cut ns) (take-append-drop (total ns) s))

-- frames within the first len bytes
pub cut-take : (ns : List ℕ) (first len : ℕ) (s : List ℕ) → first + total ns ≤ len → len ≤ length s
    → cut ns (drop first (take len s)) ≡ cut ns (drop first s)
cut-take ns first len s h k =
    let p = take len s in
    let long : length p ≡ len = length-take-le len s k in
    let all : p ++ drop len s ≡ s = take-append-drop len s in
    let same = cut_left ns (drop first p) (drop len s) (omega (arith, length-drop first p)) in
    rw (← drop-append-le first p (drop len s) (omega arith), all) at (sym same)
