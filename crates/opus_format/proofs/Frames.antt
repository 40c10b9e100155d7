-- Frames and their block: cut by their lengths, and joined again.
--     cut-joined, joined-cut, lengths-cut, total-lengths     frames and their block
--     total-append, total_snoc, longest_snoc, total-same, longest-same     lengths: one more at the end, and all the same
-- Assumes nothing.
use Prim.Native.Nat.{ℕ, zero, suc, ◌+◌, ◌*◌, ◌≤◌, max}
use native.Mathlib.Omega.{arith}
use mathlib.Core.Path.{◌≡◌, refl}
use mathlib.Core.List.{List, [], ◌∷◌, ◌++◌, append_assoc}
use lib.ListN.{length, take, drop, replicate, length-append, length-drop}
use lib.Seq.{take-append_seam, drop-append_seam, length-take-le, take-add}
use Rattle.opus_format.specs.Frames.{lengths, joined, cut, total, longest}

-- frames that are joined are cut again, whatever stands behind them
pub cut-joined : (frames : List (List ℕ)) (rest : List ℕ) → cut (lengths frames) (joined frames ++ rest) ≡ frames
cut-joined [] rest = refl
cut-joined (a ∷ frames) rest =
    rw (append_assoc a (joined frames) rest, take-append_seam a, drop-append_seam a, cut-joined frames rest)

-- frames that are cut are joined again
pub joined-cut : (ns s : List ℕ) → joined (cut ns s) ≡ take (total ns) s
joined-cut [] s = refl
joined-cut (n ∷ ns) s = rw (joined-cut ns (drop n s), take-add n (total ns) s)

-- and have the lengths that were asked, where the bytes suffice
pub lengths-cut : (ns s : List ℕ) → total ns ≤ length s → lengths (cut ns s) ≡ ns
lengths-cut [] s h = refl
lengths-cut (n ∷ ns) s h =
    rw (length-take-le n s (omega arith), lengths-cut ns (drop n s) (omega (arith, length-drop n s)))

pub total-lengths : (frames : List (List ℕ)) → total (lengths frames) ≡ length (joined frames)
total-lengths [] = refl
total-lengths (a ∷ frames) = omega (arith, total-lengths frames, length-append a (joined frames))

-- ---- one length more at the end
pub total-append : (ns ms : List ℕ) → total (ns ++ ms) ≡ total ns + total ms
total-append [] ms = omega arith
total-append (n ∷ ns) ms = omega (arith, total-append ns ms)

pub total_snoc : (ns : List ℕ) (n : ℕ) → total (ns ++ (n ∷ [])) ≡ total ns + n
total_snoc ns n = omega (arith, total-append ns (n ∷ []))

pub longest_snoc : (ns : List ℕ) (n : ℕ) → longest (ns ++ (n ∷ [])) ≡ max (longest ns) n
longest_snoc [] n = omega arith
longest_snoc (m ∷ ns) n = omega (arith, longest_snoc ns n)

-- ---- lengths that are all the same
pub total-same : (count n : ℕ) → total (replicate count n) ≡ count * n
total-same zero n = omega arith
total-same (suc count) n = omega (arith, total-same count n)

pub longest-same : (count n : ℕ) → 1 ≤ count → longest (replicate count n) ≡ n
longest-same zero n h = absurd (omega arith)
longest-same (suc zero) n h = omega arith
longest-same (suc (suc count)) n h = omega (arith, longest-same (suc count) n (omega arith))
