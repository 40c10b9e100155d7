-- Lengths and frames that were stored behind others.
--     sets_first, sets_again, sets_more     one length more, as a loop stores them
--     two_put                               two lengths, as the code stores them
--     numbers_kept                          there are as many numbers as before
--     cut-copied                            frames that were copied behind others are read back with them
-- Assumes nothing.
use Prim.Native.Nat.{ℕ, suc, ◌+◌, ◌-◌, ◌≤◌, ◌<◌}
use native.Mathlib.Omega.{arith}
use native.Mathlib.Numerals.{add-one}
use mathlib.Core.Path.{◌≡◌, ap, sym, ◌∙◌}
use mathlib.Core.List.{List, [], ◌∷◌, ◌++◌, append_assoc}
use lib.ListN.{length, get_or, take, drop, set, replicate, length-drop}
use lib.Seq.{sets, set-set, sets-eq, drop_at, length-take-le, length-sets}
use Rattle.opus_format.specs.Frames.{cut, total}
use Rattle.opus_format.proofs.Lengths.{take_next, cut-append, cut-front}
use Rattle.blocks.specs.Blocks.{part, copied}
use Rattle.packet_numbers.specs.Numbers.{number_after}
use Rattle.blocks.proofs.Sets.{sets-next, length_part}

-- ---- one length more, behind a first one that stands already
module _ (l : List ℕ) (at : ℕ) where
  pub sets_first : (ns : List ℕ) → 1 ≤ length ns → set l at (get_or ns 0 0) ≡ sets (set l at (get_or ns 0 0)) at (take 1 ns)
  sets_first [] h = absurd (omega arith)
  sets_first (n ∷ ns) h = sym (set-set l at n n)

  pub sets_again : (ns : List ℕ) → 1 ≤ length ns → sets (set l at (get_or ns 0 0)) at ns ≡ sets l at ns
  sets_again [] h = absurd (omega arith)
  sets_again (n ∷ ns) h = ap (λ (m : List ℕ). sets m (suc at) ns) (set-set l at n n)

pub sets_more : (ns : List ℕ) (i : ℕ) → i < length ns → (l : List ℕ) (at : ℕ)
    → set (sets l at (take i ns)) (at + i) (get_or ns i 0) ≡ sets l at (take (i + 1) ns)
sets_more ns i h l at =
    rw (take_next ns i h) (sets-next l at i (take i ns) (get_or ns i 0) (length-take-le i ns (omega arith)))

-- ---- one length, or two
module _ (l : List ℕ) (at : ℕ) where
  pub two_put : (m n : ℕ) → set (set l at m) (at + 1) n ≡ sets l at (m ∷ n ∷ [])
  two_put m n = rw add-one

-- numbers that were given: there are as many as before
pub numbers_kept : (l : List ℕ) (at end : ℕ) {m : List ℕ} → m ≡ sets l at (replicate (end - at) (number_after l at)) → length m ≡ length l
numbers_kept l at end e = ap length e ∙ length-sets l at (replicate (end - at) (number_after l at))

-- ---- what was stored behind others
pub cut-copied : (ks ns store p : List ℕ) (first : ℕ) → total ks + total ns ≤ length store → first + total ns ≤ length p
    → cut (ks ++ ns) (copied store (total ks) p first (total ns)) ≡ cut ks store ++ cut ns (drop first p)
cut-copied ks ns store p first h k =
    let t = total ks in
    let q = part p first (total ns) in
    let lq : length q ≡ total ns = length_part p first (total ns) k in
    let rest = drop (t + length q) store in
    let laid : sets store t q ≡ take t store ++ (q ++ rest) = sets-eq q store t (omega arith) ∙ append_assoc (take t store) q rest in
    let held : cut ks (take t store ++ (q ++ rest)) ≡ cut ks store = cut-front ks store (q ++ rest) (omega arith) in
    let behind : drop t (take t store ++ (q ++ rest)) ≡ q ++ rest = drop_at (take t store) (q ++ rest) t (length-take-le t store (omega arith)) in
    let new : cut ns (q ++ rest) ≡ cut ns (drop first p) = cut-front ns (drop first p) rest (omega (arith, length-drop first p)) in
    rw (cut-append ks ns (sets store t q), laid, held, behind, new)
