-- The packet that fills a destination: the compact one if it fills it, else code 3 with padding, of exactly so many bytes.
-- Assumes nothing.
use Prim.Native.Nat.{ℕ, ◌+◌, ◌-◌, ◌≤◌}
use native.Mathlib.Omega.{arith}
use mathlib.Core.Path.{◌≡◌}
use mathlib.Core.List.{List}
use mathlib.Core.Bool.{Bool, true, false, cond}
use lib.Dec.{ltb}
use lib.ListN.{length, replicate, length-append, length-replicate}
use borrow.Author.Tests.{ltb-true, ltb-false}
use Rattle.laws.proofs.Never.{by_test, cond_elim}
use Rattle.opus_size.specs.Size.{most_bytes}
use Rattle.opus_format.specs.Frames.{lengths, joined, longest}
use Rattle.opus_format.specs.Format.{Lasts, Spells, own_length}
use Rattle.opus_header.specs.Header.{last, sizes, chain, pad_bytes, header}
use Rattle.opus_header.specs.Compact.{compact, full, filling}
use Rattle.opus_header.proofs.Chain.{chain_most}
use Rattle.opus_header.proofs.Spelled.{compact_spelled, compact-unpadded, full_spelled, full_zeros}

-- the bytes of code 3: two, the chain, the length fields, the frames and the padding
length-full : (sd : Bool) (six : ℕ) (frames : List (List ℕ)) (n : ℕ)
    → length (full sd six frames n)
    ≡ 2 + length (chain n) + length (sizes (lengths frames)) + length (own_length sd (last (lengths frames))) + length (joined frames) + pad_bytes n
unfolding full header
length-full sd six frames n = simp (length-append, length-replicate) (omega arith)

-- n missing bytes make the packet n bytes longer
full-length : (sd : Bool) (six : ℕ) (frames : List (List ℕ)) (n : ℕ) → length (full sd six frames n) ≡ length (full sd six frames 0) + n
full-length sd six frames n = omega (arith, length-full sd six frames n, length-full sd six frames 0, chain_most n)

-- code 3 takes at most one byte more than the compact form
full-over : (sd : Bool) (six : ℕ) (frames : List (List ℕ)) → length (full sd six frames 0) ≤ length (compact sd six frames) + 1
unfolding compact header
full-over sd six frames =
    let whole = length-full sd six frames 0 in
    by_test (ltb (length (lengths frames)) 3)
    (λ e. rw e (simp length-append (omega arith)))
    (λ e. rw e (simp length-append (omega arith)))

pub filling-length : (sd : Bool) (six : ℕ) (frames : List (List ℕ)) (m : ℕ) → length (compact sd six frames) ≤ m
    → length (filling sd six frames m) ≡ m
unfolding filling
filling-length sd six frames m h =
    let rest = m - length (full sd six frames 0) in
    cond_elim (λ (p : List ℕ). length p ≡ m) (ltb (length (compact sd six frames)) m) (full sd six frames rest) (compact sd six frames)
    (λ e. omega (arith, full-length sd six frames rest, full-over sd six frames, ltb-true (length (compact sd six frames)) m e))
    (λ e. omega (arith, ltb-false (length (compact sd six frames)) m e))

-- either packet, by the test
module _ (sd : Bool) (six : ℕ) (frames : List (List ℕ)) (n : ℕ) (l : Lasts six (length frames)) (s : longest (lengths frames) ≤ most_bytes) where
  either_spelled : (t : Bool) → Spells sd six (cond t (full sd six frames n) (compact sd six frames)) frames
  either_spelled true = full_spelled sd six frames n l s
  either_spelled false = compact_spelled sd six frames l s

  either_zeros : (t : Bool) → (k : ℕ) × ((either_spelled t).padding ≡ replicate k 0)
  unfolding either_spelled
  either_zeros true = (pad_bytes n, full_zeros sd six frames n l s)
  either_zeros false = (0, compact-unpadded sd six frames l s)

pub filling_spelled : (sd : Bool) (six : ℕ) (frames : List (List ℕ)) (m : ℕ) → Lasts six (length frames) → longest (lengths frames) ≤ most_bytes
    → Spells sd six (filling sd six frames m) frames
unfolding filling
filling_spelled sd six frames m l s =
    either_spelled sd six frames (m - length (full sd six frames 0)) l s (ltb (length (compact sd six frames)) m)

zeros : (k : ℕ) (s : List ℕ) → s ≡ replicate k 0 → s ≡ replicate (length s) 0
zeros k s e = rw (e, length-replicate)

-- its padding bytes are zeros
pub filling_zeros : (sd : Bool) (six : ℕ) (frames : List (List ℕ)) (m : ℕ) (l : Lasts six (length frames)) (s : longest (lengths frames) ≤ most_bytes)
    → (filling_spelled sd six frames m l s).padding ≡ replicate (length (filling_spelled sd six frames m l s).padding) 0
unfolding filling_spelled
filling_zeros sd six frames m l s =
    let z = either_zeros sd six frames (m - length (full sd six frames 0)) l s (ltb (length (compact sd six frames)) m) in
    zeros z.0 (filling_spelled sd six frames m l s).padding z.1
