-- Padding bytes: those of the packet that the RFC spells, and when they are clean.
--     dirt_is                       dirt by the padding bytes of what was read
--     padding_is_spelled            the padding bytes of a packet that was read are the padding of every packet that the RFC reads there
--     read_padding_is_spelled       of a packet that was read there is one
--     spelled_dirt                  so it is dirty exactly where that padding is
--     dirty_zeros                   zeros are clean
--     dirty_most                    the largest byte tells
--     dirty_ones, dirty_selves      packets by computation
-- Assumes nothing.
use Prim.Native.Nat.{ℕ, zero, suc, ◌+◌, max}
use native.Mathlib.Omega.{arith}
use mathlib.Core.Path.{◌≡◌, refl, sym, ap, ◌∙◌}
use mathlib.Core.List.{List, [], ◌∷◌, ◌++◌, map}
use mathlib.Core.Bool.{Bool, true, false, not}
use lib.Dec.{eqb}
use lib.ListN.{length, drop, replicate, take-append-drop}
use lib.Seq.{take-append_seam, drop-append_seam, drop-drop}
use borrow.Author.Tests.{eqb-true, eqb-false, ne_eqb}
use Rattle.laws.specs.Bytes.{Bytes}
use Rattle.laws.proofs.Never.{by_test}
use Rattle.opus_toc.specs.Toc.{duration}
use Rattle.opus_format.specs.Frames.{lengths, joined, total, longest}
use Rattle.opus_format.specs.Format.{Spells, Behind}
use Rattle.opus_format.specs.Reading.{accepted, read}
use Rattle.opus_format.specs.Dirt.{padding_of, dirty, dirty_packet}
use Rattle.opus_format.proofs.Frames.{total-lengths}
use Rattle.opus_format.proofs.Complete.{spelled_read}
use Rattle.opus_format.proofs.Sound.{read_spelled}

pub dirt_is : (sd : Bool) (p : List ℕ) → dirty_packet sd p ≡ dirty (padding_of p (read sd p))
unfolding dirty_packet
dirt_is sd p = refl

-- ---- the padding of the RFC's packet
behind_frames : (head padding : List ℕ) (frames : List (List ℕ))
    → drop (length head + total (lengths frames)) (head ++ (joined frames ++ padding)) ≡ padding
behind_frames head padding frames =
    rw (total-lengths frames, ← drop-drop (length (joined frames)) (length head) (head ++ (joined frames ++ padding)), drop-append_seam head)
    (drop-append_seam (joined frames) padding)

pub padding_is_spelled : {sd : Bool} {six : ℕ} {p : List ℕ} {frames : List (List ℕ)} (w : Spells sd six p frames) (rest : List ℕ) → Behind sd rest
    → padding_of (p ++ rest) (read sd (p ++ rest)) ≡ w.padding
padding_is_spelled {p = p} {frames = frames} w rest b =
    rw (spelled_read w rest b, take-append_seam p rest, w.bytes) (behind_frames w.head w.padding frames)

pub read_padding_is_spelled : (sd : Bool) (p : List ℕ) (toc : ℕ) (ns : List ℕ) (first taken : ℕ) (bytes : Bytes p)
    (r : read sd p ≡ accepted toc ns first taken) → padding_of p (read sd p) ≡ (read_spelled sd p toc ns first taken bytes r).packet.padding
read_padding_is_spelled sd p toc ns first taken bytes r =
    let w = read_spelled sd p toc ns first taken bytes r in
    ap (λ q. padding_of q (read sd q)) (sym (take-append-drop taken p)) ∙ padding_is_spelled w.packet (drop taken p) w.behind

pub spelled_dirt : {sd : Bool} {six : ℕ} {p : List ℕ} {frames : List (List ℕ)} (w : Spells sd six p frames) (rest : List ℕ) → Behind sd rest
    → dirty_packet sd (p ++ rest) ≡ dirty w.padding
unfolding dirty_packet
spelled_dirt w rest b = ap dirty (padding_is_spelled w rest b)

-- ---- clean and dirty bytes
pub dirty_zeros : (n : ℕ) → dirty (replicate n 0) ≡ false
dirty_zeros zero = refl
dirty_zeros (suc n) = dirty_zeros n

pub dirty_most : (s : List ℕ) → dirty s ≡ not (eqb (longest s) 0)
dirty_most [] = refl
dirty_most (a ∷ s) =
    by_test (eqb a 0)
    (λ e. let z : max a (longest s) ≡ longest s = omega (arith, eqb-true a 0 e) in rw (e, z) (dirty_most s))
    (λ e. let n : eqb (max a (longest s)) 0 ≡ false = ne_eqb (max a (longest s)) 0 (λ m. eqb-false a 0 e (omega (arith, m))) in rw (e, n))

-- ---- by computation (document 02, M-105)
-- one padding byte, zero and not; two unequal frames and a dirty byte; a chain of 255 and 0 whose last padding byte is 1; padding lengths alone; no padding;
-- padding that does not fit
pub dirty_ones : map (dirty_packet false)
    ((0x03 ∷ 0x41 ∷ 0x01 ∷ 0xaa ∷ 0x00 ∷ []) ∷ (0x03 ∷ 0x41 ∷ 0x01 ∷ 0xaa ∷ 0x01 ∷ [])
    ∷ (0x03 ∷ 0xc2 ∷ 0x01 ∷ 0x01 ∷ 0xaa ∷ 0xbb ∷ 0x07 ∷ [])
    ∷ (0x03 ∷ 0x41 ∷ 255 ∷ 0 ∷ 0xaa ∷ (replicate 253 0 ++ (1 ∷ []))) ∷ (0x03 ∷ 0x41 ∷ 0x00 ∷ 0xaa ∷ [])
    ∷ (0x00 ∷ 0xaa ∷ []) ∷ (0x03 ∷ 0x41 ∷ 0x02 ∷ 0x01 ∷ []) ∷ [])
    ≡ false ∷ true ∷ true ∷ true ∷ false ∷ false ∷ false ∷ []
unfolding dirty_packet read duration
dirty_ones = refl

-- self-delimited, where what stands behind the packet is no padding
pub dirty_selves : map (dirty_packet true)
    ((0x00 ∷ 0x01 ∷ 0xaa ∷ 0x55 ∷ []) ∷ (0x03 ∷ 0x41 ∷ 0x01 ∷ 0x01 ∷ 0xaa ∷ 0x00 ∷ 0x55 ∷ [])
    ∷ (0x03 ∷ 0x41 ∷ 0x01 ∷ 0x01 ∷ 0xaa ∷ 0x07 ∷ []) ∷ [])
    ≡ false ∷ false ∷ true ∷ []
unfolding dirty_packet read duration
dirty_selves = refl
