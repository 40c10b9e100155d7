-- Whatever RFC 6716 spells is read: with its frames, the first one's place and the bytes taken, whatever may stand behind it.
--     layout_read, layout_toc                       a header and what stands behind it
--     spelled_read, spelled_six, spelled_frames     packets
-- Assumes nothing.
use Prim.Native.Nat.{ℕ, suc, ◌+◌, ◌-◌, ◌%◌, ◌≤◌, ◌<◌}
use native.Mathlib.Nat.{add_assoc, add-zero}
use native.Mathlib.Omega.{arith}
use mathlib.Core.Path.{◌≡◌, refl, ap, ◌∙◌}
use mathlib.Core.List.{List, [], ◌∷◌, ◌++◌, append_assoc, append-nil}
use mathlib.Core.Bool.{Bool, true, false}
use lib.ListN.{length, get_or, take, drop, replicate, length-append}
use lib.Seq.{take-append-add, length-take-le, drop-append_seam}
use borrow.Author.Tests.{le-ltb}
use Rattle.laws.proofs.Never.{never}
use Rattle.opus_size.specs.Size.{most_bytes, length_field, length_fields}
use Rattle.opus_toc.specs.Toc.{upper_six, toc_byte}
use Rattle.opus_format.specs.Frames.{lengths, joined, cut, total, longest}
use Rattle.opus_format.specs.Format.{count_byte, Lasts, Padding, own_length, Spells, Behind}
use Rattle.opus_format.specs.Format.{Layout, code0, code1, code2, code3equal, code3unequal}
use Rattle.opus_defines.specs.declared.Rule.TheVariants.{R2, R3, R4, R6, R7}
use Rattle.opus_format.specs.Reading.{Front, front, frames3, accepted, accept, read_code, read, frames_of}
use Rattle.opus_format.proofs.Frames.{cut-joined, total-lengths, longest-same}
use Rattle.opus_format.proofs.Padding.{padding_read, padding_flag_lem}
use Rattle.opus_format.proofs.Fronts.{Holds, unequal_read, equal-read}
use Rattle.opus_format.proofs.Counts.{byte_unequal, byte_padded, byte_count, lasts_few, lasts_passes}

-- ---- parts of the reader
-- the TOC byte says the code
toc_read : (sd : Bool) (six c : ℕ) (s : List ℕ) → c < 4 → read sd (toc_byte six c ∷ s) ≡ read_code sd c (suc (length s)) (toc_byte six c) s
unfolding read
toc_read sd six c s h =
    let is : toc_byte six c % 4 ≡ c = omega arith in
    rw is

-- m bytes are the header, the frames from t on, and the padding
accept-read : (m toc pad : ℕ) {f : Front} (ns t : List ℕ) (first : ℕ) → f ≡ front ns t → m ≡ first + length t + pad
    → accept m toc pad f ≡ accepted toc ns first (first + (total ns + pad))
accept-read m toc pad ns t first e h =
    let place : m - pad - length t ≡ first = omega arith in
    rw (e, place) (ap (accepted toc ns first) (add_assoc first (total ns) pad))

-- without padding: behind the TOC byte stands s, then the frames
plain-read : (toc : ℕ) {f : Front} (s u ns : List ℕ) → f ≡ front ns u
    → accept (suc (length (s ++ u))) toc 0 f ≡ accepted toc ns (suc (length s)) (suc (length s) + (total ns + 0))
plain-read toc s u ns e =
    accept-read (suc (length (s ++ u))) toc 0 ns u (suc (length s)) e (omega (arith, length-append s u))

-- k bytes of frames without the padding behind them
holds_part : (sd : Bool) (k pad : ℕ) (u : List ℕ) → Holds sd (k + pad) u → Holds sd k (take (length u - pad) u)
holds_part sd k pad u h =
    let long : length (take (length u - pad) u) ≡ length u - pad = length-take-le (length u - pad) u (omega arith) in
    record { enough = omega (arith, h.enough); full = λ e. omega (arith, h.full e) }

-- code 3: behind the count byte stand the padding lengths and s, then the frames and the padding
code3_read : (sd : Bool) (six v p count : ℕ) {chain : List ℕ} {pad : ℕ} (s u ns : List ℕ) → v < 2 → Lasts six count → Padding p chain pad
    → Holds sd (total ns + pad) u → ((t : List ℕ) → Holds sd (total ns) t → frames3 sd v count (s ++ t) ≡ front ns t)
    → read sd (toc_byte six 3 ∷ count_byte v p count ∷ ((chain ++ s) ++ u))
    ≡ accepted (toc_byte six 3) ns (suc (suc (length (chain ++ s)))) (suc (suc (length (chain ++ s))) + (total ns + pad))
code3_read sd six v p count {chain} {pad} s u ns hv l d h e =
    let toc = toc_byte six 3 in
    let k = length u - pad in
    let same : upper_six toc ≡ six = omega arith in
    let hp : p < 2 = padding_flag_lem d in
    let hc : count < 64 = omega (arith, lasts_few l) in
    let su : length (s ++ u) ≡ length s + length u = length-append s u in
    let fits : pad ≤ length (s ++ u) = omega (arith, h.enough) in
    let size : length (s ++ u) - pad ≡ length s + k = omega (arith, h.enough) in
    let body : take (length (s ++ u) - pad) (s ++ u) ≡ s ++ take k u = rw (size, take-append-add s u k) in
    let short : length (take k u) ≡ k = length-take-le k u (omega arith) in
    let long : length (chain ++ (s ++ u)) ≡ length (chain ++ s) + length (take k u) + pad =
    omega (arith, h.enough, length-append chain (s ++ u), length-append chain s) in
    toc_read sd six 3 (count_byte v p count ∷ ((chain ++ s) ++ u)) (omega arith)
    ∙ rw (
      same,
      byte_count v p count hv hp hc,
      byte_unequal v p count hv hp hc,
      byte_padded v p count hv hp hc,
      lasts_passes l,
      append_assoc chain s u,
      padding_read d (s ++ u),
      le-ltb (length (s ++ u)) pad fits,
      body,
    )
    (accept-read (suc (suc (length (chain ++ (s ++ u))))) toc pad ns (take k u) (suc (suc (length (chain ++ s))))
    (e (take k u) (holds_part sd (total ns) pad u h)) (omega arith))

-- ---- headers
-- what a header says is read, with any bytes behind it that hold frames and padding
pub layout_read : {sd : Bool} {six : ℕ} {head ns : List ℕ} {pad : ℕ} → Layout sd six head ns pad → longest ns ≤ most_bytes → (u : List ℕ)
    → Holds sd (total ns + pad) u → read sd (head ++ u) ≡ accepted (get_or head 0 0) ns (length head) (length head + (total ns + pad))
layout_read {sd} {six} (code0 n) h u k =
    toc_read sd six 0 (own_length sd n ++ u) (omega arith)
    ∙ plain-read (toc_byte six 0) (own_length sd n) u (n ∷ [])
    (unequal_read sd R2 [] n u h (rw (add-zero (total (n ∷ []))) at k))
layout_read {sd} {six} (code1 n) h u k =
    toc_read sd six 1 (own_length sd n ++ u) (omega arith)
    ∙ plain-read (toc_byte six 1) (own_length sd n) u (n ∷ n ∷ [])
    (equal-read sd R3 2 n u (omega arith) (omega arith) (rw (add-zero (total (n ∷ n ∷ []))) at k))
layout_read {sd} {six} (code2 m n) h u k =
    let s = length_field m ++ own_length sd n in
    toc_read sd six 2 (s ++ u) (omega arith)
    ∙ plain-read (toc_byte six 2) s u (m ∷ n ∷ [])
    (rw append-nil at (unequal_read sd R4 (m ∷ []) n u h (rw (add-zero (total (m ∷ n ∷ []))) at k)))
layout_read {sd} {six} (code3equal count n {p} l d) h u k =
    code3_read sd six 0 p count (own_length sd n) u (replicate count n) (omega arith) l d k
    (λ t. equal-read sd R6 count n t l.some (omega (arith, longest-same count n l.some)))
layout_read {sd} {six} (code3unequal ns n {p} l d) h u k =
    let others : suc (length ns) - 1 ≡ length ns = omega arith in
    code3_read sd six 1 p (suc (length ns)) (length_fields ns ++ own_length sd n) u (ns ++ (n ∷ [])) (omega arith) l d k
    (λ t w. rw others (unequal_read sd R7 ns n t h w))

-- the first byte of a header holds the six bits
pub layout_toc : {sd : Bool} {six : ℕ} {head ns : List ℕ} {pad : ℕ} → Layout sd six head ns pad → (u : List ℕ)
    → (get_or (head ++ u) 0 0 ≡ get_or head 0 0) × (upper_six (get_or head 0 0) ≡ six)
layout_toc (code0 n) u = (refl, omega arith)
layout_toc (code1 n) u = (refl, omega arith)
layout_toc (code2 m n) u = (refl, omega arith)
layout_toc (code3equal count n l d) u = (refl, omega arith)
layout_toc (code3unequal ns n l d) u = (refl, omega arith)

-- ---- packets
-- the bytes s fit in front of what may stand behind them
holds_behind : (sd : Bool) (s rest : List ℕ) → Behind sd rest → Holds sd (length s) (s ++ rest)
holds_behind sd s rest b = record { enough = omega (arith, length-append s rest); full = full sd b }
  where
    full : (sd : Bool) → Behind sd rest → sd ≡ false → length (s ++ rest) ≤ length s
    full false b e = rw (b, append-nil s) (omega arith)
    full true b e = never (cc)

packet_read : {sd : Bool} {six : ℕ} (head padding : List ℕ) (frames : List (List ℕ)) → Layout sd six head (lengths frames) (length padding)
    → longest (lengths frames) ≤ most_bytes → (rest : List ℕ) → Behind sd rest
    → read sd (head ++ (joined frames ++ padding) ++ rest)
    ≡ accepted (get_or (head ++ (joined frames ++ padding)) 0 0) (lengths frames) (length head) (length (head ++ (joined frames ++ padding)))
packet_read {sd} head padding frames l h rest b =
    let s = joined frames ++ padding in
    let size : total (lengths frames) + length padding ≡ length s = omega (arith, total-lengths frames, length-append (joined frames) padding) in
    let long : length (head ++ s) ≡ length head + (total (lengths frames) + length padding) = omega (arith, length-append head s) in
    rw (append_assoc head s rest, long, (layout_toc l s).0)
    (layout_read l h (s ++ rest) (rw size (holds_behind sd s rest b)))

packet_frames : (head padding : List ℕ) (frames : List (List ℕ)) (rest : List ℕ)
    → cut (lengths frames) (drop (length head) (head ++ (joined frames ++ padding) ++ rest)) ≡ frames
packet_frames head padding frames rest =
    rw (append_assoc head (joined frames ++ padding) rest, drop-append_seam head, append_assoc (joined frames) padding rest)
    (cut-joined frames (padding ++ rest))

pub spelled_read : {sd : Bool} {six : ℕ} {p : List ℕ} {frames : List (List ℕ)} (w : Spells sd six p frames) (rest : List ℕ) → Behind sd rest
    → read sd (p ++ rest) ≡ accepted (get_or p 0 0) (lengths frames) (length w.head) (length p)
spelled_read {frames = frames} w rest b =
    cc (w.bytes, packet_read w.head w.padding frames w.layout w.small rest b)

-- with the six bits and the frames that it spells
pub spelled_six : {sd : Bool} {six : ℕ} {p : List ℕ} {frames : List (List ℕ)} → Spells sd six p frames → upper_six (get_or p 0 0) ≡ six
spelled_six {frames = frames} w =
    let toc = layout_toc w.layout (joined frames ++ w.padding) in
    rw (w.bytes, toc.0) toc.1

pub spelled_frames : {sd : Bool} {six : ℕ} {p : List ℕ} {frames : List (List ℕ)} (w : Spells sd six p frames) (rest : List ℕ) → Behind sd rest
    → frames_of (p ++ rest) (read sd (p ++ rest)) ≡ frames
unfolding frames_of
spelled_frames {frames = frames} w rest b =
    rw (spelled_read w rest b, w.bytes) (packet_frames w.head w.padding frames rest)
