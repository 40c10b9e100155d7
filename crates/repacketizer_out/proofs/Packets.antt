-- Packets that are written for frames: what is read back, that they are bytes, and how long they can be.
--     nothing-behind, spelled_back     a packet is read back as what it spells
--     layout_bytes, spelled_bytes      a header is bytes, and so is a packet whose frames and padding are
--     compact-short                    the compact packet of at most 48 frames is at most 65,535 bytes long
-- Assumes nothing.
use Prim.Native.Nat.{ℕ, zero, suc, ◌≤◌, ◌<◌}
use native.Mathlib.Omega.{arith}
use mathlib.Core.Path.{◌≡◌, refl}
use mathlib.Core.List.{List, [], ◌∷◌, ◌++◌, append-nil}
use mathlib.Core.Bool.{Bool, true, false}
use lib.ListN.{length, get_or, replicate, length-map}
use Rattle.laws.specs.Bytes.{Bytes}
use Rattle.laws.proofs.Bytes.{bytes_nil, bytes_cons, bytes_append}
use Rattle.opus_size.specs.Size.{most_bytes, length_field, length_fields}
use Rattle.opus_size.proofs.Fields.{field_bytes_lem}
use Rattle.opus_toc.specs.Toc.{upper_six}
use Rattle.opus_format.specs.Frames.{lengths, joined, longest}
use Rattle.opus_format.specs.Format.{Padding, unpadded, padded, Layout, code0, code1, code2, code3equal, code3unequal, Spells, Behind, own_length}
use Rattle.opus_format.specs.Reading.{read, frames_of}
use Rattle.opus_format.proofs.Frames.{total-lengths, longest_snoc, longest-same}
use Rattle.opus_format.proofs.Padding.{padding_flag_lem}
use Rattle.opus_format.proofs.Counts.{lasts_few}
use Rattle.opus_format.proofs.Complete.{spelled_six, spelled_frames}
use Rattle.opus_header.specs.Compact.{compact}
use Rattle.opus_header.specs.Sums.{sums_of}
use Rattle.opus_header.proofs.Forms.{own_most, compact-front, compact_bytes_lem, compact-size, sums_few}

-- ---- what is read back
pub nothing-behind : (sd : Bool) → Behind sd []
nothing-behind false = refl
nothing-behind true = tt

pub spelled_back : {sd : Bool} {six : ℕ} {p : List ℕ} {frames : List (List ℕ)} → Spells sd six p frames
    → (frames_of p (read sd p) ≡ frames) × (upper_six (get_or p 0 0) ≡ six)
spelled_back {sd} {p = p} w = (rw (append-nil p) at (spelled_frames w [] (nothing-behind sd)), spelled_six w)

-- ---- bytes
fields_bytes : (ns : List ℕ) → longest ns ≤ most_bytes → Bytes (length_fields ns)
fields_bytes [] h = bytes_nil
fields_bytes (n ∷ ns) h = bytes_append (length_field n) (length_fields ns) (field_bytes_lem n (omega arith)) (fields_bytes ns (omega arith))

own_bytes_lem : (sd : Bool) (n : ℕ) → n ≤ most_bytes → Bytes (own_length sd n)
own_bytes_lem false n h = bytes_nil
own_bytes_lem true n h = field_bytes_lem n h

same_bytes : (count a : ℕ) → a < 256 → Bytes (replicate count a)
same_bytes zero a h = bytes_nil
same_bytes (suc count) a h = bytes_cons h (same_bytes count a h)

chain_bytes_lem : {p pad : ℕ} {chain : List ℕ} → Padding p chain pad → Bytes chain
chain_bytes_lem unpadded = bytes_nil
chain_bytes_lem (padded more last h) = bytes_append (replicate more 255) (last ∷ []) (same_bytes more 255 (omega arith)) (bytes_cons (omega arith) bytes_nil)

layout_bytes : {sd : Bool} {six : ℕ} {head ns : List ℕ} {pad : ℕ} → Layout sd six head ns pad → six < 64 → longest ns ≤ most_bytes
    → Bytes head
layout_bytes {sd} (code0 n) k h = bytes_cons (omega arith) (own_bytes_lem sd n (omega arith))
layout_bytes {sd} (code1 n) k h = bytes_cons (omega arith) (own_bytes_lem sd n (omega arith))
layout_bytes {sd} (code2 m n) k h =
    bytes_cons (omega arith) (bytes_append (length_field m) (own_length sd n) (field_bytes_lem m (omega arith)) (own_bytes_lem sd n (omega arith)))
layout_bytes {sd} (code3equal count n {chain = chain} l d) k h =
    bytes_cons (omega arith)
    (bytes_cons (omega (arith, padding_flag_lem d, lasts_few l))
    (bytes_append chain (own_length sd n) (chain_bytes_lem d) (own_bytes_lem sd n (omega (arith, longest-same count n l.some)))))
layout_bytes {sd} (code3unequal ns n {chain = chain} l d) k h =
    let most = longest_snoc ns n in
    bytes_cons (omega arith)
    (bytes_cons (omega (arith, padding_flag_lem d, lasts_few l))
    (bytes_append chain (length_fields ns ++ own_length sd n) (chain_bytes_lem d)
    (bytes_append (length_fields ns) (own_length sd n) (fields_bytes ns (omega arith)) (own_bytes_lem sd n (omega arith)))))

pub spelled_bytes : {sd : Bool} {six : ℕ} {p : List ℕ} {frames : List (List ℕ)} (w : Spells sd six p frames) → six < 64 → Bytes (joined frames)
    → Bytes w.padding → Bytes p
spelled_bytes {frames = frames} w k b z =
    rw w.bytes
    (bytes_append w.head (joined frames ++ w.padding) (layout_bytes w.layout k w.small) (bytes_append (joined frames) w.padding b z))

-- ---- how long
pub compact-short : (sd : Bool) (six : ℕ) (frames : List (List ℕ)) → length frames ≤ 48 → longest (lengths frames) ≤ most_bytes
    → length (compact sd six frames) ≤ 65535
compact-short sd six frames h k =
    let ns = lengths frames in
    let m = sums_of ns in
    let few = sums_few ns m refl (omega (arith, length-map frames length)) k in
    omega (arith, compact-size sd six frames, compact_bytes_lem sd six ns m refl, total-lengths frames, own_most sd m.last, compact-front (length ns))
