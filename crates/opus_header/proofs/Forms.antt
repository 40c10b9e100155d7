-- Forms: how many bytes a header takes, and the packets as forms.
--     header_bytes_lem, compact_bytes_lem     what is counted before anything is written
--     sums_total, sums_few            what the sum is, and how large the sums can be
--     form-packet                     the packet that is written for a range is that of the form chosen for it
-- Assumes nothing.
use Prim.Native.Nat.{ℕ, ◌+◌, ◌*◌, ◌≤◌}
use native.Mathlib.Omega.{arith}
use mathlib.Core.Path.{◌≡◌, refl, ap}
use mathlib.Core.List.{List, [], ◌∷◌, append-nil}
use mathlib.Core.Bool.{Bool, true, false, cond}
use lib.Dec.{ltb}
use lib.ListN.{length, length-append}
use Rattle.laws.proofs.Never.{by_test}
use Rattle.opus_size.specs.Size.{most_bytes, length_field, length_fields}
use Rattle.opus_size.proofs.Fields.{width}
use Rattle.opus_format.specs.Frames.{lengths, joined, total, longest}
use Rattle.opus_format.specs.Format.{own_length}
use Rattle.opus_format.proofs.Lengths.{total_most}
use Rattle.opus_header.specs.Header.{same, firsts, sizes, compact_header, full_header}
use Rattle.opus_header.specs.Compact.{compact, full, filling}
use Rattle.opus_header.specs.Sums.{sums_of, front_of, header_of}
use Rattle.opus_header.specs.Forms.{compact_form, filling_form, form_for, front_bytes, header_bytes, compact_bytes, missing, form_packet}
use Rattle.opus_header.specs.declared.Sums.{Sums}
use Rattle.opus_header.specs.declared.Form.{Form}
use Rattle.opus_header.specs.declared.Form.TheVariants.{Short, Full}
use Rattle.opus_header.proofs.Chain.{chain_most}
use Rattle.opus_header.proofs.Shortest.{length-header}

front_bytes_lem : (six count : ℕ) (alike : Bool) (form : Form) → length (front_of six count alike form) ≡ front_bytes form
front_bytes_lem six count alike Short = refl
front_bytes_lem six count alike (Full n) = omega arith

-- the parts of a header are few bytes each
pub own_most : (sd : Bool) (n : ℕ) → length (own_length sd n) ≤ 2
own_most false n = omega arith
own_most true n = (width n).1

pub front_most : (form : Form) → front_bytes form ≤ 2 + missing form
front_most Short = omega arith
front_most (Full n) = omega (arith, chain_most n)

pub compact-missing : (count : ℕ) → missing (compact_form count) ≡ 0
compact-missing count = by_test (ltb count 3) (λ e. rw e) (λ e. rw e)

pub compact-front : (count : ℕ) → front_bytes (compact_form count) ≤ 2
compact-front count = omega (arith, front_most (compact_form count), compact-missing count)

pub header_bytes_lem : (sd : Bool) (six : ℕ) (ns : List ℕ) (m : Sums) (form : Form) → m ≡ sums_of ns
    → header_bytes m form sd ≡ length (header_of sd six ns form)
unfolding sums_of
header_bytes_lem sd six ns m form e =
    rw (e, length-header sd (front_of six (length ns) (same ns) form) ns, front_bytes_lem six (length ns) (same ns) form)

-- the compact header is that of the compact form
pub compact-header : (sd : Bool) (six : ℕ) (ns : List ℕ) → compact_header sd six ns ≡ header_of sd six ns (compact_form (length ns))
compact-header sd six ns = by_test (ltb (length ns) 3) (λ e. rw e) (λ e. rw e)

pub compact_bytes_lem : (sd : Bool) (six : ℕ) (ns : List ℕ) (m : Sums) → m ≡ sums_of ns
    → compact_bytes (length ns) m sd ≡ length (compact_header sd six ns) + total ns
unfolding sums_of
compact_bytes_lem sd six ns m e =
    let sum : m.total ≡ total ns = ap (λ (x : Sums). x.total) e in
    rw (compact-header sd six ns, header_bytes_lem sd six ns m (compact_form (length ns)) e, sum)

-- the bytes of the compact packet of frames with these lengths
pub compact-size : (sd : Bool) (six : ℕ) (frames : List (List ℕ))
    → length (compact sd six frames) ≡ length (compact_header sd six (lengths frames)) + length (joined frames)
unfolding compact
compact-size sd six frames = length-append (compact_header sd six (lengths frames)) (joined frames)

-- ---- how large the sums can be
fields_most : (ns : List ℕ) → length (length_fields ns) ≤ 2 * length ns
fields_most [] = omega arith
fields_most (n ∷ ns) = omega (arith, fields_most ns, width n, length-append (length_field n) (length_fields ns))

firsts_most : (ns : List ℕ) → length (firsts ns) ≤ length ns
firsts_most [] = omega arith
firsts_most (n ∷ []) = omega arith
firsts_most (n ∷ m ∷ ns) = omega (arith, firsts_most (m ∷ ns))

sizes_most : (ns : List ℕ) → length (sizes ns) ≤ 2 * length ns
sizes_most ns = by_test (same ns) (λ e. rw e (omega arith)) (λ e. rw e (omega (arith, fields_most (firsts ns), firsts_most ns)))

-- the sum that was counted is the frames' together
pub sums_total : {m : Sums} (ns : List ℕ) → m ≡ sums_of ns → m.total ≡ total ns
unfolding sums_of
sums_total ns e = ap (λ (x : Sums). x.total) e

-- 48 frames of at most 1275 bytes
total_few : (ns : List ℕ) → length ns ≤ 48 → longest ns ≤ most_bytes → total ns ≤ 61200
total_few ns h k = omega (arith, total_most ns k)

pub sums_few : (ns : List ℕ) (m : Sums) → m ≡ sums_of ns → length ns ≤ 48 → longest ns ≤ most_bytes → (m.sizes ≤ 96) × (m.total ≤ 61200)
unfolding sums_of
sums_few ns m e h k =
    let sum : m.total ≡ total ns = ap (λ (x : Sums). x.total) e in
    let fields : m.sizes ≡ length (sizes ns) = ap (λ (x : Sums). x.sizes) e in
    (omega (arith, sizes_most ns), omega (arith, total_few ns h k))

-- ---- packets as forms
module _ (sd : Bool) (six : ℕ) (frames : List (List ℕ)) where
  compact_formed : compact sd six frames ≡ form_packet sd six (lengths frames) (compact_form (length (lengths frames))) (joined frames)
  unfolding compact form_packet
  compact_formed =
      by_test (ltb (length (lengths frames)) 3) (λ e. rw (e, append-nil)) (λ e. rw (e, append-nil))

  -- code 3 takes a byte more for one or two frames
  full-compact : length (full sd six frames 0) ≡ length (compact sd six frames) + cond (ltb (length (lengths frames)) 3) 1 0
  unfolding compact full
  full-compact =
      let ns = lengths frames in
      by_test (ltb (length ns) 3)
      (λ e. rw (
        e,
        append-nil,
        length-append (full_header sd six ns 0) (joined frames),
        length-append (header_of sd six ns Short) (joined frames),
        length-header sd (front_of six (length ns) (same ns) Short) ns,
        length-header sd (front_of six (length ns) (same ns) (Full 0)) ns,
      ) (omega arith))
      (λ e. rw (e, append-nil) (omega arith))

  filling_formed : (m : ℕ)
      → filling sd six frames m
      ≡ form_packet sd six (lengths frames) (filling_form (length (lengths frames)) (length (compact sd six frames)) m) (joined frames)
  unfolding filling full form_packet
  filling_formed m =
      by_test (ltb (length (compact sd six frames)) m) (λ e. rw (e, full-compact)) (λ e. rw e compact_formed)

  -- the packet that is written, padded or not
  pub packet_formed : (pad : Bool) (m : ℕ)
      → cond pad (filling sd six frames m) (compact sd six frames)
      ≡ form_packet sd six (lengths frames) (form_for (length (lengths frames)) (length (compact sd six frames)) m pad) (joined frames)
  packet_formed true m = filling_formed m
  packet_formed false m = compact_formed
