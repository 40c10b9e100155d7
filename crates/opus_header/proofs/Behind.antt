-- A header and the block of frames that is copied behind it are the compact packet.
--     both_long, put_small     its bytes
--     put_compact_lem              and what is stored
-- Assumes nothing.
use Prim.Native.Nat.{ℕ, ◌+◌, ◌≤◌}
use native.Mathlib.Omega.{arith}
use mathlib.Core.Path.{◌≡◌, refl, ap, ◌∙◌}
use mathlib.Core.List.{List, ◌++◌}
use mathlib.Core.Bool.{Bool}
use lib.ListN.{length, drop, length-append}
use lib.Seq.{sets}
use Rattle.blocks.specs.Blocks.{part, copied}
use Rattle.blocks.proofs.Sets.{put_behind, length_part}
use Rattle.opus_size.specs.Size.{most_bytes}
use Rattle.opus_format.specs.Frames.{cut, total, longest}
use Rattle.opus_header.specs.Compact.{compact}
use Rattle.opus_header.specs.Sums.{sums_of, header_of}
use Rattle.opus_header.specs.Forms.{compact_form, compact_bytes}
use Rattle.opus_header.specs.declared.Sums.{Sums}
use Rattle.opus_header.specs.declared.Form.{Form}
use Rattle.opus_header.proofs.Forms.{own_most, compact-front, sums_total, sums_few}
use Rattle.opus_header.proofs.Standing.{compact_needs, compact-parts}

-- ---- frames of lengths ns stand in p from `first` on; m counts them
module _ (sd : Bool) (six : ℕ) (ns p : List ℕ) (first : ℕ) (block : first + total ns ≤ length p) (m : Sums) (e : m ≡ sums_of ns) (form : Form)
    (f : form ≡ compact_form (length ns)) where
  abbrev rebuilt : List ℕ
  rebuilt = compact sd six (cut ns (drop first p))

  abbrev head : List ℕ
  head = header_of sd six ns form

  laid_out : rebuilt ≡ head ++ part p first (total ns)
  laid_out = rw f (compact-parts sd six ns p first block)

  pub both_long : length head + m.total ≡ length rebuilt
  both_long =
      let both = ap length laid_out in
      omega (arith, both, length-append head (part p first (total ns)), length_part p first (total ns) block, sums_total ns e)

  -- 48 frames of at most 1275 bytes
  pub put_small : (length ns ≤ 48) → (longest ns ≤ most_bytes) → length rebuilt ≤ 65536
  put_small few small =
      let need = compact_bytes (length ns) m sd in
      let long : length rebuilt ≡ need = compact_needs sd six ns p first block m e need refl in
      let k = sums_few ns m e few small in
      omega (arith, long, k.0, k.1, own_most sd m.last, compact-front (length ns))

  pub put_compact_lem : (w : List ℕ) {d d' : List ℕ} {at : ℕ} → d ≡ sets w 0 head → at ≡ length head → d' ≡ copied d at p first m.total
      → (d' ≡ sets w 0 rebuilt) × (at + m.total ≡ length rebuilt)
  put_compact_lem w s a c =
      (rw laid_out (rw (sums_total ns e) at (c ∙ put_behind w head (part p first m.total) s a)), omega (arith, a, both_long))
