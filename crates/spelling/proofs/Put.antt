-- What is stored for a packet: the compact header and the frames' block behind it, or nothing.
--     put_longer, put_cramped     the compact packet is no shorter, or has no room
--     both_long                   the header and the block together are the bytes that were counted
--     put_compact_lem                 the compact packet is stored
-- Assumes nothing.
use Prim.Native.Nat.{ℕ, ◌+◌, ◌≤◌, ◌<◌}
use native.Mathlib.Omega.{arith}
use mathlib.Core.Path.{◌≡◌, refl, ap, ◌∙◌}
use mathlib.Core.List.{List, ◌++◌}
use mathlib.Core.Bool.{false}
use lib.ListN.{length, drop, length-append}
use lib.Seq.{sets}
use borrow.Author.Tests.{lt-ltb, le-ltb, le-leb, lt-leb}
use Rattle.blocks.specs.Blocks.{part, copied}
use Rattle.blocks.proofs.Sets.{put_behind, length_part}
use Rattle.opus_defines.specs.Outcome.{written}
use Rattle.opus_format.specs.Frames.{cut, total}
use Rattle.opus_header.specs.Compact.{compact}
use Rattle.opus_header.specs.Sums.{sums_of, header_of}
use Rattle.opus_header.specs.Forms.{compact_form, compact_bytes}
use Rattle.opus_header.specs.declared.Sums.{Sums}
use Rattle.opus_header.specs.declared.Form.{Form}
use Rattle.opus_header.proofs.Forms.{sums_total}
use Rattle.opus_header.proofs.Standing.{compact_needs, compact-parts}
use Rattle.spelling.specs.Spelling.{spelling_of, work_after}
use Rattle.spelling.specs.declared.Spelling.TheVariants.{Original, Compact}

-- frames of lengths ns stand in p from `first` on; m counts them, and `need` is the compact packet's bytes
module _ (six : ℕ) (ns p : List ℕ) (first : ℕ) (block : first + total ns ≤ length p) (m : Sums) (e : m ≡ sums_of ns) (need : ℕ)
    (n : need ≡ compact_bytes (length ns) m false) where
  abbrev rebuilt : List ℕ
  rebuilt = compact false six (cut ns (drop first p))

  need_is : length rebuilt ≡ need
  need_is = compact_needs false six ns p first block m e need n

  -- ---- nothing is stored
  module _ (w : List ℕ) where
    pub put_longer : length p ≤ need → (Original ≡ spelling_of p (length w) (written rebuilt)) × (w ≡ work_after rebuilt w Original)
    put_longer h = rw (need_is, le-ltb need (length p) h) (refl, refl)

    pub put_cramped : need < length p → length w < need → (Original ≡ spelling_of p (length w) (written rebuilt)) × (w ≡ work_after rebuilt w Original)
    put_cramped h g = rw (need_is, lt-ltb need (length p) h, lt-leb need (length w) g) (refl, refl)

  -- ---- the header and the block
  module _ (form : Form) (f : form ≡ compact_form (length ns)) where
    abbrev head : List ℕ
    head = header_of false six ns form

    laid_out : rebuilt ≡ head ++ part p first (total ns)
    laid_out = rw f (compact-parts false six ns p first block)

    pub both_long : length head + m.total ≡ need
    both_long =
        let both = ap length laid_out in
        omega (arith, both, need_is, length-append head (part p first (total ns)), length_part p first (total ns) block, sums_total ns e)

    pub put_compact_lem : (w : List ℕ) → need < length p → need ≤ length w → {d d' : List ℕ} {at : ℕ} → d ≡ sets w 0 head → at ≡ length head
        → d' ≡ copied d at p first m.total
        → (Compact need ≡ spelling_of p (length w) (written rebuilt)) × (d' ≡ work_after rebuilt w (Compact need))
    put_compact_lem w h g {d} {d'} s a c =
        let stored : d' ≡ sets w 0 rebuilt = rw laid_out (rw (sums_total ns e) at (c ∙ put_behind w head (part p first m.total) s a)) in
        (rw (need_is, lt-ltb need (length p) h, le-leb need (length w) g), stored)
