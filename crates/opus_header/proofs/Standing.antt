-- Frames that stand in a buffer, and the packet that is written for them.
--     compact-parts                       the compact packet is its header and the frames' block
--     few_missing, compact_needs          the form that is chosen, and the compact packet's bytes
--     laid, padded_room                   the packet that the form gives, which fits where there is room
--     compact_laid                        the compact packet, which fits where its header is no longer than what stands in front of the frames
-- Assumes nothing.
use Prim.Native.Nat.{ℕ, ◌+◌, ◌≤◌}
use native.Mathlib.Omega.{arith}
use mathlib.Core.Path.{◌≡◌, refl, sym}
use mathlib.Core.List.{List, ◌++◌}
use mathlib.Core.Bool.{Bool, true, false, cond}
use lib.Dec.{ltb}
use lib.ListN.{length, drop, length-drop}
use lib.Seq.{sets}
use Rattle.laws.proofs.Never.{by_test}
use Rattle.blocks.specs.Blocks.{part}
use Rattle.blocks.proofs.Sets.{length_part}
use Rattle.opus_format.specs.Frames.{lengths, cut, total}
use Rattle.opus_format.proofs.Frames.{joined-cut, lengths-cut}
use Rattle.opus_header.specs.Header.{compact_header}
use Rattle.opus_header.specs.Compact.{compact, filling}
use Rattle.opus_header.specs.Sums.{sums_of, header_of}
use Rattle.opus_header.specs.Forms.{compact_form, form_for, compact_bytes, missing, form_packet}
use Rattle.opus_header.specs.declared.Sums.{Sums}
use Rattle.opus_header.specs.declared.Form.{Form}
use Rattle.opus_header.proofs.Forms.{compact-missing, compact-header, compact_bytes_lem, compact-size, packet_formed}
use Rattle.opus_header.proofs.Filling.{filling-length}

-- a form that fills the room misses no more than the room
pub few_missing : (count need room : ℕ) (pad : Bool) (form : Form) → form ≡ form_for count need room pad → missing form ≤ room
few_missing count need room false form e = rw e (omega (arith, compact-missing count))
few_missing count need room true form e =
    by_test (ltb need room) (λ t. rw (e, t) (omega arith)) (λ t. rw (e, t) (omega (arith, compact-missing count)))

module _ (sd : Bool) (six : ℕ) (ns s : List ℕ) (first : ℕ) (block : first + total ns ≤ length s) where
  abbrev frames : List (List ℕ)
  frames = cut ns (drop first s)

  lengths_are : lengths frames ≡ ns
  lengths_are = lengths-cut ns (drop first s) (omega (arith, length-drop first s))

  -- the compact packet is its header and the frames' block
  pub compact-parts : compact sd six frames ≡ header_of sd six ns (compact_form (length ns)) ++ part s first (total ns)
  unfolding compact
  compact-parts = rw (lengths_are, joined-cut ns (drop first s), compact-header sd six ns)

  -- `need` is counted from the sums m
  module _ (m : Sums) (e : m ≡ sums_of ns) (need : ℕ) (n : need ≡ compact_bytes (length ns) m sd) where
    pub compact_needs : length (compact sd six frames) ≡ need
    compact_needs =
        rw (compact-size sd six frames, lengths_are, joined-cut ns (drop first s), length_part s first (total ns) block, n)
        (sym (compact_bytes_lem sd six ns m e))

    written : (room : ℕ) (pad : Bool) (form : Form) → form ≡ form_for (length ns) need room pad
        → form_packet sd six ns form (part s first (total ns)) ≡ cond pad (filling sd six frames room) (compact sd six frames)
    written room pad form f =
        rw (f, ← compact_needs) (sym (rw (lengths_are, joined-cut ns (drop first s)) at (packet_formed sd six frames pad room)))

    -- the buffer after a rewrite
    pub laid : (room : ℕ) (pad : Bool) (form : Form) → form ≡ form_for (length ns) need room pad → {s' : List ℕ}
        → s' ≡ sets s 0 (form_packet sd six ns form (part s first (total ns)))
        → s' ≡ sets s 0 (cond pad (filling sd six frames room) (compact sd six frames))
    laid room pad form f e = rw (written room pad form f) at e

    -- the padded packet fits where there is room
    pub padded_room : (room : ℕ) (form : Form) → form ≡ form_for (length ns) need room true → need ≤ room → room ≤ length s
        → length (form_packet sd six ns form (part s first (total ns))) ≤ length s
    padded_room room form f h k =
        rw (written room true form f) (omega (arith, filling-length sd six frames room (omega (arith, compact_needs))))

  -- the compact packet, behind at least as long a header
  pub compact_laid : (form : Form) → form ≡ compact_form (length ns) → length (compact_header sd six ns) ≤ first
      → (form_packet sd six ns form (part s first (total ns)) ≡ compact sd six frames)
      × (length (form_packet sd six ns form (part s first (total ns))) ≤ length s)
  compact_laid form f short =
      let m = sums_of ns in
      let need = compact_bytes (length ns) m sd in
      let is = written m refl need refl 0 false form f in
      (is, rw is (omega (arith, compact_needs m refl need refl, compact_bytes_lem sd six ns m refl, block)))
