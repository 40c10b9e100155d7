-- A rewrite in place: the block of frames is moved, the header written in front of it and zeros behind it.
-- Assumes nothing.
use Prim.Native.Nat.{ℕ, ◌+◌, ◌≤◌}
use native.Mathlib.Omega.{arith}
use mathlib.Core.Path.{◌≡◌, sym, ap, ◌∙◌}
use mathlib.Core.List.{List, ◌++◌, append_assoc}
use mathlib.Core.Bool.{Bool}
use lib.ListN.{length, replicate, length-append, length-replicate}
use lib.Seq.{sets}
use Rattle.blocks.specs.Blocks.{part, moved, filled}
use Rattle.blocks.proofs.Sets.{length_part, sets-append, sets-before-sets}
use Rattle.opus_format.specs.Frames.{total}
use Rattle.opus_header.specs.Header.{pad_bytes}
use Rattle.opus_header.specs.Sums.{sums_of, header_of}
use Rattle.opus_header.specs.Forms.{header_bytes, missing, form_packet}
use Rattle.opus_header.specs.declared.Sums.{Sums}
use Rattle.opus_header.specs.declared.Form.{Form}
use Rattle.opus_header.proofs.Forms.{header_bytes_lem}

-- three runs, laid one behind another, are one run
runs : (s head block zeros : List ℕ) (at n : ℕ) → length head ≡ at → length block ≡ n
    → sets (sets (sets s at block) 0 head) (at + n) zeros ≡ sets s 0 (head ++ (block ++ zeros))
runs s head block zeros at n h k =
    let place : 0 + length (head ++ block) ≡ at + n = omega (arith, length-append head block) in
    rw (sets-before-sets s 0 head at block (omega arith), ← append_assoc head block zeros, sets-append s 0 (head ++ block) zeros, place)

-- m counts the lengths ns of the frames that stand in s from place `first` on, and `at` is the header's length
module _ (sd : Bool) (six : ℕ) (ns : List ℕ) (m : Sums) (form : Form) (s : List ℕ) (first at : ℕ) (e : m ≡ sums_of ns)
    (block : first + total ns ≤ length s) (a : at ≡ header_bytes m form sd) where
  abbrev packet : List ℕ
  packet = form_packet sd six ns form (part s first (total ns))

  total_is : m.total ≡ total ns
  unfolding sums_of
  total_is = ap (λ (x : Sums). x.total) e

  pub header-length : length (header_of sd six ns form) ≡ at
  header-length = sym (a ∙ header_bytes_lem sd six ns m form e)

  packet_length_lem : length packet ≡ at + m.total + pad_bytes (missing form)
  unfolding form_packet
  packet_length_lem =
      rw (length-append, header-length, length-append, length_part s first (total ns) block, length-replicate) (omega (arith, total_is))

  -- where the packet fits, so does each part
  pub parts_fit : length packet ≤ length s → (first + m.total ≤ length s) × (at + m.total + pad_bytes (missing form) ≤ length s)
  parts_fit room = (omega (arith, total_is), omega (arith, packet_length_lem))

  -- the buffer after the move, the header and the zeros
  pub rewritten : {s₁ s₂ s₃ : List ℕ} {zeros : ℕ} → s₁ ≡ moved s first at m.total → s₂ ≡ sets s₁ 0 (header_of sd six ns form)
      → zeros ≡ pad_bytes (missing form) → s₃ ≡ filled s₂ (at + m.total) zeros 0
      → (s₃ ≡ sets s 0 packet) × (at + m.total + zeros ≡ length packet)
  unfolding form_packet
  rewritten e₁ e₂ z e₃ =
      let three =
      runs s (header_of sd six ns form) (part s first (total ns)) (replicate (pad_bytes (missing form)) 0) at (total ns) header-length
      (length_part s first (total ns) block) in
      (rw (e₃, e₂, e₁, z, total_is) three, rw (packet_length_lem, z))
