-- What is stored for a packet: a header, the frames' block behind it, and zeros where the packet is to fill the destination.
--     put_block                                        the header and the block
--     need_is                                          the bytes that the compact packet needs, as the code counts them
--     put_refused, put_room, put_plain, put_padded     the packet: what the code stores is what the output leaves
-- Assumes nothing.
use Prim.Native.Nat.{ℕ, ◌+◌, ◌-◌, ◌≤◌, ◌<◌}
use native.Mathlib.Omega.{arith}
use mathlib.Core.Path.{◌≡◌, refl, sym, ap, ◌∙◌}
use mathlib.Core.List.{List, ◌++◌, append_assoc, append-nil}
use mathlib.Core.Bool.{Bool, true, false}
use lib.IntN.{pos, negsuc}
use lib.ListN.{length, drop, replicate, length-append, length-drop, length-replicate}
use lib.Seq.{sets}
use Rattle.laws.proofs.Never.{cond_elim}
use Rattle.opus_defines.specs.Outcome.{leaves, writes}
use Rattle.opus_defines.specs.declared.Refusal.TheVariants.{BufferTooSmall}
use Rattle.opus_format.specs.Frames.{lengths, joined, cut, total}
use Rattle.opus_format.proofs.Frames.{joined-cut, lengths-cut}
use Rattle.blocks.specs.Blocks.{part, copied, filled}
use Rattle.blocks.proofs.Sets.{put_behind, length_part}
use Rattle.opus_header.specs.Header.{compact_header, pad_bytes}
use Rattle.opus_header.specs.Compact.{compact, filling}
use Rattle.opus_header.specs.Sums.{sums_of, header_of}
use Rattle.opus_header.specs.Forms.{form_for, compact_bytes, missing, form_packet}
use Rattle.opus_header.specs.declared.Sums.{Sums}
use Rattle.opus_header.specs.declared.Form.{Form}
use Rattle.opus_header.proofs.Forms.{sums_total, compact_bytes_lem, compact-size, compact-missing, packet_formed}
use Rattle.opus_header.proofs.Filling.{filling-length}
use Rattle.repacketizer_out.specs.Output.{out_packet, output}
use Rattle.repacketizer_out.proofs.Outputs.{refused_as, output_refused, output-written}

-- ---- the header and the block
pub put_block : (l head store : List ℕ) (from : ℕ) {m : Sums} (ns : List ℕ) → m ≡ sums_of ns → {d d' : List ℕ} {at : ℕ} → d ≡ sets l 0 head
    → at ≡ length head → d' ≡ copied d at store from m.total
    → (d' ≡ sets l 0 (head ++ part store from (total ns))) × (at + m.total ≡ length head + total ns)
put_block l head store from {m} ns measured e a c =
    let sum = sums_total ns measured in
    (rw (← sum) (c ∙ put_behind l head (part store from m.total) e a), omega arith)

-- ---- the packet of the frames that stand in the store from a place on
module _ (sd pad : Bool) (six : ℕ) (ns store : List ℕ) (from : ℕ) (dst : List ℕ) (block : from + total ns ≤ length store) where
  abbrev frames : List (List ℕ)
  frames = cut ns (drop from store)

  lengths_are : lengths frames ≡ ns
  lengths_are = lengths-cut ns (drop from store) (omega (arith, length-drop from store))

  joined_are : joined frames ≡ part store from (total ns)
  joined_are = joined-cut ns (drop from store)

  module _ {m : Sums} (measured : m ≡ sums_of ns) {need : ℕ} (asks : need ≡ compact_bytes (length ns) m sd) where
    pub need_is : need ≡ length (compact sd six frames)
    need_is =
        let bytes : length (joined frames) ≡ total ns = ap length joined_are ∙ length_part store from (total ns) block in
        let size : length (compact sd six frames) ≡ length (compact_header sd six ns) + total ns = rw (compact-size sd six frames, lengths_are, bytes) in
        asks ∙ (compact_bytes_lem sd six ns m measured ∙ sym size)

    pub put_refused : length dst < need
        → (negsuc 1 ≡ (leaves dst (output sd pad six frames (length dst))).report.number)
        × (dst ≡ (leaves dst (output sd pad six frames (length dst))).bytes)
    put_refused h = refused_as BufferTooSmall (output_refused sd pad six frames dst (omega (arith, need_is)))

    module _ (fits : need ≤ length dst) {form : Form} (chosen : form ≡ form_for (length ns) need (length dst) pad) where
      abbrev head : List ℕ
      head = header_of sd six ns form

      abbrev packet : List ℕ
      packet = out_packet sd pad six frames (length dst)

      formed : packet ≡ head ++ part store from (total ns) ++ replicate (pad_bytes (missing form)) 0
      unfolding form_packet
      formed =
          let f = rw (lengths_are, joined_are, ← need_is, ← chosen) at (packet_formed sd six frames pad (length dst)) in
          f ∙ sym (append_assoc head (part store from (total ns)) (replicate (pad_bytes (missing form)) 0))

      written : leaves dst (output sd pad six frames (length dst)) ≡ writes packet dst
      written = output-written sd pad six frames dst (omega (arith, need_is))

      length_packet : length packet ≡ length head + total ns + pad_bytes (missing form)
      length_packet = ap length formed ∙ simp (length-append, length-replicate) (omega (arith, length_part store from (total ns) block))

      fills : pad ≡ true → length packet ≡ length dst
      fills p = rw p (filling-length sd six frames (length dst) (omega (arith, need_is)))

      most : length packet ≤ length dst
      most =
          cond_elim (λ (p : List ℕ). length p ≤ length dst) pad (filling sd six frames (length dst)) (compact sd six frames)
          (λ p. omega (arith, filling-length sd six frames (length dst) (omega (arith, need_is))))
          (λ p. omega (arith, need_is))

      pub put_room : length head + total ns ≤ length dst
      put_room = omega (arith, most, length_packet)

      module _ {d : List ℕ} {end : ℕ} (put : d ≡ sets dst 0 (head ++ part store from (total ns))) (ends : end ≡ length head + total ns) where
        -- the compact packet has no zeros
        pub put_plain : pad ≡ false
            → (pos end ≡ (leaves dst (output sd pad six frames (length dst))).report.number)
            × (d ≡ (leaves dst (output sd pad six frames (length dst))).bytes)
        put_plain p =
            let form-is = rw p at chosen in
            let none : pad_bytes (missing form) ≡ 0 = rw (form-is, compact-missing (length ns)) in
            let whole : packet ≡ head ++ part store from (total ns) = rw (none, append-nil) at formed in
            let long : length packet ≡ end = omega (arith, length_packet) in
            rw (written, long, whole) (refl, put)

        -- the zeros reach the end of the destination
        pub put_padded : pad ≡ true → {d' : List ℕ} → d' ≡ filled d end (length dst - end) 0
            → (pos (length dst) ≡ (leaves dst (output sd pad six frames (length dst))).report.number)
            × (d' ≡ (leaves dst (output sd pad six frames (length dst))).bytes)
        put_padded p {d'} f =
            let behind : end ≡ length (head ++ part store from (total ns)) =
            ends
            ∙ sym (simp length-append (omega (arith, length_part store from (total ns) block))) in
            let rest : length dst - end ≡ pad_bytes (missing form) = omega (arith, fills p, length_packet) in
            let whole : d' ≡ sets dst 0 packet =
            rw (formed, ← rest) (f ∙ put_behind dst (head ++ part store from (total ns)) (replicate (length dst - end) 0) put behind) in
            rw (written, fills p) (refl, whole)
