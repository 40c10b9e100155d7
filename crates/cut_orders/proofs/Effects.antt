-- The single output of an order, unpadded and ordinary, as an effect.
--     effect_whole                                     what is written has the bytes that are answered, and they are within the room
--     effect_passed                                    a call is passed bits
--     effect_before, .., effect_past                   a range that is none of the frames held
--     need_short, need_fits                            a range that is, by the bytes that its packet needs
-- Assumes nothing.
use Prim.Native.Nat.{ℕ, ◌-◌, ◌≤◌, ◌<◌}
use native.Mathlib.Omega.{arith}
use mathlib.Core.Path.{◌≡◌, refl, sym, ap, ◌∙◌}
use mathlib.Core.List.{List, []}
use mathlib.Core.Bool.{false, ◌&&◌}
use lib.Dec.{ltb, leb}
use lib.IntN.{ℤ, pos, negsuc}
use lib.ListN.{length, take}
use mir.Syntax.{w32}
use mir.Val.{SFits, of_z, to_z}
use mir.ValLaws.{to_z-of_z}
use borrow.Author.Tests.{ltb-true, ltb-false, lt-ltb, le-ltb, le-leb, lt-leb}
use Rattle.laws.proofs.Never.{never, by_test}
use Rattle.opus_defines.specs.Numbers.{count_of}
use Rattle.opus_defines.specs.Outcome.{Effect, refusal, wrote, written, leaves}
use Rattle.opus_defines.specs.declared.Refusal.{Refusal}
use Rattle.opus_defines.specs.declared.Refusal.TheVariants.{BadArg, BufferTooSmall}
use Rattle.std.specs.Prelude.{None}
use Rattle.opus_toc.specs.Toc.{upper_six}
use Rattle.opus_format.specs.Frames.{total}
use Rattle.opus_header.specs.Compact.{compact}
use Rattle.opus_header.specs.Sums.{sums_of}
use Rattle.opus_header.specs.Forms.{compact_bytes}
use Rattle.opus_header.specs.declared.Sums.{Sums}
use Rattle.collector.specs.declared.OpusRepacketizer.{OpusRepacketizer}
use Rattle.collector.specs.Collector.{held, least_store}
use Rattle.collector.proofs.Held.{Holding}
use Rattle.repacketizer_out.specs.Output.{range, output, out_frames}
use Rattle.repacketizer_out.proofs.Ranges.{Part, part_of, length-held}
use Rattle.repacketizer_out.proofs.Outputs.{output-short, output-fits}
use Rattle.repacketizer_out.proofs.Put.{need_is}

-- ---- what is written
-- within so much room
pub data Whole (room : ℕ) : Effect → Type 0 where
  stopped : (e : Refusal) → Whole room (refusal e)
  put : (vs : List ℕ) → length vs ≤ room → Whole room (written vs)

module _ (six : ℕ) (frames : List (List ℕ)) (room : ℕ) where
  output_whole : Whole room (output false false six frames room)
  output_whole =
      let packet = compact false six frames in
      by_test (ltb room (length packet))
      (λ t. rw (output-short false false six frames room (ltb-true room (length packet) t)) (stopped BufferTooSmall))
      (λ t. let h = ltb-false room (length packet) t in rw (output-fits false false six frames room h) (put packet h))

module _ (six : ℕ) (frames : List (List ℕ)) (room : ℕ) where
  pub effect_whole : (begin end : ℤ) → Whole room (out_frames false false six frames begin end room)
  effect_whole (negsuc b) end = stopped BadArg
  effect_whole (pos b) (negsuc e) = stopped BadArg
  effect_whole (pos b) (pos e) =
      by_test (ltb b e && leb e (length frames))
      (λ t. rw t (output_whole six (range b e frames) room))
      (λ t. rw t (stopped BadArg))

  -- a call is passed the bits of the range's ends
  pub effect_passed : {begin end : ℤ} → SFits w32 begin → SFits w32 end → {z : ℤ} (dst : List ℕ)
      → z ≡ (leaves dst (out_frames false false six frames (to_z w32 (of_z w32 begin)) (to_z w32 (of_z w32 end)) room)).report.number
      → z ≡ (leaves dst (out_frames false false six frames begin end room)).report.number
  effect_passed {begin} {end} f g dst h = rw (to_z-of_z w32 begin f, to_z-of_z w32 end g) at h

  -- ---- no range of these frames
  pub effect_before : (begin end : ℤ) → count_of begin ≡ None → out_frames false false six frames begin end room ≡ refusal BadArg
  effect_before (pos b) end e = never (cc)
  effect_before (negsuc b) end e = refl

  pub effect_under : (begin end : ℤ) → count_of end ≡ None → out_frames false false six frames begin end room ≡ refusal BadArg
  effect_under (negsuc b) end e = refl
  effect_under (pos b) (pos n) e = never (cc)
  effect_under (pos b) (negsuc n) e = refl

  pub effect_none : {begin end : ℤ} {b e : ℕ} → begin ≡ pos b → end ≡ pos e → e ≤ b
      → out_frames false false six frames begin end room ≡ refusal BadArg
  effect_none {b = b} {e = e} p q h = rw (p, q, le-ltb b e h)

  pub effect_within : {begin end : ℤ} {b e : ℕ} → begin ≡ pos b → end ≡ pos e → b < e → e ≤ length frames
      → out_frames false false six frames begin end room ≡ output false false six (range b e frames) room
  effect_within {b = b} {e = e} p q some h = rw (p, q, lt-ltb b e some, le-leb e (length frames) h)

  pub effect_past : {begin end : ℤ} {b e : ℕ} → begin ≡ pos b → end ≡ pos e → b < e → length frames < e
      → out_frames false false six frames begin end room ≡ refusal BadArg
  effect_past {b = b} {e = e} p q some h = rw (p, q, lt-ltb b e some, lt-leb e (length frames) h)

-- ---- a range of the frames that a collector holds
module _ (rp : OpusRepacketizer) (h : Holding rp) (store : List ℕ) (stored : least_store ≤ length store) (room : ℕ) {begin end : ℤ} {b e : ℕ}
    (begins : begin ≡ pos b) (ends : end ≡ pos e) (some : b < e) where
  abbrev six : ℕ
  six = upper_six rp.toc

  pub held_past : rp.nb_frames < e → out_frames false false six (held rp store) begin end room ≡ refusal BadArg
  held_past k = effect_past six (held rp store) room begins ends some (omega (arith, length-held rp store h))

  module _ (within : e ≤ rp.nb_frames) {m : Sums} (measured : m ≡ sums_of (range b e rp.len)) {need : ℕ}
      (asks : need ≡ compact_bytes (e - b) m false) where
    abbrev pub packet : List ℕ
    packet = compact false six (range b e (held rp store))

    part : Part rp b e
    part = part_of rp h b e some within

    needs : need ≡ length packet
    needs =
        let ns = range b e rp.len in
        let from = total (take b rp.len) in
        rw (part.frames store)
        (need_is false false six ns store from [] (omega (arith, part.block)) measured (rw part.count asks))

    output_of_lem : out_frames false false six (held rp store) begin end room ≡ output false false six (range b e (held rp store)) room
    output_of_lem = effect_within six (held rp store) room begins ends some (omega (arith, length-held rp store h))

    pub need_short : room < need → out_frames false false six (held rp store) begin end room ≡ refusal BufferTooSmall
    need_short k = output_of_lem ∙ output-short false false six (range b e (held rp store)) room (omega (arith, needs))

    pub need_fits : need ≤ room → out_frames false false six (held rp store) begin end room ≡ wrote need packet
    need_fits k = output_of_lem ∙ (output-fits false false six (range b e (held rp store)) room (omega (arith, needs)) ∙ ap (λ n. wrote n packet) (sym needs))
