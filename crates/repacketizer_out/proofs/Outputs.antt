-- What an output answers, by its tests.
--     refused_as                   a refusal, as the code leaves it
--     out-..                       by the collector, the store and the destination
--     frames-.., held-..           by the range
--     range-output                 a range of the frames that a collector holds with its store
--     output-..                    by the room
-- Assumes nothing.
use Prim.Native.Nat.{ℕ, ◌≤◌, ◌<◌}
use native.Mathlib.Omega.{arith}
use mathlib.Core.Path.{◌≡◌, refl, sym, ap, ◌∙◌}
use mathlib.Core.List.{List}
use mathlib.Core.Bool.{Bool, true, false}
use lib.Dec.{ltb}
use lib.IntN.{ℤ, pos, negsuc}
use lib.ListN.{length, take, drop}
use lib.Seq.{sets, take_all, length-sets}
use mir.Syntax.{w32}
use mir.Val.{to_z, of_z, SFits}
use mir.ValLaws.{to_z-of_z}
use borrow.Author.Tests.{ltb-true, ltb-false, lt-ltb, le-ltb, le-leb, lt-leb}
use Rattle.laws.proofs.Never.{never, by_test}
use Rattle.opus_defines.specs.Numbers.{refusal_number, count_of}
use Rattle.opus_defines.specs.Outcome.{refusal, written, Outcome, leaves, refuses, writes}
use Rattle.opus_defines.specs.declared.Refusal.{Refusal}
use Rattle.opus_defines.specs.declared.Refusal.TheVariants.{BadArg, BufferTooSmall, InvalidState}
use Rattle.std.specs.Prelude.{None}
use Rattle.opus_defines.proofs.Outcomes.{meets_number}
use Rattle.opus_toc.specs.Toc.{upper_six}
use Rattle.opus_format.specs.Frames.{cut, total}
use Rattle.blocks.proofs.Sets.{take-sets}
use Rattle.opus_header.specs.Compact.{compact, filling}
use Rattle.opus_header.proofs.Filling.{filling-length}
use Rattle.collector.specs.declared.OpusRepacketizer.{OpusRepacketizer}
use Rattle.collector.specs.Collector.{held, least_store, sound}
use Rattle.collector.proofs.Held.{Holding}
use Rattle.repacketizer.specs.Runs.{State, Ready}
use Rattle.repacketizer_out.specs.Output.{range, out_packet, output, out_frames, out_range}
use Rattle.repacketizer_out.proofs.Ranges.{part_of, length-held}

-- a refusal, as the code leaves it
pub refused_as : (e : Refusal) {o : Outcome} {dst : List ℕ} → o ≡ refuses e dst → (refusal_number e ≡ o.report.number) × (dst ≡ o.bytes)
refused_as e p = meets_number p refl refl

-- ---- the collector, the store and the destination
module _ (sd pad : Bool) (rp : OpusRepacketizer) (store : List ℕ) (begin end : ℤ) (dst : List ℕ) where
  pub out_unsound : sound rp ≡ false → out_range sd pad rp store begin end dst ≡ refuses InvalidState dst
  unfolding out_range
  out_unsound s = rw s

  module _ (s : sound rp ≡ true) where
    pub out_tight : length store < least_store → out_range sd pad rp store begin end dst ≡ refuses BadArg dst
    unfolding out_range
    out_tight h = rw (s, lt-ltb (length store) least_store h)

    module _ (h : least_store ≤ length store) where
      pub out_long : 65535 < length dst → out_range sd pad rp store begin end dst ≡ refuses BadArg dst
      unfolding out_range
      out_long k = rw (s, le-ltb (length store) least_store h, lt-ltb 65535 (length dst) k)

      pub out_sound : length dst ≤ 65535
          → out_range sd pad rp store begin end dst ≡ leaves dst (out_frames sd pad (upper_six rp.toc) (held rp store) begin end (length dst))
      unfolding out_range
      out_sound k = rw (s, le-ltb (length store) least_store h, le-ltb 65535 (length dst) k)

  -- a call is passed the bits of the range's ends
  pub out_passed : SFits w32 begin → SFits w32 end
      → out_range sd pad rp store begin end dst ≡ out_range sd pad rp store (to_z w32 (of_z w32 begin)) (to_z w32 (of_z w32 end)) dst
  out_passed f g = rw (to_z-of_z w32 begin f, to_z-of_z w32 end g)

-- ---- the range
module _ (sd pad : Bool) (six : ℕ) (frames : List (List ℕ)) (dst : List ℕ) where
  pub frames_before : (begin end : ℤ) → count_of begin ≡ None
      → leaves dst (out_frames sd pad six frames begin end (length dst)) ≡ refuses BadArg dst
  frames_before (pos b) end e = never (cc)
  frames_before (negsuc b) end e = refl

  pub frames_under : (begin end : ℤ) → count_of end ≡ None → leaves dst (out_frames sd pad six frames begin end (length dst)) ≡ refuses BadArg dst
  frames_under (negsuc b) end e = refl
  frames_under (pos b) (pos n) e = never (cc)
  frames_under (pos b) (negsuc n) e = refl

  pub frames_natural : {begin end : ℤ} {b e : ℕ} → begin ≡ pos b → end ≡ pos e
      → leaves dst (out_frames sd pad six frames begin end (length dst)) ≡ leaves dst (out_frames sd pad six frames (pos b) (pos e) (length dst))
  frames_natural p q = rw (p, q)

  module _ (b e : ℕ) where
    pub frames_none : e ≤ b → leaves dst (out_frames sd pad six frames (pos b) (pos e) (length dst)) ≡ refuses BadArg dst
    frames_none h = rw (le-ltb b e h)

    module _ (some : b < e) where
      frames_past : length frames < e → leaves dst (out_frames sd pad six frames (pos b) (pos e) (length dst)) ≡ refuses BadArg dst
      frames_past h = rw (lt-ltb b e some, lt-leb e (length frames) h)

      frames_within : e ≤ length frames
          → leaves dst (out_frames sd pad six frames (pos b) (pos e) (length dst)) ≡ leaves dst (output sd pad six (range b e frames) (length dst))
      frames_within h = rw (lt-ltb b e some, le-leb e (length frames) h)

  -- no range of these frames
  pub frames_out : (begin end : ℤ) → ((b e : ℕ) → begin ≡ pos b → end ≡ pos e → b < e → e ≤ length frames → ⊥)
      → leaves dst (out_frames sd pad six frames begin end (length dst)) ≡ refuses BadArg dst
  frames_out (negsuc b) end out = refl
  frames_out (pos b) (negsuc e) out = refl
  frames_out (pos b) (pos e) out =
      by_test (ltb b e)
      (λ t. frames_past b e (ltb-true b e t)
      (by_test (ltb (length frames) e) (ltb-true (length frames) e)
      (λ u. absurd (out b e refl refl (ltb-true b e t) (ltb-false (length frames) e u)))))
      (λ t. frames_none b e (ltb-false b e t))

-- a range of the frames that a collector holds, by its array and the place where the range stands in the store
module _ (sd pad : Bool) (rp : OpusRepacketizer) (store dst : List ℕ) (h : Holding rp) (b e : ℕ) where
  pub held_past : b < e → rp.nb_frames < e
      → leaves dst (out_frames sd pad (upper_six rp.toc) (held rp store) (pos b) (pos e) (length dst)) ≡ refuses BadArg dst
  held_past some k = frames_past sd pad (upper_six rp.toc) (held rp store) dst b e some (omega (arith, length-held rp store h))

  pub held-within : b < e → e ≤ rp.nb_frames → {from : ℕ} → from ≡ total (take b rp.len)
      → leaves dst (out_frames sd pad (upper_six rp.toc) (held rp store) (pos b) (pos e) (length dst))
      ≡ leaves dst (output sd pad (upper_six rp.toc) (cut (range b e rp.len) (drop from store)) (length dst))
  held-within some k f =
      frames_within sd pad (upper_six rp.toc) (held rp store) dst b e some (omega (arith, length-held rp store h))
      ∙ rw ((part_of rp h b e some k).frames store, f)

pub range-output : (sd pad : Bool) (s : State) → Ready s → (b e : ℕ) → b < e → e ≤ length (held s.rp s.store)
    → (dst : List ℕ) → length dst ≤ 65535
    → out_range sd pad s.rp s.store (pos b) (pos e) dst ≡ leaves dst
    (output sd pad (upper_six s.rp.toc) (range b e (held s.rp s.store)) (length dst))
range-output sd pad s r b e some within dst most =
    out_sound sd pad s.rp s.store (pos b) (pos e) dst r.soundly r.roomy most
    ∙ frames_within sd pad (upper_six s.rp.toc) (held s.rp s.store) dst b e some within

-- ---- the room
sets_whole : (l vs : List ℕ) → length vs ≡ length l → sets l 0 vs ≡ vs
sets_whole l vs e =
    sym (take_all (length vs) (sets l 0 vs) (omega (arith, length-sets l 0 vs))) ∙ take-sets l vs (omega arith)

module _ (sd pad : Bool) (six : ℕ) (frames : List (List ℕ)) (room : ℕ) where
  pub output-short : room < length (compact sd six frames) → output sd pad six frames room ≡ refusal BufferTooSmall
  unfolding output
  output-short h = rw (lt-ltb room (length (compact sd six frames)) h)

  pub output-fits : length (compact sd six frames) ≤ room → output sd pad six frames room ≡ written (out_packet sd pad six frames room)
  unfolding output
  output-fits h = rw (le-ltb room (length (compact sd six frames)) h)

module _ (sd pad : Bool) (six : ℕ) (frames : List (List ℕ)) (dst : List ℕ) where
  pub output_refused : length dst < length (compact sd six frames) → leaves dst (output sd pad six frames (length dst)) ≡ refuses BufferTooSmall dst
  output_refused h = ap (leaves dst) (output-short sd pad six frames (length dst) h)

  pub output-written : length (compact sd six frames) ≤ length dst
      → leaves dst (output sd pad six frames (length dst)) ≡ writes (out_packet sd pad six frames (length dst)) dst
  output-written h = ap (leaves dst) (output-fits sd pad six frames (length dst) h)

  -- refused for room exactly where the destination is shorter than the compact packet
  pub output_exactly : ((leaves dst (output sd pad six frames (length dst))).report.number ≡ negsuc 1 → length dst < length (compact sd six frames))
      × (length dst < length (compact sd six frames) → (leaves dst (output sd pad six frames (length dst))).report.number ≡ negsuc 1)
  output_exactly = (
    λ e. by_test (ltb (length dst) (length (compact sd six frames))) (ltb-true (length dst) (length (compact sd six frames)))
        (λ t. never (let f = rw (output-written (ltb-false (length dst) (length (compact sd six frames)) t)) at e in cc)),
    λ h. rw (output_refused h),
  )

  -- never by -1
  pub output-not_1 : (leaves dst (output sd pad six frames (length dst))).report.number ≡ negsuc 0 → ⊥
  output-not_1 e =
      by_test (ltb (length dst) (length (compact sd six frames)))
      (λ t. never (let f = rw (output_refused (ltb-true (length dst) (length (compact sd six frames)) t)) at e in cc))
      (λ t. never (let f = rw (output-written (ltb-false (length dst) (length (compact sd six frames)) t)) at e in cc))

-- padded output fills the destination
pub output_fills : (sd : Bool) (six : ℕ) (frames : List (List ℕ)) (dst : List ℕ) → length (compact sd six frames) ≤ length dst
    → ((leaves dst (output sd true six frames (length dst))).bytes ≡ filling sd six frames (length dst))
    × ((leaves dst (output sd true six frames (length dst))).report.number ≡ pos (length dst))
output_fills sd six frames dst h =
    let long = filling-length sd six frames (length dst) h in
    rw (output-written sd true six frames dst h) (sets_whole dst (filling sd six frames (length dst)) long, ap pos long)
