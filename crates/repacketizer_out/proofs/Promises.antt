-- What a buyer may count on when frames are written (demand 3, and document 01's refusals). `sd` is true for the self-delimited form.
-- Assumes nothing.
use Prim.Native.Nat.{ℕ, ◌≤◌, ◌<◌}
use native.Mathlib.Omega.{arith}
use mathlib.Core.Path.{◌≡◌, ap, ◌∙◌}
use mathlib.Core.List.{List, [], map, append-nil}
use mathlib.Core.Bool.{Bool, true, false}
use mathlib.Core.Logic.{◌⊎◌}
use lib.IntN.{ℤ, pos, negsuc}
use lib.ListN.{length, get_or, replicate}
use Rattle.laws.specs.Bytes.{Bytes}
use Rattle.opus_defines.specs.Outcome.{Outcome, writes}
use Rattle.opus_toc.specs.Toc.{upper_six}
use Rattle.opus_format.specs.Format.{Spells}
use Rattle.opus_format.specs.Reading.{read, frames_of}
use Rattle.opus_header.specs.Compact.{compact, filling}
use Rattle.opus_header.proofs.Shortest.{shortest}
use Rattle.opus_format.specs.Dirt.{dirty_packet}
use Rattle.opus_format.proofs.Dirt.{spelled_dirt, dirty_zeros}
use Rattle.opus_header.proofs.Spelled.{compact_spelled, compact-unpadded}
use Rattle.opus_header.proofs.Filling.{filling_spelled, filling_zeros}
use Rattle.collector.specs.declared.OpusRepacketizer.{OpusRepacketizer}
use Rattle.collector.specs.Collector.{held, sound}
use Rattle.repacketizer.specs.Runs.{State, Ready, Empty, Holds, Arrival, AllBytes, AllAccepted, after_adds, frames_accepted}
use Rattle.repacketizer.proofs.Runs.{runs_bytes}
use Rattle.repacketizer.proofs.Promises.{frames_are_kept, collector_stays_sound}
use Rattle.opus_defines.proofs.Outcomes.{refusal-keeps}
use Rattle.repacketizer_out.specs.Output.{outputs, range, out_range, out_all}
use Rattle.repacketizer_out.specs.Pieces.{Piece, Nonempty, together, packed, Cut, Cuts, Room, outputs_added}
use Rattle.repacketizer_out.proofs.Ranges.{length-held, ready_holding, range-lasts, range_small}
use Rattle.repacketizer_out.proofs.Outputs.{out_unsound, out_tight, out_long, out_sound, frames_none, frames_out}
use Rattle.repacketizer_out.proofs.Outputs.{range-output, output-written, output_exactly, output_fills}
use Rattle.repacketizer_out.proofs.Packets.{nothing-behind, spelled_back}
use Rattle.repacketizer_out.proofs.Again.{cuts_held, outputs-held}

-- 3. Shortest: whatever RFC packet has these frames and these upper six TOC bits is the compact packet, or is longer than it.
pub compact_is_shortest : {sd : Bool} {six : ℕ} {p : List ℕ} {frames : List (List ℕ)} → Spells sd six p frames
    → (p ≡ compact sd six frames) ⊎ (length (compact sd six frames) < length p)
compact_is_shortest w = shortest w

-- a range begin..end, not empty, of the frames that a collector holds, and a destination
module _ (s : State) (r : Ready s) (begin end : ℕ) (some : begin < end) (within : end ≤ length (held s.rp s.store)) (dst : List ℕ)
    (most : length dst ≤ 65535) where
  abbrev six : ℕ
  six = upper_six s.rp.toc

  abbrev frames : List (List ℕ)
  frames = range begin end (held s.rp s.store)

  -- 4. Output, padded or not, is refused for room exactly where the destination is shorter than the compact packet,
  pub refused_for_room_exactly : (sd pad : Bool)
      → ((out_range sd pad s.rp s.store (pos begin) (pos end) dst).report.number ≡ negsuc 1 → length dst < length (compact sd six frames))
      × (length dst < length (compact sd six frames) → (out_range sd pad s.rp s.store (pos begin) (pos end) dst).report.number ≡ negsuc 1)
  refused_for_room_exactly sd pad = rw (range-output sd pad s r begin end some within dst most) (output_exactly sd pad six frames dst)

  -- otherwise the unpadded one writes it,
  pub output_is_compact : (sd : Bool) → length (compact sd six frames) ≤ length dst
      → out_range sd false s.rp s.store (pos begin) (pos end) dst ≡ writes (compact sd six frames) dst
  output_is_compact sd h = range-output sd false s r begin end some within dst most ∙ output-written sd false six frames dst h

  -- which is a packet of RFC 6716 with these frames and six bits, and reads back as them.
  pub compact_is_a_packet : (sd : Bool) → Spells sd six (compact sd six frames) frames
  compact_is_a_packet sd = compact_spelled sd six frames (range-lasts s r begin end some within) (range_small s r begin end some within)

  pub compact_reads_back : (sd : Bool)
      → (frames_of (compact sd six frames) (read sd (compact sd six frames)) ≡ frames) × (upper_six (get_or (compact sd six frames) 0 0) ≡ six)
  compact_reads_back sd = spelled_back (compact_is_a_packet sd)

  -- 5. Padded output fills the destination exactly and reads back as those frames too; its padding bytes are zeros.
  pub padded-output_fills : (sd : Bool) → length (compact sd six frames) ≤ length dst
      → ((out_range sd true s.rp s.store (pos begin) (pos end) dst).bytes ≡ filling sd six frames (length dst))
      × ((out_range sd true s.rp s.store (pos begin) (pos end) dst).report.number ≡ pos (length dst))
  padded-output_fills sd h = rw (range-output sd true s r begin end some within dst most) (output_fills sd six frames dst h)

  pub filling_reads_back : (sd : Bool) (m : ℕ)
      → (frames_of (filling sd six frames m) (read sd (filling sd six frames m)) ≡ frames) × (upper_six (get_or (filling sd six frames m) 0 0) ≡ six)
  filling_reads_back sd m = spelled_back (filling_spelled sd six frames m (range-lasts s r begin end some within) (range_small s r begin end some within))

  pub filling_is_a_packet : (sd : Bool) (m : ℕ) → Spells sd six (filling sd six frames m) frames
  filling_is_a_packet sd m = filling_spelled sd six frames m (range-lasts s r begin end some within) (range_small s r begin end some within)

  pub padding_is_zeros : (sd : Bool) (m : ℕ) → (filling_is_a_packet sd m).padding ≡ replicate (length (filling_is_a_packet sd m).padding) 0
  unfolding filling_is_a_packet
  padding_is_zeros sd m = filling_zeros sd six frames m (range-lasts s r begin end some within) (range_small s r begin end some within)

  -- Outputs are clean, unpadded and padded: a strict add refuses none of them for its padding (document 02, M-105).
  pub unpadded-output_is_clean : (sd : Bool) → dirty_packet sd (compact sd six frames) ≡ false
  unpadded-output_is_clean sd =
      let lasting = range-lasts s r begin end some within in
      let small = range_small s r begin end some within in
      rw (append-nil (compact sd six frames), compact-unpadded sd six frames lasting small) at
      (spelled_dirt (compact_spelled sd six frames lasting small) [] (nothing-behind sd))

  pub padded-output_is_clean : (sd : Bool) (m : ℕ) → dirty_packet sd (filling sd six frames m) ≡ false
  padded-output_is_clean sd m =
      let dirt = rw (append-nil (filling sd six frames m), padding_is_zeros sd m) at (spelled_dirt (filling_is_a_packet sd m) [] (nothing-behind sd)) in
      dirt ∙ dirty_zeros (length (filling_is_a_packet sd m).padding)

-- Output of all is output of the range of all frames held; where none is held, it is refused by -1.
module _ (s : State) (r : Ready s) (dst : List ℕ) (most : length dst ≤ 65535) where
  pub all_is_the_range : out_all s.rp s.store dst ≡ out_range false false s.rp s.store (pos 0) (pos (length (held s.rp s.store))) dst
  all_is_the_range = rw (length-held s.rp s.store (ready_holding s r))

  pub all_of_none_is_refused : s.rp.nb_frames ≡ 0 → (out_all s.rp s.store dst).report.number ≡ negsuc 0
  all_of_none_is_refused e =
      ap (λ (o : Outcome). o.report.number)
      (out_sound false false s.rp s.store (pos 0) (pos s.rp.nb_frames) dst r.soundly r.roomy most
      ∙ frames_none false false (upper_six s.rp.toc) (held s.rp s.store) dst 0 s.rp.nb_frames (omega (arith, e)))

-- 6. The frames held, cut into consecutive pieces that are not empty, each as its compact packet and added in order, strictly or not, to a collector
-- that holds nothing, are held again, with the same upper six TOC bits; every add is accepted.
pub cuts_give_the_frames_again : (s : State) → Ready s → Bytes s.store → (sd : Bool) (pieces : List Piece) → Nonempty pieces
    → together pieces ≡ held s.rp s.store → (e : State) → Empty e
    → let l = map (packed sd (upper_six s.rp.toc)) pieces in
    AllAccepted e l × Holds (upper_six s.rp.toc) (after_adds e l) (held s.rp s.store)
cuts_give_the_frames_again s r b sd pieces n same e z = cuts_held s r sd b pieces n same e z

-- From adds to outputs to adds, strict and ordinary ones mixed in both: F are the frames of the packets that a collector which held nothing has accepted.
-- F cut at any points, each range written by an output call into a destination with room, and what each call left in front added in order to any collector
-- that holds nothing: every add is accepted, the frames held are F, and the upper six TOC bits are the same.
pub packing_can_be_undone : (empty : State) → Empty empty → Bytes empty.store → (l : List Arrival) → AllBytes l
    → let s = after_adds empty l in
    let frames = frames_accepted empty l in
    let six = upper_six s.rp.toc in
    (sd : Bool) (cuts : List Cut) → Cuts 0 (length frames) cuts → Room sd six frames 0 cuts → (again : State) → Empty again
    → let back = outputs_added sd s 0 cuts in
    AllAccepted again back × Holds six (after_adds again back) frames
packing_can_be_undone empty z k l b sd cuts c m again e =
    let s = after_adds empty l in
    let kept = frames_are_kept empty z l b in
    rw (← kept) (outputs-held s (collector_stays_sound empty z l b) sd (runs_bytes empty l k b) cuts (rw kept c) (rw kept m) again e)

-- 7. A refused output changes nothing.
pub refused_output_changes_nothing : (sd pad : Bool) (rp : OpusRepacketizer) (store : List ℕ) (begin end : ℤ) (dst : List ℕ) (n : ℕ)
    → (out_range sd pad rp store begin end dst).report.number ≡ negsuc n → (out_range sd pad rp store begin end dst).bytes ≡ dst
unfolding out_range
refused_output_changes_nothing sd pad rp store begin end dst n e = refusal-keeps dst (outputs sd pad rp store begin end (length dst)) n e

-- 8. The order of an output's refusals: each fault gives its number, whatever else is wrong behind it.
module _ (sd pad : Bool) (rp : OpusRepacketizer) (store : List ℕ) (begin end : ℤ) (dst : List ℕ) where
  abbrev number : ℤ
  number = (out_range sd pad rp store begin end dst).report.number

  answers : {o : Outcome} → out_range sd pad rp store begin end dst ≡ o → number ≡ o.report.number
  answers e = ap (λ (o : Outcome). o.report.number) e

  -- an unsound collector, -6,
  pub output_collector_first : sound rp ≡ false → number ≡ negsuc 5
  output_collector_first u = answers (out_unsound sd pad rp store begin end dst u)

  module _ (soundly : sound rp ≡ true) where
    -- then a store of too few bytes, -1,
    pub output_then_store : length store < 61200 → number ≡ negsuc 0
    output_then_store h = answers (out_tight sd pad rp store begin end dst soundly h)

    module _ (roomy : 61200 ≤ length store) where
      -- then a destination of too many bytes, -1,
      pub output_then_destination : 65535 < length dst → number ≡ negsuc 0
      output_then_destination h = answers (out_long sd pad rp store begin end dst soundly roomy h)

      -- then a range that is not 0 <= begin < end <= held, -1; room is tested last (`refused_for_room_exactly`).
      pub output_then_range : length dst ≤ 65535
          → ((b e : ℕ) → begin ≡ pos b → end ≡ pos e → b < e → e ≤ length (held rp store) → ⊥) → number ≡ negsuc 0
      output_then_range h out =
          answers
          (out_sound sd pad rp store begin end dst soundly roomy h
          ∙ frames_out sd pad (upper_six rp.toc) (held rp store) dst begin end out)
