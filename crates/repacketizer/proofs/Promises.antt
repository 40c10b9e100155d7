-- What a buyer may count on when packets are added (demand 3, and document 01's refusals).
-- Assumes nothing.
use Prim.Native.Nat.{ℕ, ◌+◌, ◌*◌, ◌≤◌, ◌<◌}
use native.Mathlib.Nat.{zero-add}
use mathlib.Core.Path.{◌≡◌, refl, sym, ◌∙◌}
use mathlib.Core.List.{List}
use mathlib.Core.Bool.{Bool, true, false}
use mathlib.Core.Logic.{◌⊎◌}
use lib.Dec.{leb}
use lib.IntN.{ℤ, pos, negsuc}
use lib.ListN.{length, get_or}
use Rattle.laws.specs.Bytes.{Bytes}
use Rattle.laws.proofs.Never.{never, by_test}
use Rattle.opus_defines.specs.Numbers.{plain, verdict_report}
use Rattle.opus_defines.specs.declared.Rule.{Rule}
use Rattle.opus_defines.specs.declared.Refusal.{Refusal}
use Rattle.std.specs.Prelude.{Err, Ok, Result}
use Rattle.opus_defines.proofs.Outcomes.{rule_number_lem}
use Rattle.opus_toc.specs.Toc.{upper_six, configuration, samples, time}
use Rattle.opus_toc.proofs.Samples.{lasts_at_lem}
use Rattle.opus_format.specs.Frames.{total}
use Rattle.opus_format.specs.Reading.{refused, accepted, read}
use Rattle.opus.specs.Named.{Named}
use Rattle.collector.specs.declared.OpusRepacketizer.{OpusRepacketizer}
use Rattle.collector.specs.Collector.{held_lengths, held_numbers, held, least_store, sound}
use Rattle.repacketizer.specs.Adding.{goes_with, stays_out, adds, added, added_report, added_number}
use Rattle.repacketizer.specs.Runs.{State, Ready, Empty, Arrival, AllBytes, SameSix, after_adds, frames_accepted, accepted_of, blocks, frames_of_all}
use Rattle.repacketizer.proofs.Adds.{block_refused, block_added, add-empty, refused_keeps}
use Rattle.repacketizer.proofs.Naming.{add_named}
use Rattle.repacketizer.proofs.Adds.{add_out, add_unsound, add_tight, add-sound, add_long, add_refused, add_read}
use Rattle.repacketizer.proofs.Kept.{add_took, first_sets, later_keeps, lengths_stay, bytes_stay}
use Rattle.repacketizer.proofs.Runs.{empty_ready, empty-held, runs_ready, runs_held, runs_six, runs_numbers, accepted_frames}

-- 1. From any collector that holds nothing, after any list of adds, each in its own form and refused ones included, the collector is sound and
-- its store long enough; the frames held are those of the accepted packets, in order,
pub frames_are_kept : (s : State) → Empty s → (l : List Arrival) → AllBytes l
    → held (after_adds s l).rp (after_adds s l).store ≡ frames_accepted s l
frames_are_kept s e l b = runs_held s l (empty_ready s e) b ∙ rw (empty-held s e)

pub collector_stays_sound : (s : State) → Empty s → (l : List Arrival) → AllBytes l → Ready (after_adds s l)
collector_stays_sound s e l b = runs_ready s l (empty_ready s e) b

-- and the upper six TOC bits of every accepted packet are those of the collector at the end.
pub six_bits_are_kept : (s : State) (l : List Arrival) → AllBytes l → SameSix (upper_six (after_adds s l).rp.toc) s l
six_bits_are_kept s l b = runs_six s l b

-- 2. An empty collector takes any packet that the reader accepts.
pub empty_takes_all : (sd : Bool) (rp : OpusRepacketizer) (store p : List ℕ) (toc : ℕ) (ns : List ℕ) (first taken : ℕ) → rp.nb_frames ≡ 0
    → 61200 ≤ length store → length p ≤ 65535 → read sd p ≡ accepted toc ns first taken → (added sd rp p store).answer.verdict ≡ Ok tt
empty_takes_all sd rp store p toc ns first taken e h k r = rw (add-empty sd rp p store toc ns first taken e h k r)

-- and then holds frames that last as long as the packet,
pub empty_holds_its_time : (sd : Bool) (rp : OpusRepacketizer) (store p : List ℕ) (toc : ℕ) (ns : List ℕ) (first taken : ℕ) → rp.nb_frames ≡ 0
    → 61200 ≤ length store → length p ≤ 65535 → read sd p ≡ accepted toc ns first taken
    → let a = (added sd rp p store).answer.rp in time a.toc a.nb_frames ≡ time toc (length ns)
empty_holds_its_time sd rp store p toc ns first taken e h k r = rw (add-empty sd rp p store toc ns first taken e h k r, e, zero-add)

-- since 960 samples at 8 kHz and 5760 at 48 kHz are the same time, whatever the configuration
pub limits_agree : (count c : ℕ) → c < 32 → leb (count * samples 8000 c) 960 ≡ leb (count * samples 48000 c) 5760
limits_agree count c h = lasts_at_lem 8000 refl count c h ∙ sym (lasts_at_lem 48000 refl count c h)

-- 7. A refused add changes nothing; its number is that of the verdict.
pub refused_add_changes_nothing : (sd : Bool) (rp : OpusRepacketizer) (p store : List ℕ) (n : ℕ) → added_number (added sd rp p store).answer ≡ negsuc n
    → ((added sd rp p store).answer.rp ≡ rp) × ((added sd rp p store).store ≡ store)
unfolding added
refused_add_changes_nothing sd rp p store n r = go (added sd rp p store).answer.verdict refl r
  where
    go : (v : Result (Unit {0}) Refusal) → (added sd rp p store).answer.verdict ≡ v → (verdict_report 0 v).number ≡ negsuc n
        → ((added sd rp p store).answer.rp ≡ rp) × ((added sd rp p store).store ≡ store)
    go (Ok tt) e r = never (cc)
    go (Err c) e r = refused_keeps rp p store (adds sd rp p (length store)) e

-- 8. The order of an add's refusals: each fault gives its number, whatever else is wrong behind it.
module _ (sd : Bool) (rp : OpusRepacketizer) (p store : List ℕ) where
  abbrev number : ℤ
  number = added_number (added sd rp p store).answer

  -- an unsound collector, -6,
  pub add_collector_first : sound rp ≡ false → number ≡ negsuc 5
  add_collector_first u = rw (add_unsound sd rp p store u)

  module _ (soundly : sound rp ≡ true) where
    -- then a store of too few bytes, -1,
    pub add_then_store : length store < 61200 → number ≡ negsuc 0
    add_then_store h = rw (add_tight sd rp p store soundly h)

    module _ (roomy : 61200 ≤ length store) where
      -- then a packet of too many bytes, -1,
      pub add_then_length : 65535 < length p → number ≡ negsuc 0
      add_then_length h = rw (add-sound sd rp p store soundly roomy, add_long sd rp p store h)

      -- then a packet that cannot be read, -4,
      pub add_then_packet : (rule : Rule) (place : ℕ) → length p ≤ 65535 → read sd p ≡ refused rule place → number ≡ negsuc 3
      add_then_packet rule place h r =
          rw (add-sound sd rp p store soundly roomy, add_refused sd rp p store rule place h r)
          (by_test (stays_out rp p) (λ t. rw t) (λ t. rw t (rule_number_lem rule place)))

      -- then frames that do not go with those held, -4; and there is no other refusal.
      module _ (bytes : Bytes p) (toc : ℕ) (ns : List ℕ) (first end : ℕ) (h : length p ≤ 65535) (r : read sd p ≡ accepted toc ns first end) where
        pub add_then_held : goes_with rp toc (length ns) ≡ false → number ≡ negsuc 3
        add_then_held g =
            rw (add-sound sd rp p store soundly roomy, add_read sd rp p store toc ns first end bytes h r, block_refused rp toc ns p first store g)

        pub add_otherwise_takes : goes_with rp toc (length ns) ≡ true → number ≡ pos 0
        add_otherwise_takes g =
            rw (add-sound sd rp p store soundly roomy, add_read sd rp p store toc ns first end bytes h r, block_added rp toc ns p first store g)

-- 9. What an accepted add does beside its frames: it counts them; the first packet sets the TOC byte and the frame size, at 8 kHz, and later ones
-- keep both; no length but those of its frames changes, and no byte of the store but those that it copies.
module _ (sd : Bool) (rp : OpusRepacketizer) (p store : List ℕ) (toc : ℕ) (ns : List ℕ) (first end : ℕ) (r : read sd p ≡ accepted toc ns first end)
    (v : (added sd rp p store).answer.verdict ≡ Ok tt) where
  pub add_counts : (added sd rp p store).answer.rp.nb_frames ≡ rp.nb_frames + length ns
  add_counts = rw (add_took sd rp p store toc ns first end r v)

  pub first_packet_sets : rp.nb_frames ≡ 0
      → let a = (added sd rp p store).answer.rp in (a.toc ≡ toc) × (a.framesize.0 ≡ samples 8000 (configuration toc))
  first_packet_sets e = rw (add_took sd rp p store toc ns first end r v) (first_sets rp toc ns e)

  pub later_packet_keeps : (rp.nb_frames ≡ 0 → ⊥)
      → let a = (added sd rp p store).answer.rp in (a.toc ≡ rp.toc) × (a.framesize ≡ rp.framesize)
  later_packet_keeps z = rw (add_took sd rp p store toc ns first end r v) (later_keeps rp toc ns z)

  pub other_lengths_stay : (k : ℕ) → (k < rp.nb_frames) ⊎ (rp.nb_frames + length ns ≤ k)
      → get_or (added sd rp p store).answer.rp.len k 0 ≡ get_or rp.len k 0
  other_lengths_stay k o = rw (add_took sd rp p store toc ns first end r v) (lengths_stay rp toc ns k o)

  pub other_bytes_stay : (k : ℕ) → (k < total (held_lengths rp)) ⊎ (total (held_lengths rp) + total ns ≤ k)
      → get_or (added sd rp p store).store k 0 ≡ get_or store k 0
  other_bytes_stay k o = rw (add_took sd rp p store toc ns first end r v) (bytes_stay store (total (held_lengths rp)) p first (total ns) k o)

-- M-100. Rule and place are those of the reader's refusal of the packet, and 0 in every other answer: also where the packet does not go with the frames
-- held, whatever else is wrong with it.
pub add_names : (sd : Bool) (rp : OpusRepacketizer) (p store : List ℕ) → Named p (added_report (added sd rp p store).answer)
add_names = add_named

pub apart_names_nothing : (sd : Bool) (rp : OpusRepacketizer) (p store : List ℕ) → sound rp ≡ true → least_store ≤ length store → length p ≤ 65535
    → stays_out rp p ≡ true → added_report (added sd rp p store).answer ≡ plain (negsuc 3)
apart_names_nothing sd rp p store soundly roomy short out = rw (add_out sd rp p store soundly roomy short out)

-- M-107. From any collector that holds nothing, whatever stood in its fields, after any list of adds: the numbers of the frames held are 0 to n - 1, a
-- block for each accepted packet with as many as it has frames, and a refused packet uses up none.
pub numbers_are_blocks : (s : State) → Empty s → (l : List Arrival) → AllBytes l → held_numbers (after_adds s l).rp ≡ blocks 0 (accepted_of s l)
numbers_are_blocks s e l b = runs_numbers s l (empty_ready s e) b ∙ rw e.none

pub frames_of_the_accepted : (s : State) → Empty s → (l : List Arrival) → AllBytes l
    → held (after_adds s l).rp (after_adds s l).store ≡ frames_of_all (accepted_of s l)
frames_of_the_accepted s e l b = frames_are_kept s e l b ∙ accepted_frames s l
