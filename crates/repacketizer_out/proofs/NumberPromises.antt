-- What a buyer may count on of output by packet number (document 02, M-107). What it has to do with unpadding is in crate borders.
-- Assumes nothing.
use Prim.Native.Nat.{ℕ, ◌≤◌, ◌<◌}
use mathlib.Core.Path.{◌≡◌, refl, sym, ap, ◌∙◌}
use mathlib.Core.List.{List, ◌∷◌, ◌++◌}
use mathlib.Core.Bool.{true, false}
use lib.IntN.{ℤ, pos, negsuc}
use lib.ListN.{length, get_or}
use borrow.Author.Tests.{lt-ltb, le-ltb}
use Rattle.opus_defines.specs.Bounds.{most_packet}
use Rattle.opus_defines.specs.Outcome.{Outcome, leaves, refuses}
use Rattle.opus_defines.specs.declared.Refusal.TheVariants.{BadArg, InvalidState}
use Rattle.opus_defines.proofs.Outcomes.{refusal-keeps}
use Rattle.opus_toc.specs.Toc.{upper_six}
use Rattle.collector.specs.declared.OpusRepacketizer.{OpusRepacketizer}
use Rattle.collector.specs.Collector.{least_store, sound}
use Rattle.repacketizer.specs.Runs.{State, Ready, Empty, Arrival, AllBytes, after_adds, frames_in, accepted_of}
use Rattle.repacketizer.proofs.Runs.{AllCame, accepted_came}
use Rattle.repacketizer.proofs.Promises.{collector_stays_sound, six_bits_are_kept, numbers_are_blocks, frames_of_the_accepted}
use Rattle.repacketizer_out.specs.Output.{output}
use Rattle.repacketizer_out.specs.Numbered.{numbered_outputs, out_numbered}
use Rattle.repacketizer_out.proofs.Outputs.{output-not_1}
use Rattle.repacketizer_out.proofs.Brought.{split_at, came_at, number_held, number_past, number_negative}

-- From any collector that holds nothing, after any list of adds, strict and ordinary ones, in either delimiting, refused ones among them: the
-- accepted packets have the numbers 0 to n - 1, in their order.
module _ (empty : State) (z : Empty empty) (l : List Arrival) (b : AllBytes l) (dst : List ℕ) where
  abbrev full : State
  full = after_adds empty l

  abbrev ones : List Arrival
  ones = accepted_of empty l

  abbrev out : ℤ → Outcome
  out number = out_numbered full.rp full.store number dst

  ready : Ready full
  ready = collector_stays_sound empty z l b

  came : AllCame (upper_six full.rp.toc) ones
  came = accepted_came (upper_six full.rp.toc) empty l b (six_bits_are_kept empty l b)

  -- Output of packet k writes the compact packet of that packet's own frames, and is refused for room exactly as any output of them,
  pub output_of_a_packet : length dst ≤ 65535 → (before : List Arrival) (a : Arrival) (after : List Arrival) → ones ≡ before ++ (a ∷ after)
      → out (pos (length before)) ≡ leaves dst (output false false (upper_six (get_or a.packet 0 0)) (frames_in a) (length dst))
  output_of_a_packet h before a after q =
      let c = came_at (upper_six full.rp.toc) before a after (rw q at came) in
      rw c.same
      (number_held full ready ones (numbers_are_blocks empty z l b) (frames_of_the_accepted empty z l b) dst h (upper_six full.rp.toc) refl
      before a after q c)

  -- and every other number is refused by -1, before the room is asked for,
  pub no_such_packet : (k : ℕ) → length ones ≤ k → out (pos k) ≡ refuses BadArg dst
  no_such_packet k h = number_past full ready ones (numbers_are_blocks empty z l b) (frames_of_the_accepted empty z l b) dst k h

  pub no_negative_packet : (k : ℕ) → out (negsuc k) ≡ refuses BadArg dst
  no_negative_packet k = number_negative full ready ones (numbers_are_blocks empty z l b) (frames_of_the_accepted empty z l b) dst k

  -- and no number of an accepted packet is.
  pub a_packet_held_is_never_refused_by_1 : length dst ≤ 65535 → (k : ℕ) → k < length ones → (out (pos k)).report.number ≡ negsuc 0 → ⊥
  a_packet_held_is_never_refused_by_1 h k less n =
      let p = split_at k ones less in
      let is = output_of_a_packet h p.before p.one p.after p.whole in
      output-not_1 false false (upper_six (get_or p.one.packet 0 0)) (frames_in p.one) dst
      (sym (ap (λ (o : Outcome). o.report.number) is) ∙ rw p.place n)

-- A refused output by number changes nothing,
pub refused_number_changes_nothing : (rp : OpusRepacketizer) (store : List ℕ) (number : ℤ) (dst : List ℕ) (n : ℕ)
    → (out_numbered rp store number dst).report.number ≡ negsuc n → (out_numbered rp store number dst).bytes ≡ dst
unfolding out_numbered
refused_number_changes_nothing rp store number dst n e = refusal-keeps dst (numbered_outputs rp store number (length dst)) n e

-- and its refusals come in this order: an unsound collector, -6, then a store of too few bytes, -1, then a destination of too many, -1; then the number.
module _ (rp : OpusRepacketizer) (store : List ℕ) (number : ℤ) (dst : List ℕ) where
  pub number_collector_first : sound rp ≡ false → out_numbered rp store number dst ≡ refuses InvalidState dst
  unfolding out_numbered
  number_collector_first u = rw u

  pub number_then_store : sound rp ≡ true → length store < 61200 → out_numbered rp store number dst ≡ refuses BadArg dst
  unfolding out_numbered
  number_then_store s h = rw (s, lt-ltb (length store) least_store h)

  pub number_then_destination : sound rp ≡ true → 61200 ≤ length store → 65535 < length dst → out_numbered rp store number dst ≡ refuses BadArg dst
  unfolding out_numbered
  number_then_destination s h k = rw (s, le-ltb (length store) least_store h, lt-ltb most_packet (length dst) k)
