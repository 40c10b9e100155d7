-- When a collector is sound: `framed`, and its numbers too.
--     Timed, timed_lasts, lasts_timed                  120 ms counted in samples at 8 kHz
--     none-framed, Full, framed-full, full-framed      an empty collector, and one that is not empty
--     sound-framed, .., sound-bare                     frames and numbers
--     unfit_unsound, fit_kept, fit_timed               by the test of its head
--     unsound_number, sound_number                     the number of frames held
-- Assumes nothing.
use Rattle.std.proofs.Common.{◌≡◌, ℕ, ◌*◌, ◌<◌, ◌≤◌, Bool, true, false, ◌&&◌, eqb, leb, List, sym, refl, ◌∙◌, arith, eq-eqb, ne_eqb, eqb-true, le-leb, leb-true}
use Rattle.laws.proofs.Never.{by_test}
use Rattle.laws.proofs.Every.{both_left, both_right}
use Rattle.std.specs.Prelude.{Err, Ok}
use Rattle.opus_defines.specs.declared.Refusal.TheVariants.{InvalidState}
use Rattle.opus_size.specs.Size.{most_bytes}
use Rattle.opus_toc.specs.Toc.{upper_six, configuration, duration, samples}
use Rattle.opus_toc.proofs.Samples.{lasts_at_lem}
use Rattle.opus_format.specs.Frames.{longest}
use Rattle.opus_format.specs.Format.{Lasts}
use Rattle.packet_numbers.specs.Numbers.{numbered, kept_well}
use Rattle.packet_numbers.proofs.Growing.{none-numbered}
use Rattle.collector.specs.declared.OpusRepacketizer.{OpusRepacketizer}
use Rattle.collector.specs.declared.Head.{Head}
use Rattle.collector.specs.Collector.{held_lengths, held_numbers, framed, sound, nb_frames_held}
use Rattle.collector.specs.Parts.{head_of, collector_of, bare, head_fits}

-- `each` is the frame size of this TOC byte at 8 kHz, and so many frames last at most 120 ms
pub record Timed (toc count each : ℕ) : Type 0 where
  pub size : each ≡ samples 8000 (configuration toc)
  pub time : leb (count * each) 960 ≡ true

-- which are the 120 ms of the RFC's durations
module _ (toc count each : ℕ) (b : toc < 256) (e : each ≡ samples 8000 (configuration toc)) where
  time_is : leb (count * each) 960 ≡ leb (count * duration (configuration toc)) 1200
  time_is = rw e (lasts_at_lem 8000 refl count (configuration toc) (omega arith))

pub timed_lasts : {toc count each : ℕ} → toc < 256 → 1 ≤ count → Timed toc count each → Lasts (upper_six toc) count
timed_lasts {toc} {count} {each} b h t =
    record { some = h; short = leb-true (count * duration (configuration toc)) 1200 (sym (time_is toc count each b t.size) ∙ t.time) }

pub lasts_timed : {toc count each : ℕ} → toc < 256 → each ≡ samples 8000 (configuration toc) → Lasts (upper_six toc) count → Timed toc count each
lasts_timed {toc} {count} {each} b e l =
    record { size = e; time = time_is toc count each b e ∙ le-leb (count * duration (configuration toc)) 1200 l.short }

-- ---- an empty collector
none-framed : (rp : OpusRepacketizer) → rp.nb_frames ≡ 0 → framed rp ≡ true
unfolding framed
none-framed rp e = rw (eq-eqb rp.nb_frames 0 e)

-- ---- one that is not empty
pub record Full (rp : OpusRepacketizer) : Type 0 where
  pub timed : Timed rp.toc rp.nb_frames rp.framesize.0
  pub small : longest (held_lengths rp) ≤ most_bytes

pub full-framed : (rp : OpusRepacketizer) → Full rp → framed rp ≡ true
unfolding framed
full-framed rp f =
    let s = eq-eqb rp.framesize.0 (samples 8000 (configuration rp.toc)) f.timed.size in
    by_test (eqb rp.nb_frames 0) (λ e. rw e) (λ e. rw (e, s, f.timed.time, le-leb (longest (held_lengths rp)) most_bytes f.small))

module _ (rp : OpusRepacketizer) (z : rp.nb_frames ≡ 0 → ⊥) where
  abbrev size : Bool
  size = eqb rp.framesize.0 (samples 8000 (configuration rp.toc))

  abbrev time : Bool
  time = leb (rp.nb_frames * rp.framesize.0) 960

  abbrev small : Bool
  small = leb (longest (held_lengths rp)) most_bytes

  framed_is : framed rp ≡ size && (time && small)
  unfolding framed
  framed_is = rw (ne_eqb rp.nb_frames 0 z)

  pub framed-full : framed rp ≡ true → Full rp
  framed-full s =
      let all = sym framed_is ∙ s in
      let rest = both_right size (time && small) all in
      record {
        timed = record {
          size = eqb-true rp.framesize.0 (samples 8000 (configuration rp.toc)) (both_left size (time && small) all);
          time = both_left time small rest;
        };
        small = leb-true (longest (held_lengths rp)) most_bytes (both_right time small rest);
      }

-- ---- frames and numbers
module _ (rp : OpusRepacketizer) where
  pub sound-framed : sound rp ≡ true → framed rp ≡ true
  unfolding sound
  sound-framed s = both_left (framed rp) (numbered (held_numbers rp)) s

  pub sound-numbered : sound rp ≡ true → numbered (held_numbers rp) ≡ true
  unfolding sound
  sound-numbered s = both_right (framed rp) (numbered (held_numbers rp)) s

  pub both_sound : framed rp ≡ true → numbered (held_numbers rp) ≡ true → sound rp ≡ true
  unfolding sound
  both_sound f n = rw (f, n)

  pub none-sound : rp.nb_frames ≡ 0 → sound rp ≡ true
  none-sound e = both_sound (none-framed rp e) (rw (e, none-numbered))

  -- one that is not empty, by the test of its head
  module _ (z : rp.nb_frames ≡ 0 → ⊥) where
    pub unfit_unsound : head_fits (head_of rp) ≡ false → sound rp ≡ false
    unfolding sound
    unfit_unsound w = by_test (size rp z) (λ s. rw (framed_is rp z, s, rw s at w)) (λ s. rw (framed_is rp z, s))

    pub fit_kept : head_fits (head_of rp) ≡ true → kept_well (held_lengths rp) (held_numbers rp) ≡ sound rp
    unfolding sound
    fit_kept t = rw (framed_is rp z, both_left (size rp z) (time rp z) t, both_right (size rp z) (time rp z) t)

-- a head that fits
pub fit_timed : (h : Head) → head_fits h ≡ true → Timed h.toc h.nb_frames h.framesize.0
fit_timed h t =
    let size = eqb h.framesize.0 (samples 8000 (configuration h.toc)) in
    let time = leb (h.nb_frames * h.framesize.0) 960 in
    record { size = eqb-true h.framesize.0 (samples 8000 (configuration h.toc)) (both_left size time t); time = both_right size time t }

-- the numbers are no part of the frames
framed-bare : (h : Head) (len packet : List ℕ) → framed (collector_of h len packet) ≡ framed (bare h len)
unfolding framed
framed-bare h len packet = refl

pub sound-bare : (h : Head) (len packet : List ℕ) → sound (collector_of h len packet) ≡ true → framed (bare h len) ≡ true
sound-bare h len packet s = sym (framed-bare h len packet) ∙ sound-framed (collector_of h len packet) s

-- ---- the frames held, as a number
module _ (rp : OpusRepacketizer) where
  pub unsound_number : sound rp ≡ false → Err InvalidState ≡ nb_frames_held rp
  unfolding nb_frames_held
  unsound_number s = rw s

  pub sound_number : sound rp ≡ true → Ok rp.nb_frames ≡ nb_frames_held rp
  unfolding nb_frames_held
  sound_number s = rw s
