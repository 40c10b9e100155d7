-- What a sound collector holds, whatever its numbers: at most 48 frames, which fit the least store.
-- Assumes nothing.
use Rattle.std.proofs.Common.{◌≡◌, ◌<◌, ◌≤◌, true, eqb, length, arith, length-take-le, eqb-true}
use borrow.Author.Tests.{eqb-false}
use Rattle.laws.proofs.Never.{by_test}
use Rattle.opus_size.specs.Size.{most_bytes}
use Rattle.opus_toc.specs.Toc.{upper_six}
use Rattle.opus_format.specs.Frames.{total, longest}
use Rattle.opus_format.specs.Format.{Lasts}
use Rattle.opus_format.proofs.Counts.{lasts_few}
use Rattle.collector.specs.declared.OpusRepacketizer.{OpusRepacketizer}
use Rattle.collector.specs.Collector.{held_lengths, least_store, framed}
use Rattle.opus_format.proofs.Lengths.{total_most}
use Rattle.collector.proofs.Sound.{timed_lasts, framed-full}

pub record Holding (rp : OpusRepacketizer) : Type 0 where
  pub few : rp.nb_frames ≤ 48
  pub count : length (held_lengths rp) ≡ rp.nb_frames
  pub small : longest (held_lengths rp) ≤ most_bytes
  pub fits : total (held_lengths rp) ≤ least_store
  pub lasts : 1 ≤ rp.nb_frames → Lasts (upper_six rp.toc) rp.nb_frames

holding_none : (rp : OpusRepacketizer) → rp.nb_frames ≡ 0 → Holding rp
holding_none rp e = record { few = omega arith; count = rw e; small = rw e (omega arith); fits = rw e (omega arith); lasts = λ h. absurd (omega arith) }

holding_some : (rp : OpusRepacketizer) → rp.toc < 256 → length rp.len ≡ 48 → framed rp ≡ true → (rp.nb_frames ≡ 0 → ⊥) → Holding rp
holding_some rp b l s z =
    let f = framed-full rp z s in
    let some : 1 ≤ rp.nb_frames = omega arith in
    let lasts : Lasts (upper_six rp.toc) rp.nb_frames = timed_lasts b some f.timed in
    let few : rp.nb_frames ≤ 48 = lasts_few lasts in
    let count : length (held_lengths rp) ≡ rp.nb_frames = length-take-le rp.nb_frames rp.len (omega arith) in
    record { few = few; count = count; small = f.small; fits = omega (arith, total_most (held_lengths rp) f.small); lasts = λ h. lasts }

pub holding : (rp : OpusRepacketizer) → rp.toc < 256 → length rp.len ≡ 48 → framed rp ≡ true → Holding rp
holding rp b l s =
    by_test (eqb rp.nb_frames 0) (λ e. holding_none rp (eqb-true rp.nb_frames 0 e))
    (λ e. holding_some rp b l s (eqb-false rp.nb_frames 0 e))
