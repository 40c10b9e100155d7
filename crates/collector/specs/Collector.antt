-- The collector: what it holds, and when it is sound (document 01, 'Return numbers'; document 02, M-107).
use Rattle.opus_defines.specs.declared.Refusal.{Refusal}
use Rattle.std.specs.Prelude.{ℕ, ◌*◌, Bool, cond, ◌&&◌, ◌||◌, List, take, replicate, ◌==◌, nat_le}
use Rattle.std.specs.Prelude.{Err, Ok, Result}
use Rattle.opus_defines.specs.declared.Refusal.TheVariants.{InvalidState}
use Rattle.opus_size.specs.Size.{most_bytes}
use Rattle.opus_toc.specs.Toc.{configuration, samples}
use Rattle.opus_format.specs.Frames.{cut, longest}
use Rattle.packet_numbers.specs.Numbers.{numbered}
use Rattle.collector.specs.declared.OpusRepacketizer.{OpusRepacketizer}

-- what init and reset make
abbrev pub empty : OpusRepacketizer
empty = record { toc = 0; nb_frames = 0; framesize = record { 0 = 0 }; len = replicate 48 0; packet = replicate 48 0 }

-- the lengths of the frames held; the frames stand one behind another in the store, from its front on
abbrev pub held_lengths : OpusRepacketizer → List ℕ
held_lengths rp = take rp.nb_frames rp.len

abbrev pub held : OpusRepacketizer → List ℕ → List (List ℕ)
held rp store = cut (held_lengths rp) store

-- for each frame held the number of the accepted packet that it came in, from 0 since the collector was last empty
abbrev pub held_numbers : OpusRepacketizer → List ℕ
held_numbers rp = take rp.nb_frames rp.packet

-- the least store, in bytes: 48 frames of 1275
abbrev pub least_store : ℕ
least_store = 61200

-- empty, or: the frame size is the TOC's at 8 kHz, the frames last at most 120 ms, and each is at most 1275 bytes long
unfoldable pub framed : OpusRepacketizer → Bool
framed rp =
    (rp.nb_frames == 0)
    || (rp.framesize.0 == samples 8000 (configuration rp.toc)
    && (nat_le (rp.nb_frames * rp.framesize.0) 960
    && nat_le (longest (held_lengths rp)) most_bytes))

-- and the numbers begin at 0 and go by 0 or 1; what is behind the count is free, lengths and numbers
unfoldable pub sound : OpusRepacketizer → Bool
sound rp = framed rp && numbered (held_numbers rp)

-- `opus_repacketizer_get_nb_frames`
unfoldable pub nb_frames_held : OpusRepacketizer → Result ℕ Refusal
nb_frames_held rp = cond (sound rp) (Ok rp.nb_frames) (Err InvalidState)
