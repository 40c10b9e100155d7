-- Collectors by computation: what a reset makes, and which states are sound, with the numbers that the calls return (document 01, 'Return numbers').
-- Assumes nothing.
use Rattle.std.proofs.Common.{◌≡◌, ℕ, ◌-◌, ◌*◌, List, [], ◌∷◌, ◌++◌, map, length, replicate, pos, negsuc, refl}
use Rattle.opus_defines.specs.Numbers.{number_of}
use Rattle.opus_toc.specs.Toc.{duration, samples}
use Rattle.packet_numbers.specs.Numbers.{numbered}
use Rattle.collector.specs.declared.OpusRepacketizer.{OpusRepacketizer}
use Rattle.collector.specs.Collector.{empty, least_store, framed, sound, nb_frames_held}

abbrev pub padded : List ℕ → List ℕ
padded ns = ns ++ replicate (48 - length ns) 0

-- with these lengths and numbers, and zeros behind them
abbrev pub numbered_ones : ℕ → ℕ → ℕ → List ℕ → List ℕ → OpusRepacketizer
numbered_ones toc count each ns ks =
    record { toc = toc; nb_frames = count; framesize = record { 0 = each }; len = padded ns; packet = padded ks }

abbrev pub collector : ℕ → ℕ → ℕ → List ℕ → OpusRepacketizer
collector toc count each ns = numbered_ones toc count each ns []

-- zeros
pub reset_is_zeros : empty ≡ record { toc = 0; nb_frames = 0; framesize = record { 0 = 0 }; len = replicate 48 0; packet = replicate 48 0 }
reset_is_zeros = refl

-- 48 frames, each as long as a frame can be
pub least_store_holds_all : least_store ≡ 48 * 1275
least_store_holds_all = refl

-- empty ones, whatever else they say; 12 frames of 10 ms, 80 samples each at 8 kHz; 24 of 5 ms; 48 of 2.5 ms; a frame of 1275 bytes; behind the
-- count any length
pub sound_ones : map (λ (rp : OpusRepacketizer). number_of (nb_frames_held rp))
    (empty ∷ collector 0x1b 0 7 (1276 ∷ []) ∷ collector 0x00 12 80 [] ∷ collector 0x88 24 40 [] ∷ collector 0x83 48 20 []
    ∷ collector 0x00 1 80 (1275 ∷ []) ∷ collector 0x00 1 80 (0 ∷ 1276 ∷ []) ∷ [])
    ≡ pos 0 ∷ pos 0 ∷ pos 12 ∷ pos 24 ∷ pos 48 ∷ pos 1 ∷ pos 1 ∷ []
unfolding nb_frames_held sound framed numbered samples duration
sound_ones = refl

-- 13 of 10 ms, 25 of 5 ms, 49 of 2.5 ms; the frame size of another TOC byte, and that at 48 kHz; a frame of 1276 bytes, first and last: -6
pub unsound_ones : map (λ (rp : OpusRepacketizer). number_of (nb_frames_held rp))
    (collector 0x00 13 80 [] ∷ collector 0x88 25 40 [] ∷ collector 0x83 49 20 [] ∷ collector 0x00 1 160 [] ∷ collector 0x00 1 480 []
    ∷ collector 0x00 2 80 (1276 ∷ 0 ∷ []) ∷ collector 0x00 2 80 (0 ∷ 1276 ∷ []) ∷ [])
    ≡ replicate 7 (negsuc 5)
unfolding nb_frames_held sound framed numbered samples duration
unsound_ones = refl

-- ---- numbers (document 02, M-107): three frames of 10 ms
-- one packet, one each, the first alone; behind the count, and of a collector that holds nothing, any number
pub numbers_sound : map (λ (ks : List ℕ). number_of (nb_frames_held (numbered_ones 0x00 3 80 [] ks)))
    ((0 ∷ 0 ∷ 0 ∷ []) ∷ (0 ∷ 1 ∷ 2 ∷ []) ∷ (0 ∷ 1 ∷ 1 ∷ []) ∷ (0 ∷ 0 ∷ 1 ∷ 9 ∷ []) ∷ [])
    ++ map (λ (n : ℕ). number_of (nb_frames_held (numbered_ones 0x00 n 80 [] (7 ∷ 9 ∷ [])))) (0 ∷ [])
    ≡ pos 3 ∷ pos 3 ∷ pos 3 ∷ pos 3 ∷ pos 0 ∷ []
unfolding nb_frames_held sound framed numbered samples duration
numbers_sound = refl

-- not from 0; from 255, whose next would be 0; a number left out, first and last; one lower: -6
pub numbers_unsound : map (λ (ks : List ℕ). number_of (nb_frames_held (numbered_ones 0x00 3 80 [] ks)))
    ((1 ∷ 1 ∷ 1 ∷ []) ∷ (255 ∷ 0 ∷ 1 ∷ []) ∷ (0 ∷ 2 ∷ 2 ∷ []) ∷ (0 ∷ 0 ∷ 2 ∷ []) ∷ (0 ∷ 1 ∷ 0 ∷ []) ∷ [])
    ≡ replicate 5 (negsuc 5)
unfolding nb_frames_held sound framed numbered samples duration
numbers_unsound = refl
