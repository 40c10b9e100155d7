-- The calls on the TOC byte by computation, with the numbers that they return (document 01).
-- Assumes nothing.
use Prim.Native.Nat.{ℕ}
use mathlib.Core.Path.{◌≡◌, refl}
use mathlib.Core.List.{List, [], ◌∷◌, map}
use lib.IntN.{ℤ, pos, negsuc}
use Rattle.opus_defines.specs.Numbers.{number_of}
use Rattle.opus_toc.specs.Toc.{duration, samples}
use Rattle.opus_toc.specs.Answers.{samples_at, samples_per_frame, nb_frames}

-- 10 ms at the five rates; a rate that is none of them, 0 or negative is -1
pub samples_by_rate : map (λ (rate : ℤ). samples_per_frame (0x00 ∷ []) rate)
    (pos 8000 ∷ pos 12000 ∷ pos 16000 ∷ pos 24000 ∷ pos 48000 ∷ pos 44100 ∷ pos 96000 ∷ pos 0 ∷ negsuc 47999 ∷ [])
    ≡ pos 80 ∷ pos 120 ∷ pos 160 ∷ pos 240 ∷ pos 480 ∷ negsuc 0 ∷ negsuc 0 ∷ negsuc 0 ∷ negsuc 0 ∷ []
unfolding samples_at samples duration
samples_by_rate = refl

-- 60 ms, 20 ms and 2.5 ms at 48 kHz, whatever the stereo bit and the code; an empty packet is -1
pub samples_by_toc : map (λ (s : List ℕ). samples_per_frame s (pos 48000))
    ((0x1b ∷ []) ∷ (0x1c ∷ []) ∷ (0x6f ∷ 0xaa ∷ []) ∷ (0x83 ∷ []) ∷ [] ∷ [])
    ≡ pos 2880 ∷ pos 2880 ∷ pos 960 ∷ pos 120 ∷ negsuc 0 ∷ []
unfolding samples_at samples duration
samples_by_toc = refl

-- codes 0, 1, 2, and 3 with the low six bits of the count byte, 0 and 63 too; -1 for an empty packet, -4 where the count byte is missing
pub frames_by_code_lem : map (λ (s : List ℕ). number_of (nb_frames s))
    ((0xfc ∷ []) ∷ (0x01 ∷ []) ∷ (0xfe ∷ 0xaa ∷ [])
    ∷ (0x03 ∷ 0x30 ∷ []) ∷ (0x03 ∷ 0xff ∷ []) ∷ (0x03 ∷ 0xc0 ∷ []) ∷ [] ∷ (0x03 ∷ []) ∷ [])
    ≡ pos 1 ∷ pos 2 ∷ pos 2 ∷ pos 48 ∷ pos 63 ∷ pos 0 ∷ negsuc 0 ∷ negsuc 3 ∷ []
unfolding nb_frames
frames_by_code_lem = refl
