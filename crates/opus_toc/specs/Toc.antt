-- RFC 6716, section 3.1: the TOC byte. Bits 7 to 3 are the configuration, bit 2 is set for stereo, bits 1 and 0 are the code.
use Rattle.std.specs.Prelude.{ℕ, ◌+◌, ◌*◌, ◌/◌, ◌%◌, [], ◌∷◌, cond, ltb, get_or}

abbrev pub code : ℕ → ℕ
code toc = toc % 4

-- the upper six bits: the configuration and the stereo bit, which all frames of a packet share
abbrev pub upper_six : ℕ → ℕ
upper_six toc = toc / 4

abbrev pub stereo : ℕ → ℕ
stereo toc = upper_six toc % 2

abbrev pub configuration : ℕ → ℕ
configuration toc = upper_six toc / 2

-- the TOC byte of these upper six bits and this code
abbrev pub toc_byte : ℕ → ℕ → ℕ
toc_byte six c = 4 * six + c

-- how long a frame of a configuration lasts, in tenths of a millisecond
-- 0 to 11, SILK: 10, 20, 40, 60 ms; 12 to 15, hybrid: 10, 20 ms; 16 to 31, CELT: 2.5, 5, 10, 20 ms
unfoldable pub duration : ℕ → ℕ
duration c =
    cond (ltb c 12) (get_or (100 ∷ 200 ∷ 400 ∷ 600 ∷ []) (c % 4) 0)
    (cond (ltb c 16) (get_or (100 ∷ 200 ∷ []) (c % 2) 0)
    (get_or (25 ∷ 50 ∷ 100 ∷ 200 ∷ []) (c % 4) 0))

-- how many samples that is at a rate in Hz
unfoldable pub samples : ℕ → ℕ → ℕ
samples rate c = rate * duration c / 10000

-- how long so many frames with this TOC byte last, in samples at 48 kHz; a frame of length 0 was not sent, and its time passes (3.2.1)
abbrev pub time : ℕ → ℕ → ℕ
time toc count = count * samples 48000 (configuration toc)
