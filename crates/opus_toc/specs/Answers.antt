-- What the calls on the TOC byte answer (document 01, 'Bought, and left with the crate' and 'Lengths and the TOC byte').
use Rattle.opus_defines.specs.declared.Refusal.{Refusal}
use Rattle.std.specs.Prelude.{ℕ, zero, suc, ◌/◌, ◌%◌, List, [], ◌∷◌, Bool, cond, ◌||◌, eqb, ℤ, pos, negsuc}
use Rattle.opus_defines.specs.Numbers.{number_of}
use Rattle.std.specs.Prelude.{Err, Ok, Result}
use Rattle.opus_defines.specs.declared.Refusal.TheVariants.{BadArg, InvalidPacket}
use Rattle.opus_toc.specs.Toc.{code, configuration, samples}

-- the five rates, in Hz
abbrev pub is_rate : ℕ → Bool
is_rate r = eqb r 8000 || eqb r 12000 || eqb r 16000 || eqb r 24000 || eqb r 48000

-- `opus_packet_get_samples_per_frame`
unfoldable pub samples_at : List ℕ → ℕ → Result ℕ Refusal
samples_at [] rate = Err BadArg
samples_at (toc ∷ s) rate = cond (is_rate rate) (Ok (samples rate (configuration toc))) (Err BadArg)

abbrev pub samples_per_frame : List ℕ → ℤ → ℤ
samples_per_frame s (negsuc n) = number_of (Err BadArg)
samples_per_frame s (pos rate) = number_of (samples_at s rate)

-- 48000 divided by a rate, and 0 for what is no rate
abbrev pub divisor_of : ℕ → ℕ
divisor_of rate = cond (is_rate rate) (48000 / rate) 0

-- `opus_packet_get_nb_frames`: 1 for code 0, 2 for codes 1 and 2, the low six bits of the second byte for code 3
abbrev pub count_byte : List ℕ → Result ℕ Refusal
count_byte [] = Err InvalidPacket
count_byte (b ∷ s) = Ok (b % 64)

abbrev pub frames_by_code : ℕ → List ℕ → Result ℕ Refusal
frames_by_code zero s = Ok 1
frames_by_code (suc zero) s = Ok 2
frames_by_code (suc (suc zero)) s = Ok 2
frames_by_code (suc (suc (suc c))) s = count_byte s

unfoldable pub nb_frames : List ℕ → Result ℕ Refusal
nb_frames [] = Err BadArg
nb_frames (toc ∷ s) = frames_by_code (code toc) s
