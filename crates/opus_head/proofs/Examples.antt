-- Document 02's cases for M-111, by computation.
-- Assumes nothing.
use Prim.Native.Nat.{ℕ}
use mathlib.Core.Path.{◌≡◌, refl}
use mathlib.Core.List.{List, [], ◌∷◌}
use lib.IntN.{pos, negsuc}
use lib.ListN.{drop, replicate}
use Rattle.opus_defines.specs.Numbers.{plain}
use Rattle.opus_defines.specs.Outcome.{refuses}
use Rattle.opus_defines.specs.declared.Refusal.TheVariants.{BufferTooSmall, BadHeader, UnknownVersion, BadField}
use Rattle.std.specs.Prelude.{Err}
use Rattle.std.specs.Prelude.{Ok}
use Rattle.opus_head.specs.declared.OpusHead.{OpusHead}
use Rattle.opus_head.specs.Header.{head_bytes}
use Rattle.opus_head.specs.Reading.{fields_fit, head_read, head_written, head_write}

-- a header with a pre-skip of 312, a rate of 48,000, a gain of -256 (00 FF) and what the family says behind it
abbrev header : ℕ → ℕ → List ℕ → List ℕ
header version channels family =
    0x4f ∷ 0x70 ∷ 0x75 ∷ 0x73 ∷ 0x48 ∷ 0x65 ∷ 0x61 ∷ 0x64
    ∷ version ∷ channels ∷ 0x38 ∷ 0x01 ∷ 0x80 ∷ 0xbb ∷ 0x00 ∷ 0x00 ∷ 0x00 ∷ 0xff ∷ family

abbrev head : ℕ → ℕ → ℕ → ℕ → ℕ → List ℕ → OpusHead
head version channels family streams coupled mapping =
    record {
      version = version;
      channels = channels;
      pre_skip = 312;
      rate = 48000;
      gain = negsuc 255;
      family = family;
      streams = streams;
      coupled = coupled;
      mapping = mapping;
    }

abbrev stereo : ℕ → OpusHead
stereo version = head version 2 0 1 1 (0 ∷ 1 ∷ replicate 253 0)

-- ---- reading
pub round_trip : (head_read (header 1 2 (0 ∷ [])) ≡ Ok (stereo 1))
    × (head_write (stereo 1) (replicate 21 7) ≡ record { report = plain (pos 19); bytes = header 1 2 (0 ∷ 7 ∷ 7 ∷ []) })
unfolding head_read fields_fit head_write head_written head_bytes
round_trip = (refl, refl)

pub one_byte_more : head_read (header 1 2 (0 ∷ 9 ∷ [])) ∷ head_read (header 2 2 (0 ∷ 9 ∷ [])) ∷ [] ≡ Err BadHeader ∷ Ok (stereo 2) ∷ []
unfolding head_read fields_fit
one_byte_more = refl

pub versions : head_read (header 15 2 (0 ∷ [])) ∷ head_read (header 16 2 (0 ∷ [])) ∷ head_read (header 16 2 []) ∷ []
    ≡ Ok (stereo 15) ∷ Err UnknownVersion ∷ Err BadHeader ∷ []
unfolding head_read fields_fit
versions = refl

-- the last letter is another one
pub letters_asked : head_read (0x4f ∷ 0x70 ∷ 0x75 ∷ 0x73 ∷ 0x48 ∷ 0x65 ∷ 0x61 ∷ 0x65 ∷ drop 8 (header 1 2 (0 ∷ []))) ≡ Err BadHeader
unfolding head_read
letters_asked = refl

-- no bytes at all
pub nothing_read : head_read [] ≡ Err BadHeader
unfolding head_read
nothing_read = refl

-- the length comes before the fields
pub channels_of_families : head_read (header 1 3 (0 ∷ [])) ∷ head_read (header 1 0 (0 ∷ [])) ∷ head_read (header 1 0 (1 ∷ 1 ∷ 0 ∷ []))
    ∷ head_read (header 1 0 (1 ∷ 1 ∷ [])) ∷ head_read (header 1 9 (1 ∷ 1 ∷ 0 ∷ replicate 9 0)) ∷ []
    ≡ Err BadField ∷ Err BadField ∷ Err BadField ∷ Err BadHeader ∷ Err BadField ∷ []
unfolding head_read fields_fit
channels_of_families = refl

pub eight_channels : head_read (header 1 8 (1 ∷ 5 ∷ 3 ∷ 0 ∷ 6 ∷ 1 ∷ 2 ∷ 3 ∷ 4 ∷ 5 ∷ 7 ∷ []))
    ≡ Ok (head 1 8 1 5 3 (0 ∷ 6 ∷ 1 ∷ 2 ∷ 3 ∷ 4 ∷ 5 ∷ 7 ∷ replicate 247 0))
unfolding head_read fields_fit
eight_channels = refl

-- an entry is below the sum, or 255
pub entries-below_the_sum : head_read (header 1 2 (1 ∷ 1 ∷ 1 ∷ 0 ∷ 2 ∷ [])) ∷ head_read (header 1 2 (1 ∷ 1 ∷ 1 ∷ 0 ∷ 255 ∷ [])) ∷ []
    ≡ Err BadField ∷ Ok (head 1 2 1 1 1 (0 ∷ 255 ∷ replicate 253 0)) ∷ []
unfolding head_read fields_fit
entries-below_the_sum = refl

pub sum_of_streams : head_read (header 1 1 (255 ∷ 128 ∷ 127 ∷ 254 ∷ [])) ∷ head_read (header 1 1 (255 ∷ 128 ∷ 128 ∷ 0 ∷ []))
    ∷ head_read (header 1 1 (255 ∷ 1 ∷ 2 ∷ 0 ∷ [])) ∷ head_read (header 1 1 (255 ∷ 0 ∷ 0 ∷ 255 ∷ [])) ∷ []
    ≡ Ok (head 1 1 255 128 127 (254 ∷ replicate 254 0)) ∷ Err BadField ∷ Err BadField ∷ Err BadField ∷ []
unfolding head_read fields_fit
sum_of_streams = refl

pub most_channels : head_read (header 1 255 (255 ∷ 1 ∷ 0 ∷ replicate 255 0)) ≡ Ok (head 1 255 255 1 0 (replicate 255 0))
unfolding head_read fields_fit
most_channels = refl

-- ---- writing
pub not_written : head_write (stereo 2) (replicate 19 7) ∷ head_write (head 1 2 0 1 0 (0 ∷ 0 ∷ replicate 253 0)) (replicate 19 7)
    ∷ head_write (head 1 2 0 1 1 (1 ∷ 0 ∷ replicate 253 0)) (replicate 19 7) ∷ head_write (head 1 1 0 1 0 (0 ∷ 0 ∷ 1 ∷ replicate 252 0)) []
    ∷ head_write (stereo 1) (replicate 18 7) ∷ []
    ≡ refuses BadField (replicate 19 7) ∷ refuses BadField (replicate 19 7) ∷ refuses BadField (replicate 19 7) ∷ refuses BadField []
    ∷ refuses BufferTooSmall (replicate 18 7) ∷ []
unfolding head_write head_written fields_fit head_bytes
not_written = refl

pub table-written : head_write (head 1 2 1 1 1 (0 ∷ 255 ∷ replicate 253 0)) (replicate 24 7)
    ≡ record { report = plain (pos 23); bytes = header 1 2 (1 ∷ 1 ∷ 1 ∷ 0 ∷ 255 ∷ 7 ∷ []) }
unfolding head_write head_written fields_fit head_bytes
table-written = refl
