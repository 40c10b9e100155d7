-- Listings by computation: document 01's example, 03 02 AA BB, the same without its bytes (document 02, M-104), and what is refused.
-- Assumes nothing.
use Prim.Native.Nat.{ℕ, ◌<◌}
use mathlib.Core.Path.{◌≡◌, refl}
use mathlib.Core.List.{List, [], ◌∷◌}
use lib.ListN.{length}
use borrow.Author.Tests.{lt-ltb}
use Rattle.opus_defines.specs.Rules.{rule_refusal}
use Rattle.opus_toc.specs.Toc.{duration, samples}
use Rattle.opus_format.specs.Reading.{read}
use Rattle.opus_header.specs.Header.{header}
use Rattle.opus_header.specs.Compact.{compact}
use Rattle.show.specs.Text.{places, decimal, integer, refused_label}
use Rattle.listing_text.specs.Listing.{frame_line, frame_lines, times, sizes, packet_text, report_line, listed, listing}

-- a line of it to a line, and to two where it says where a frame stands
pub example : List ℕ
example =
    116 ∷ 111 ∷ 99 ∷ 32 ∷ 51 ∷ 10 ∷
    99 ∷ 111 ∷ 117 ∷ 110 ∷ 116 ∷ 32 ∷ 50 ∷ 10 ∷
    116 ∷ 105 ∷ 109 ∷ 101 ∷ 32 ∷ 57 ∷ 54 ∷ 48 ∷ 10 ∷
    112 ∷ 97 ∷ 121 ∷ 108 ∷ 111 ∷ 97 ∷ 100 ∷ 32 ∷ 50 ∷ 10 ∷
    112 ∷ 97 ∷ 99 ∷ 107 ∷ 101 ∷ 116 ∷ 32 ∷ 52 ∷ 10 ∷
    99 ∷ 111 ∷ 109 ∷ 112 ∷ 97 ∷ 99 ∷ 116 ∷ 32 ∷ 51 ∷ 10 ∷
    102 ∷ 114 ∷ 97 ∷ 109 ∷ 101 ∷ 32 ∷ 48 ∷ 32 ∷ 97 ∷ 116 ∷ 32 ∷ 50 ∷
    32 ∷ 108 ∷ 101 ∷ 110 ∷ 103 ∷ 116 ∷ 104 ∷ 32 ∷ 49 ∷ 10 ∷
    102 ∷ 114 ∷ 97 ∷ 109 ∷ 101 ∷ 32 ∷ 49 ∷ 32 ∷ 97 ∷ 116 ∷ 32 ∷ 51 ∷
    32 ∷ 108 ∷ 101 ∷ 110 ∷ 103 ∷ 116 ∷ 104 ∷ 32 ∷ 49 ∷ 10 ∷ []

pub example_listing : listing (3 ∷ 2 ∷ 170 ∷ 187 ∷ []) ≡ example
unfolding example listing listed packet_text times sizes frame_lines frame_line decimal places read compact header duration samples
example_listing = refl

-- two frames that were not sent last as long
pub silence : List ℕ
silence =
    116 ∷ 111 ∷ 99 ∷ 32 ∷ 51 ∷ 10 ∷
    99 ∷ 111 ∷ 117 ∷ 110 ∷ 116 ∷ 32 ∷ 50 ∷ 10 ∷
    116 ∷ 105 ∷ 109 ∷ 101 ∷ 32 ∷ 57 ∷ 54 ∷ 48 ∷ 10 ∷
    112 ∷ 97 ∷ 121 ∷ 108 ∷ 111 ∷ 97 ∷ 100 ∷ 32 ∷ 50 ∷ 10 ∷
    112 ∷ 97 ∷ 99 ∷ 107 ∷ 101 ∷ 116 ∷ 32 ∷ 50 ∷ 10 ∷
    99 ∷ 111 ∷ 109 ∷ 112 ∷ 97 ∷ 99 ∷ 116 ∷ 32 ∷ 49 ∷ 10 ∷
    102 ∷ 114 ∷ 97 ∷ 109 ∷ 101 ∷ 32 ∷ 48 ∷ 32 ∷ 97 ∷ 116 ∷ 32 ∷ 50 ∷
    32 ∷ 108 ∷ 101 ∷ 110 ∷ 103 ∷ 116 ∷ 104 ∷ 32 ∷ 48 ∷ 10 ∷
    102 ∷ 114 ∷ 97 ∷ 109 ∷ 101 ∷ 32 ∷ 49 ∷ 32 ∷ 97 ∷ 116 ∷ 32 ∷ 50 ∷
    32 ∷ 108 ∷ 101 ∷ 110 ∷ 103 ∷ 116 ∷ 104 ∷ 32 ∷ 48 ∷ 10 ∷ []

pub silence_takes_time : listing (3 ∷ 2 ∷ []) ≡ silence
unfolding silence listing listed packet_text times sizes frame_lines frame_line decimal places read compact header duration samples
silence_takes_time = refl

-- "refused -4 1 0" for no byte at all, "refused -4 5 1" for 03 00, "refused -1 0 0" for any packet above 65,535 bytes
pub unreadable-listing : listing [] ≡ 114 ∷ 101 ∷ 102 ∷ 117 ∷ 115 ∷ 101 ∷ 100 ∷ 32 ∷ 45 ∷ 52 ∷ 32 ∷ 49 ∷ 32 ∷ 48 ∷ 10 ∷ []
unfolding listing listed read rule_refusal report_line refused_label integer decimal places
unreadable-listing = refl

pub no_frames_listing : listing (3 ∷ 0 ∷ [])
    ≡ 114 ∷ 101 ∷ 102 ∷ 117 ∷ 115 ∷ 101 ∷ 100 ∷ 32 ∷ 45 ∷ 52 ∷ 32 ∷ 53 ∷ 32 ∷ 49 ∷ 10 ∷ []
unfolding listing listed read rule_refusal report_line refused_label integer decimal places duration
no_frames_listing = refl

pub too_long_listing : (p : List ℕ) → 65535 < length p
    → listing p ≡ 114 ∷ 101 ∷ 102 ∷ 117 ∷ 115 ∷ 101 ∷ 100 ∷ 32 ∷ 45 ∷ 49 ∷ 32 ∷ 48 ∷ 32 ∷ 48 ∷ 10 ∷ []
unfolding listing report_line refused_label integer decimal places
too_long_listing p h = rw (lt-ltb 65535 (length p) h)
