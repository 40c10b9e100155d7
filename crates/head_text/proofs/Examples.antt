-- Texts by computation: the stereo header of document 02's case, a header of six channels, and what is refused.
-- Assumes nothing.
use Prim.Native.Nat.{ℕ}
use mathlib.Core.Path.{◌≡◌, refl}
use mathlib.Core.List.{List, [], ◌∷◌, ◌++◌}
use lib.ListN.{replicate}
use Rattle.opus_head.specs.Header.{letters}
use Rattle.opus_head.specs.Reading.{fields_fit, head_read}
use Rattle.show.specs.Text.{places, decimal, integer, refused_label, refusal}
use Rattle.head_text.specs.Text.{entry_texts, opening_lines, sound_lines, stream_lines, head_lines, head_text}

-- two channels, 312 samples, 48,000 Hz, -256 of 1/256 dB, family 0
abbrev stereo : List ℕ
stereo = letters ++ (0x01 ∷ 0x02 ∷ 0x38 ∷ 0x01 ∷ 0x80 ∷ 0xbb ∷ 0x00 ∷ 0x00 ∷ 0x00 ∷ 0xff ∷ 0x00 ∷ [])

-- version 1; channels 2; pre-skip 312 samples; input rate 48000 Hz; gain -256 in 1/256 dB; family 0; streams 1; coupled 1; mapping 0 1
pub stereo_text : head_text stereo
    ≡
    118 ∷ 101 ∷ 114 ∷ 115 ∷ 105 ∷ 111 ∷ 110 ∷ 32 ∷ 49 ∷ 10
    ∷ 99 ∷ 104 ∷ 97 ∷ 110 ∷ 110 ∷ 101 ∷ 108 ∷ 115 ∷ 32 ∷ 50 ∷ 10
    ∷ 112 ∷ 114 ∷ 101 ∷ 45 ∷ 115 ∷ 107 ∷ 105 ∷ 112 ∷ 32 ∷ 51 ∷ 49 ∷ 50 ∷ 32 ∷ 115 ∷ 97
    ∷ 109 ∷ 112 ∷ 108 ∷ 101 ∷ 115 ∷ 10
    ∷ 105 ∷ 110 ∷ 112 ∷ 117 ∷ 116 ∷ 32 ∷ 114 ∷ 97 ∷ 116 ∷ 101 ∷ 32 ∷ 52 ∷ 56 ∷ 48 ∷ 48 ∷ 48 ∷ 32 ∷ 72 ∷ 122 ∷ 10
    ∷ 103 ∷ 97 ∷ 105 ∷ 110 ∷ 32 ∷ 45 ∷ 50 ∷ 53 ∷ 54 ∷ 32 ∷ 105 ∷ 110 ∷ 32 ∷ 49 ∷ 47 ∷ 50
    ∷ 53 ∷ 54 ∷ 32 ∷ 100 ∷ 66 ∷ 10
    ∷ 102 ∷ 97 ∷ 109 ∷ 105 ∷ 108 ∷ 121 ∷ 32 ∷ 48 ∷ 10
    ∷ 115 ∷ 116 ∷ 114 ∷ 101 ∷ 97 ∷ 109 ∷ 115 ∷ 32 ∷ 49 ∷ 10
    ∷ 99 ∷ 111 ∷ 117 ∷ 112 ∷ 108 ∷ 101 ∷ 100 ∷ 32 ∷ 49 ∷ 10
    ∷ 109 ∷ 97 ∷ 112 ∷ 112 ∷ 105 ∷ 110 ∷ 103 ∷ 32 ∷ 48 ∷ 32 ∷ 49 ∷ 10 ∷ []
unfolding head_text head_lines opening_lines sound_lines stream_lines entry_texts head_read fields_fit decimal integer places
stereo_text = refl

-- six channels of family 1 in four streams, two of them coupled, 44,100 Hz
abbrev surround : List ℕ
surround =
    letters ++ (0x01 ∷ 0x06 ∷ 0x38 ∷ 0x01 ∷ 0x44 ∷ 0xac ∷ 0x00 ∷ 0x00 ∷ 0x00 ∷ 0x00 ∷ 0x01 ∷ 0x04
    ∷ 0x02 ∷ 0x00 ∷ 0x04 ∷ 0x01 ∷ 0x02 ∷ 0x03 ∷ 0x05 ∷ [])

-- version 1; channels 6; pre-skip 312 samples; input rate 44100 Hz; gain 0 in 1/256 dB; family 1; streams 4; coupled 2; mapping 0 4 1 2 3 5
pub surround_text : head_text surround
    ≡
    118 ∷ 101 ∷ 114 ∷ 115 ∷ 105 ∷ 111 ∷ 110 ∷ 32 ∷ 49 ∷ 10
    ∷ 99 ∷ 104 ∷ 97 ∷ 110 ∷ 110 ∷ 101 ∷ 108 ∷ 115 ∷ 32 ∷ 54 ∷ 10
    ∷ 112 ∷ 114 ∷ 101 ∷ 45 ∷ 115 ∷ 107 ∷ 105 ∷ 112 ∷ 32 ∷ 51 ∷ 49 ∷ 50 ∷ 32 ∷ 115 ∷ 97
    ∷ 109 ∷ 112 ∷ 108 ∷ 101 ∷ 115 ∷ 10
    ∷ 105 ∷ 110 ∷ 112 ∷ 117 ∷ 116 ∷ 32 ∷ 114 ∷ 97 ∷ 116 ∷ 101 ∷ 32 ∷ 52 ∷ 52 ∷ 49 ∷ 48 ∷ 48 ∷ 32 ∷ 72 ∷ 122 ∷ 10
    ∷ 103 ∷ 97 ∷ 105 ∷ 110 ∷ 32 ∷ 48 ∷ 32 ∷ 105 ∷ 110 ∷ 32 ∷ 49 ∷ 47 ∷ 50 ∷ 53 ∷ 54 ∷ 32 ∷ 100 ∷ 66 ∷ 10
    ∷ 102 ∷ 97 ∷ 109 ∷ 105 ∷ 108 ∷ 121 ∷ 32 ∷ 49 ∷ 10
    ∷ 115 ∷ 116 ∷ 114 ∷ 101 ∷ 97 ∷ 109 ∷ 115 ∷ 32 ∷ 52 ∷ 10
    ∷ 99 ∷ 111 ∷ 117 ∷ 112 ∷ 108 ∷ 101 ∷ 100 ∷ 32 ∷ 50 ∷ 10
    ∷ 109 ∷ 97 ∷ 112 ∷ 112 ∷ 105 ∷ 110 ∷ 103 ∷ 32 ∷ 48 ∷ 32 ∷ 52 ∷ 32 ∷ 49 ∷ 32 ∷ 50 ∷ 32 ∷ 51 ∷ 32 ∷ 53 ∷ 10 ∷ []
unfolding head_text head_lines opening_lines sound_lines stream_lines entry_texts head_read fields_fit decimal integer places
surround_text = refl

-- "refused -22" for no byte at all, and for the stereo header with a byte more
abbrev refused22 : List ℕ
refused22 = 114 ∷ 101 ∷ 102 ∷ 117 ∷ 115 ∷ 101 ∷ 100 ∷ 32 ∷ 45 ∷ 50 ∷ 50 ∷ 10 ∷ []

pub short-and_long_texts : head_text [] ∷ head_text (stereo ++ (0x00 ∷ [])) ∷ [] ≡ refused22 ∷ refused22 ∷ []
unfolding head_text head_read refusal refused_label decimal integer places
short-and_long_texts = refl

-- and for the longest header of version 1, of 276 bytes, with a byte more
pub longest-and_more_text : head_text (letters ++ (0x01 ∷ 0xff ∷ 0x38 ∷ 0x01 ∷ 0x80 ∷ 0xbb ∷ 0x00 ∷ 0x00 ∷ 0x00 ∷ 0xff
    ∷ 0xff ∷ 0x01 ∷ 0x00 ∷ replicate 256 0xff)) ≡ refused22
unfolding head_text head_read refusal refused_label decimal integer places
longest-and_more_text = refl

-- "refused -23" for version 16
pub version_text : head_text (letters ++ (0x10 ∷ 0x02 ∷ 0x38 ∷ 0x01 ∷ 0x80 ∷ 0xbb ∷ 0x00 ∷ 0x00 ∷ 0x00 ∷ 0xff ∷ 0x00 ∷ []))
    ≡ 114 ∷ 101 ∷ 102 ∷ 117 ∷ 115 ∷ 101 ∷ 100 ∷ 32 ∷ 45 ∷ 50 ∷ 51 ∷ 10 ∷ []
unfolding head_text head_read refusal refused_label decimal integer places
version_text = refl

-- "refused -24" for three channels of family 0
pub field_text : head_text (letters ++ (0x01 ∷ 0x03 ∷ 0x38 ∷ 0x01 ∷ 0x80 ∷ 0xbb ∷ 0x00 ∷ 0x00 ∷ 0x00 ∷ 0xff ∷ 0x00 ∷ []))
    ≡ 114 ∷ 101 ∷ 102 ∷ 117 ∷ 115 ∷ 101 ∷ 100 ∷ 32 ∷ 45 ∷ 50 ∷ 52 ∷ 10 ∷ []
unfolding head_text head_read fields_fit refusal refused_label decimal integer places
field_text = refl
