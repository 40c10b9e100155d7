-- Packets judged by computation (document 02, M-110).
-- Assumes nothing.
use mathlib.Core.Path.{◌≡◌, refl}
use mathlib.Core.Bool.{true, false}
use mathlib.Core.List.{[], ◌∷◌, map}
use lib.ListN.{replicate}
use Rattle.opus_defines.specs.declared.Rule.TheVariants.{R1, R2, R3, R4, R5, R6, R7, R8}
use Rattle.opus_defines.specs.declared.Refusal.TheVariants.{BadArg}
use Rattle.opus_size.specs.Size.{length_field}
use Rattle.opus_toc.specs.Toc.{duration}
use Rattle.opus_format.specs.Reading.{read}
use Rattle.opus_header.specs.Header.{header}
use Rattle.opus_header.specs.Compact.{compact}
use Rattle.packet_judge.specs.Judging.{least_bytes, judge_read, judged}
use Rattle.packet_judge.specs.declared.Judged.TheVariants.{Refused, Unreadable, Dirty, Longer, Clean}

-- one frame with a padding byte, 7 and 0: dirt is said before length; padding lengths alone; one frame as code 3; two equal frames as code 2; three equal
-- frames with a length each; two frames as code 3
pub padded_ones : map (judged false)
    ((0x03 ∷ 0x41 ∷ 0x01 ∷ 0xaa ∷ 0x07 ∷ []) ∷ (0x03 ∷ 0x41 ∷ 0x01 ∷ 0xaa ∷ 0x00 ∷ []) ∷ (0x03 ∷ 0x41 ∷ 0x00 ∷ 0xaa ∷ [])
    ∷ (0x03 ∷ 0x01 ∷ 0xaa ∷ []) ∷ (0x02 ∷ 0x01 ∷ 0xaa ∷ 0xbb ∷ []) ∷ (0x03 ∷ 0x83 ∷ 0x01 ∷ 0x01 ∷ 0xaa ∷ 0xbb ∷ 0xcc ∷ [])
    ∷ (0x03 ∷ 0x82 ∷ 0x01 ∷ 0xaa ∷ 0xbb ∷ 0xcc ∷ []) ∷ [])
    ≡ Dirty ∷ Longer 2 ∷ Longer 2 ∷ Longer 2 ∷ Longer 3 ∷ Longer 5 ∷ Longer 5 ∷ []
unfolding judged judge_read least_bytes read duration compact header length_field
padded_ones = refl

-- codes 0 to 3 where each is the shortest; a TOC byte alone
pub clean_ones : map (judged false)
    ((0x00 ∷ 0xaa ∷ []) ∷ (0x01 ∷ 0xaa ∷ 0xbb ∷ []) ∷ (0x02 ∷ 0x01 ∷ 0xaa ∷ []) ∷ (0x03 ∷ 0x03 ∷ 0xaa ∷ 0xbb ∷ 0xcc ∷ [])
    ∷ (0x03 ∷ 0x83 ∷ 0x01 ∷ 0x00 ∷ 0xaa ∷ []) ∷ (0x00 ∷ []) ∷ [])
    ≡ replicate 6 Clean
unfolding judged judge_read least_bytes read duration compact header length_field
clean_ones = refl

-- each rule of the ordinary form
pub unreadable_ones : map (judged false)
    ([] ∷ (0x00 ∷ replicate 1276 0) ∷ (0x01 ∷ 0xaa ∷ []) ∷ (0x02 ∷ 0x02 ∷ 0xaa ∷ []) ∷ (0x03 ∷ 0x00 ∷ [])
    ∷ (0x03 ∷ 0x42 ∷ 0x01 ∷ 0xaa ∷ 0x00 ∷ [])
    ∷ (0x03 ∷ 0x83 ∷ 0x01 ∷ 0x01 ∷ 0xaa ∷ []) ∷ [])
    ≡ Unreadable R1 0 ∷ Unreadable R2 1 ∷ Unreadable R3 0 ∷ Unreadable R4 1 ∷ Unreadable R5 1 ∷ Unreadable R6 3 ∷ Unreadable R7 4 ∷ []
unfolding judged judge_read read duration
unreadable_ones = refl

-- self-delimited: what stands behind is no part of the packet, which is compared without it; a last length past the end; dirt, a padding byte, padding lengths
pub selves : map (judged true)
    ((0x00 ∷ 0x01 ∷ 0xaa ∷ 0x55 ∷ 0x66 ∷ []) ∷ (0x00 ∷ 0x02 ∷ 0xaa ∷ [])
    ∷ (0x03 ∷ 0x41 ∷ 0x01 ∷ 0x01 ∷ 0xaa ∷ 0x07 ∷ 0x00 ∷ [])
    ∷ (0x03 ∷ 0x41 ∷ 0x01 ∷ 0x01 ∷ 0xaa ∷ 0x00 ∷ 0x55 ∷ []) ∷ (0x03 ∷ 0x41 ∷ 0x00 ∷ 0x01 ∷ 0xaa ∷ [])
    ∷ (0x01 ∷ 0x00 ∷ 0x55 ∷ []) ∷ [])
    ≡ Clean ∷ Unreadable R8 1 ∷ Dirty ∷ Longer 3 ∷ Longer 3 ∷ Clean ∷ []
unfolding judged judge_read least_bytes read duration compact header length_field
selves = refl

-- 65,535 zeros are looked at, 65,536 are not
pub longest_looked_at : map (judged false) (replicate 65535 0 ∷ replicate 65536 0 ∷ []) ≡ Unreadable R2 1 ∷ Refused BadArg ∷ []
unfolding judged judge_read read
longest_looked_at = refl
