-- Packets in their shorter spelling, by computation (document 02, M-103).
-- Assumes nothing.
use Prim.Native.Nat.{ℕ, ◌+◌}
use mathlib.Core.Path.{◌≡◌, refl}
use mathlib.Core.List.{List, [], ◌∷◌, ◌++◌, map}
use lib.ListN.{length, replicate}
use Rattle.opus_size.specs.Size.{length_field}
use Rattle.opus_toc.specs.Toc.{duration}
use Rattle.opus_format.specs.Reading.{read}
use Rattle.opus_header.specs.Header.{header}
use Rattle.opus_header.specs.Compact.{compact}
use Rattle.packet_pad.specs.Unpad.{unpad_packet}
use Rattle.spelling.specs.Spelling.{spelling, compact_of, shorter, work_after}
use Rattle.spelling.specs.declared.Spelling.TheVariants.{Original, Compact}

-- two frames as code 3, with room for the three bytes of their compact packet, and with a byte less
abbrev two : List ℕ
two = 0x03 ∷ 0x02 ∷ 0xaa ∷ 0xbb ∷ []

pub by_room : (map (shorter two) (3 ∷ 2 ∷ []) ≡ (0x01 ∷ 0xaa ∷ 0xbb ∷ []) ∷ two ∷ [])
    × (map (spelling two) (3 ∷ 2 ∷ []) ≡ Compact 3 ∷ Original ∷ [])
unfolding shorter spelling compact_of unpad_packet read duration compact header length_field
by_room = (refl, refl)

-- what is left of four bytes of 238, and of two
abbrev left : ℕ → List ℕ
left room = work_after (compact_of two) (replicate room 238) (spelling two room)

pub work_buffers : map left (4 ∷ 2 ∷ []) ≡ (0x01 ∷ 0xaa ∷ 0xbb ∷ 238 ∷ []) ∷ (238 ∷ 238 ∷ []) ∷ []
unfolding spelling compact_of unpad_packet read duration compact header length_field
work_buffers = refl

-- two equal frames as code 2; one frame with a padding byte, which is not zero; three equal frames with a length each
pub shortened : map (λ (p : List ℕ). shorter p 9)
    ((0x02 ∷ 0x01 ∷ 0xaa ∷ 0xbb ∷ []) ∷ (0x03 ∷ 0x41 ∷ 0x01 ∷ 0xaa ∷ 0x07 ∷ [])
    ∷ (0x03 ∷ 0x83 ∷ 0x01 ∷ 0x01 ∷ 0xaa ∷ 0xbb ∷ 0xcc ∷ []) ∷ [])
    ≡ (0x01 ∷ 0xaa ∷ 0xbb ∷ []) ∷ (0x00 ∷ 0xaa ∷ []) ∷ (0x03 ∷ 0x03 ∷ 0xaa ∷ 0xbb ∷ 0xcc ∷ []) ∷ []
unfolding shorter spelling compact_of unpad_packet read duration compact header length_field
shortened = refl

-- compact already: codes 0 to 3; unreadable: two frames in an odd rest, a count of 0, no byte
abbrev unchanged : List (List ℕ)
unchanged =
    (0x00 ∷ 0xaa ∷ []) ∷ (0x01 ∷ 0xaa ∷ 0xbb ∷ []) ∷ (0x02 ∷ 0x01 ∷ 0xaa ∷ []) ∷ (0x03 ∷ 0x03 ∷ 0xaa ∷ 0xbb ∷ 0xcc ∷ [])
    ∷ (0x01 ∷ 0xaa ∷ []) ∷ (0x03 ∷ 0x00 ∷ []) ∷ [] ∷ []

pub stay : (map (λ (p : List ℕ). shorter p 9) unchanged ≡ unchanged) × (map (λ (p : List ℕ). spelling p 9) unchanged ≡ replicate 7 Original)
unfolding shorter spelling compact_of unpad_packet read duration compact header length_field
stay = (refl, refl)

-- one frame behind 257 padding lengths: a packet of 65,535 bytes is read, one of 65,536 is not
abbrev padded : ℕ → List ℕ
padded last = 0x03 ∷ 0x41 ∷ (replicate 256 255 ++ (last ∷ 0xaa ∷ replicate (65024 + last) 0))

pub longest-read : (map (λ (n : ℕ). length (padded n)) (251 ∷ 252 ∷ []) ≡ 65535 ∷ 65536 ∷ [])
    × (map (λ (n : ℕ). spelling (padded n) 9) (251 ∷ 252 ∷ []) ≡ Compact 2 ∷ Original ∷ [])
unfolding spelling unpad_packet read duration compact header length_field
longest-read = (refl, refl)
