-- Packets joined, and streams taken out, by computation (document 02, M-108).
-- Assumes nothing.
use Prim.Native.Nat.{ℕ}
use mathlib.Core.Path.{◌≡◌, refl}
use mathlib.Core.List.{List, [], ◌∷◌}
use lib.IntN.{pos, negsuc}
use lib.ListN.{replicate}
use Rattle.opus_defines.specs.Numbers.{plain}
use Rattle.opus_defines.specs.Rules.{rule_refusal}
use Rattle.opus_defines.specs.Outcome.{refusal, wrote}
use Rattle.opus_defines.specs.declared.Refusal.TheVariants.{BadArg, BufferTooSmall, InvalidPacket, Unreadable}
use Rattle.opus_defines.specs.declared.Rule.TheVariants.{R1, R5}
use Rattle.opus_size.specs.Size.{length_field}
use Rattle.opus_toc.specs.Toc.{duration, samples}
use Rattle.opus_format.specs.Reading.{read}
use Rattle.opus_header.specs.Header.{header}
use Rattle.opus_header.specs.Compact.{compact}
use Rattle.stream_join.specs.Join.{join, packets_joined, take, stream_taken}

abbrev empties : ℕ → List ℕ
empties n = replicate n 0

-- two packets of one frame; two frames of 10 ms beside one of 20 ms
pub joined : (join (0x00 ∷ 0xaa ∷ 0x00 ∷ 0xbb ∷ 0xcc ∷ []) (2 ∷ 3 ∷ []) 6 ≡ wrote 6 (0x00 ∷ 0x01 ∷ 0xaa ∷ 0x00 ∷ 0xbb ∷ 0xcc ∷ []))
    × (join (0x01 ∷ 0xaa ∷ 0xbb ∷ 0x08 ∷ 0xcc ∷ []) (3 ∷ 2 ∷ []) 6 ≡ wrote 6 (0x01 ∷ 0x01 ∷ 0xaa ∷ 0xbb ∷ 0x08 ∷ 0xcc ∷ []))
unfolding join read duration samples compact header length_field
joined = (refl, refl)

-- 10 ms beside 20 ms, in the second place and in the third; the second and the third cannot be read, and the second is named; a packet of no byte
pub refused : (join (0x00 ∷ 0xaa ∷ 0x08 ∷ 0xbb ∷ []) (2 ∷ 2 ∷ []) 9 ≡ refusal InvalidPacket)
    × (join (0x00 ∷ 0xaa ∷ 0x00 ∷ 0x08 ∷ 0xbb ∷ []) (2 ∷ 1 ∷ 2 ∷ []) 9 ≡ refusal InvalidPacket)
    × (join (0x00 ∷ 0xaa ∷ 0x03 ∷ 0x00 ∷ 0x01 ∷ 0xaa ∷ []) (2 ∷ 2 ∷ 2 ∷ []) 9 ≡ refusal (Unreadable R5 3))
    × (join (0x00 ∷ 0xaa ∷ []) (2 ∷ 0 ∷ []) 9 ≡ refusal (Unreadable R1 2)) × (join [] (0 ∷ []) 9 ≡ refusal (Unreadable R1 0))
unfolding join rule_refusal read duration samples compact header length_field
refused = (refl, refl, refl, refl, refl)

-- no packet; lengths that sum to less than the buffer, or to more; a destination and a buffer of 65,536 bytes; a byte too little room
pub outside : (join [] [] 9 ≡ refusal BadArg) × (join (0x00 ∷ 0xaa ∷ 0x00 ∷ []) (2 ∷ []) 9 ≡ refusal BadArg)
    × (join (0x00 ∷ 0xaa ∷ []) (2 ∷ 1 ∷ []) 9 ≡ refusal BadArg)
    × (join (0x00 ∷ 0xaa ∷ []) (2 ∷ []) 65536 ≡ refusal BadArg) × (join (empties 65536) (65536 ∷ []) 9 ≡ refusal BadArg)
    × (join (0x00 ∷ 0xaa ∷ 0x00 ∷ 0xbb ∷ []) (2 ∷ 2 ∷ []) 4 ≡ refusal BufferTooSmall)
unfolding join read duration samples compact header length_field
outside = (refl, refl, refl, refl, refl, refl)

-- the calls: just the room, a byte more, which stays, and a byte less
pub called : (packets_joined (0x00 ∷ 0xaa ∷ 0x00 ∷ []) (2 ∷ 1 ∷ []) (7 ∷ 7 ∷ 7 ∷ 7 ∷ [])
    ≡ record { report = plain (pos 4); bytes = 0x00 ∷ 0x01 ∷ 0xaa ∷ 0x00 ∷ [] })
    × (packets_joined (0x00 ∷ 0xaa ∷ []) (2 ∷ []) (7 ∷ 7 ∷ 7 ∷ []) ≡ record { report = plain (pos 2); bytes = 0x00 ∷ 0xaa ∷ 7 ∷ [] })
    × (packets_joined (0x00 ∷ 0xaa ∷ []) (2 ∷ []) (7 ∷ []) ≡ record { report = plain (negsuc 1); bytes = 7 ∷ [] })
    × (stream_taken (0x00 ∷ 0x01 ∷ 0xaa ∷ 0x00 ∷ []) (pos 2) (pos 0) (7 ∷ 7 ∷ [])
    ≡ record { report = plain (pos 2); bytes = 0x00 ∷ 0xaa ∷ [] })
    × (stream_taken (0x00 ∷ 0x01 ∷ 0xaa ∷ 0x00 ∷ []) (pos 2) (pos 1) (7 ∷ 7 ∷ []) ≡ record { report = plain (pos 1); bytes = 0x00 ∷ 7 ∷ [] })
    × (stream_taken (0x00 ∷ 0x01 ∷ 0xaa ∷ 0x00 ∷ []) (pos 2) (pos 0) (7 ∷ []) ≡ record { report = plain (negsuc 1); bytes = 7 ∷ [] })
unfolding packets_joined stream_taken join take read duration samples compact header length_field
called = (refl, refl, refl, refl, refl, refl)

-- an empty frame lasts as long as another
pub lasting-empty : join (0x00 ∷ 0x00 ∷ 0xaa ∷ []) (1 ∷ 2 ∷ []) 4 ≡ wrote 4 (0x00 ∷ 0x00 ∷ 0x00 ∷ 0xaa ∷ [])
unfolding join read duration samples compact header length_field
lasting-empty = refl

-- 255 packets of one empty frame take 509 bytes; 256 are too many
pub most : (join (empties 255) (replicate 255 1) 509 ≡ wrote 509 (empties 509)) × (join (empties 256) (replicate 256 1) 999 ≡ refusal BadArg)
unfolding join read duration samples compact header length_field
most = (refl, refl)

-- each of two streams, a third, and one before the first; a packet and a destination of 65,536 bytes; streams that do not last equally long
abbrev two : List ℕ
two = 0x00 ∷ 0x01 ∷ 0xaa ∷ 0x00 ∷ 0xbb ∷ 0xcc ∷ []

pub taken : (take two (pos 2) (pos 0) 2 ≡ wrote 2 (0x00 ∷ 0xaa ∷ [])) × (take two (pos 2) (pos 1) 3 ≡ wrote 3 (0x00 ∷ 0xbb ∷ 0xcc ∷ []))
    × (take two (pos 2) (pos 1) 2 ≡ refusal BufferTooSmall) × (take two (pos 2) (pos 2) 9 ≡ refusal BadArg)
    × (take two (pos 2) (negsuc 0) 9 ≡ refusal BadArg) × (take two (pos 256) (pos 0) 9 ≡ refusal BadArg)
    × (take (empties 65536) (pos 1) (pos 0) 9 ≡ refusal BadArg) × (take two (pos 2) (pos 0) 65536 ≡ refusal BadArg)
    × (take (0x00 ∷ 0x01 ∷ 0xaa ∷ 0x08 ∷ 0xbb ∷ []) (pos 2) (pos 0) 9 ≡ refusal InvalidPacket)
    × (take (0x00 ∷ 0x01 ∷ 0xaa ∷ []) (pos 2) (pos 0) 9 ≡ refusal (Unreadable R1 3))
unfolding take rule_refusal read duration samples compact header length_field
taken = (refl, refl, refl, refl, refl, refl, refl, refl, refl, refl)
