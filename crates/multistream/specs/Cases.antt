-- Document 01, 'Cases at the edges': those on pad, unpad and streams; the order of refusals; and all cases together.
use Rattle.std.specs.Prelude.{ℕ, List, [], ◌∷◌, ◌++◌, ℤ, pos, negsuc, replicate}
use Rattle.opus_defines.specs.Numbers.{plain}
use Rattle.opus_defines.specs.Outcome.{Outcome}
use Rattle.opus_size.specs.Answers.{encode_size}
use Rattle.opus.specs.Cases.{Shown, outcome, Case, shows, reading_cases, place_cases}
use Rattle.packet_pad.specs.Pad.{padded}
use Rattle.packet_pad.specs.Unpad.{unpadded}
use Rattle.multistream.specs.Pad.{streams_padded}
use Rattle.multistream.specs.Unpad.{streams_unpadded}

-- a number without rule and place, and the bytes of the buffer
abbrev pub leaves : ℤ → List ℕ → Shown
leaves n s = outcome (record { report = plain n; bytes = s })

-- -4 with the rule that is broken and its place
abbrev pub breaks : ℕ → ℕ → List ℕ → Shown
breaks rule place s = outcome (record { report = record { number = negsuc 3; rule = rule; place = place }; bytes = s })

-- the packet 00 AA in a buffer with so many zeros behind it
abbrev pub short : ℕ → List ℕ
short n = 0x00 ∷ 0xaa ∷ replicate n 0

abbrev pub pad_cases : List Case
pad_cases =
    shows (outcome (padded (short 1) (pos 2) (pos 3))) (leaves (pos 0) (0x03 ∷ 0x01 ∷ 0xaa ∷ []))
    ∷ shows (outcome (padded (short 2) (pos 2) (pos 4))) (leaves (pos 0) (0x03 ∷ 0x41 ∷ 0x00 ∷ 0xaa ∷ []))
    ∷ shows (outcome (padded (short 3) (pos 2) (pos 5))) (leaves (pos 0) (0x03 ∷ 0x41 ∷ 0x01 ∷ 0xaa ∷ 0x00 ∷ []))
    ∷ shows (outcome (padded (short 256) (pos 2) (pos 258))) (leaves (pos 0) (0x03 ∷ 0x41 ∷ 254 ∷ 0xaa ∷ replicate 254 0))
    ∷ shows (outcome (padded (short 257) (pos 2) (pos 259))) (leaves (pos 0) (0x03 ∷ 0x41 ∷ 255 ∷ 0 ∷ 0xaa ∷ replicate 254 0))
    ∷ shows (outcome (unpadded (0x03 ∷ 0x02 ∷ 0xaa ∷ 0xbb ∷ []) (pos 4))) (leaves (pos 3) (0x01 ∷ 0xaa ∷ 0xbb ∷ 0xbb ∷ []))
    ∷ shows (outcome (streams_padded (0x00 ∷ 0x01 ∷ 0xaa ∷ 0 ∷ []) (pos 3) (pos 4) (pos 2))) (leaves (negsuc 0) (0x00 ∷ 0x01 ∷ 0xaa ∷ 0 ∷ []))
    ∷ shows (outcome (streams_unpadded (0x00 ∷ 0x01 ∷ 0xaa ∷ []) (pos 3) (pos 2))) (breaks 1 3 (0x00 ∷ 0x01 ∷ 0xaa ∷ []))
    ∷ []

-- document 02, M-109: rebuilt to between 1 byte and the bytes taken
abbrev pub rebuilt_cases : List Case
rebuilt_cases =
    shows (outcome (unpadded (0x00 ∷ []) (pos 1))) (leaves (pos 1) (0x00 ∷ []))
    ∷ shows (outcome (unpadded (0x03 ∷ 0xc1 ∷ 0x00 ∷ []) (pos 3))) (leaves (pos 1) (0x00 ∷ 0xc1 ∷ 0x00 ∷ []))
    ∷ shows (outcome (unpadded (0x83 ∷ 0x30 ∷ []) (pos 2))) (leaves (pos 2) (0x83 ∷ 0x30 ∷ []))
    ∷ shows (outcome (unpadded (0x03 ∷ 0x82 ∷ 0x01 ∷ 0xaa ∷ 0xbb ∷ []) (pos 5))) (leaves (pos 3) (0x01 ∷ 0xaa ∷ 0xbb ∷ 0xaa ∷ 0xbb ∷ []))
    ∷ shows (outcome (streams_unpadded (0x03 ∷ 0x01 ∷ 0x01 ∷ 0xaa ∷ 0x00 ∷ []) (pos 5) (pos 2)))
    (leaves (pos 4) (0x00 ∷ 0x01 ∷ 0xaa ∷ 0x00 ∷ 0x00 ∷ []))
    ∷ shows (outcome (streams_unpadded (0x00 ∷ 0x00 ∷ 0x00 ∷ []) (pos 3) (pos 2))) (leaves (pos 3) (0x00 ∷ 0x00 ∷ 0x00 ∷ []))
    ∷ []

-- document 02, M-112: by stages as straight on, for packets with the same frames alike; unpadded again
abbrev pub two_frames : List ℕ
two_frames = 0x03 ∷ 0x02 ∷ 0xaa ∷ 0xbb ∷ replicate 4 0

abbrev pub two_streams : List ℕ
two_streams = 0x00 ∷ 0x01 ∷ 0xaa ∷ 0x00 ∷ 0xbb ∷ replicate 4 0

abbrev pub one_padded : List ℕ
one_padded = 0x03 ∷ 0x41 ∷ 0x01 ∷ 0xaa ∷ 0x00 ∷ []

abbrev pub stage_cases : List Case
stage_cases =
    shows (outcome (padded (padded two_frames (pos 4) (pos 6)).bytes (pos 6) (pos 8)))
    (leaves (pos 0) (0x03 ∷ 0x42 ∷ 0x03 ∷ 0xaa ∷ 0xbb ∷ replicate 3 0))
    ∷ shows (outcome (padded two_frames (pos 4) (pos 8))) (leaves (pos 0) (0x03 ∷ 0x42 ∷ 0x03 ∷ 0xaa ∷ 0xbb ∷ replicate 3 0))
    ∷ shows (outcome (padded (0x01 ∷ 0xaa ∷ 0xbb ∷ replicate 5 0) (pos 3) (pos 8)))
    (leaves (pos 0) (0x03 ∷ 0x42 ∷ 0x03 ∷ 0xaa ∷ 0xbb ∷ replicate 3 0))
    ∷ shows (outcome (streams_padded (streams_padded two_streams (pos 5) (pos 7) (pos 2)).bytes (pos 7) (pos 9) (pos 2)))
    (leaves (pos 0) (0x00 ∷ 0x01 ∷ 0xaa ∷ 0x03 ∷ 0x41 ∷ 0x02 ∷ 0xbb ∷ replicate 2 0))
    ∷ shows (outcome (streams_padded two_streams (pos 5) (pos 9) (pos 2)))
    (leaves (pos 0) (0x00 ∷ 0x01 ∷ 0xaa ∷ 0x03 ∷ 0x41 ∷ 0x02 ∷ 0xbb ∷ replicate 2 0))
    ∷ shows (outcome (unpadded one_padded (pos 5))) (leaves (pos 2) (0x00 ∷ 0xaa ∷ 0x01 ∷ 0xaa ∷ 0x00 ∷ []))
    ∷ shows (outcome (unpadded (unpadded one_padded (pos 5)).bytes (pos 2))) (leaves (pos 2) (0x00 ∷ 0xaa ∷ 0x01 ∷ 0xaa ∷ 0x00 ∷ []))
    ∷ []

-- document 02, M-100: the place is counted from the buffer's front; where no byte is left for a stream, it is the packet's end
abbrev pub stream_places : List Case
stream_places =
    shows (outcome (streams_unpadded (0x00 ∷ 0x01 ∷ 0xaa ∷ 0x03 ∷ []) (pos 4) (pos 2))) (breaks 5 4 (0x00 ∷ 0x01 ∷ 0xaa ∷ 0x03 ∷ []))
    ∷ shows (outcome (streams_padded (0x00 ∷ 0x01 ∷ 0xaa ∷ 0x03 ∷ 0x00 ∷ []) (pos 4) (pos 5) (pos 2)))
    (breaks 5 4 (0x00 ∷ 0x01 ∷ 0xaa ∷ 0x03 ∷ 0x00 ∷ []))
    ∷ shows (outcome (streams_padded (0x00 ∷ 0x01 ∷ 0xaa ∷ 0x00 ∷ 0x02 ∷ 0xbb ∷ 0x00 ∷ []) (pos 6) (pos 7) (pos 3)))
    (breaks 8 4 (0x00 ∷ 0x01 ∷ 0xaa ∷ 0x00 ∷ 0x02 ∷ 0xbb ∷ 0x00 ∷ []))
    ∷ shows (outcome (unpadded (0x03 ∷ 0x83 ∷ 0x01 ∷ 0x01 ∷ 0xaa ∷ []) (pos 5))) (breaks 7 4 (0x03 ∷ 0x83 ∷ 0x01 ∷ 0x01 ∷ 0xaa ∷ []))
    ∷ shows (outcome (padded (0x03 ∷ 0x82 ∷ 0x01 ∷ 0x00 ∷ []) (pos 3) (pos 4))) (breaks 7 2 (0x03 ∷ 0x82 ∷ 0x01 ∷ 0x00 ∷ []))
    ∷ []

-- document 01's order of refusals: more than one fault at once, and the first one in the order gives the number. The packet 03 00 cannot be read.
-- What a refusal, or 0 without reading, leaves is the buffer as it was.
abbrev pub unreadable : List ℕ
unreadable = 0x03 ∷ 0x00 ∷ []

abbrev pub keeps : Outcome → ℤ → List ℕ → Case
keeps o n s = shows (outcome o) (leaves n s)

-- the packet 03 00 is refused by rule 5, at byte 1
abbrev pub refuses_it : Outcome → List ℕ → Case
refuses_it o s = shows (outcome o) (breaks 5 1 s)

abbrev pub length_order : List Case
length_order =
    -- too large, and no room; then no room
    keeps (encode_size (pos 1276) []) (negsuc 0) []
    ∷ keeps (encode_size (pos 252) (238 ∷ [])) (negsuc 1) (238 ∷ [])
    ∷ []

abbrev pub pad_order : List Case
pad_order =
    -- above the buffer, and equal; below 1, and equal; equal, and unreadable; above the new length, and unreadable; then unreadable
    keeps (padded unreadable (pos 3) (pos 3)) (negsuc 0) unreadable
    ∷ keeps (padded unreadable (pos 0) (pos 0)) (negsuc 0) unreadable
    ∷ keeps (padded unreadable (negsuc 0) (negsuc 0)) (negsuc 0) unreadable
    ∷ keeps (padded unreadable (pos 2) (pos 2)) (pos 0) unreadable
    ∷ keeps (padded unreadable (pos 2) (pos 1)) (negsuc 0) unreadable
    ∷ refuses_it (padded (0x03 ∷ 0x00 ∷ 0x00 ∷ []) (pos 2) (pos 3)) (0x03 ∷ 0x00 ∷ 0x00 ∷ [])
    ∷ []

abbrev pub unpad_order : List Case
unpad_order =
    -- above the buffer, and unreadable; below 1, and unreadable; then unreadable
    keeps (unpadded unreadable (pos 3)) (negsuc 0) unreadable
    ∷ keeps (unpadded unreadable (pos 0)) (negsuc 0) unreadable
    ∷ refuses_it (unpadded unreadable (pos 2)) unreadable
    ∷ []

abbrev pub streams_order : List Case
streams_order =
    -- above the buffer, with no stream; no stream, and below 1; no stream, a negative number or 256, and equal; equal, and unreadable, with 255
    keeps (streams_padded unreadable (pos 3) (pos 3) (pos 0)) (negsuc 0) unreadable
    ∷ keeps (streams_padded unreadable (pos 0) (pos 0) (pos 0)) (negsuc 0) unreadable
    ∷ keeps (streams_padded unreadable (pos 2) (pos 2) (pos 0)) (negsuc 0) unreadable
    ∷ keeps (streams_padded unreadable (pos 2) (pos 2) (negsuc 0)) (negsuc 0) unreadable
    ∷ keeps (streams_padded unreadable (pos 2) (pos 2) (pos 256)) (negsuc 0) unreadable
    ∷ keeps (streams_padded unreadable (pos 2) (pos 2) (pos 255)) (pos 0) unreadable
    -- below 1, and equal; above the new length, and unreadable; then unreadable, with 255; 256, and unreadable
    ∷ keeps (streams_padded unreadable (pos 0) (pos 0) (pos 255)) (negsuc 0) unreadable
    ∷ keeps (streams_padded unreadable (pos 2) (pos 1) (pos 255)) (negsuc 0) unreadable
    ∷ refuses_it (streams_padded (0x03 ∷ 0x00 ∷ 0x00 ∷ []) (pos 2) (pos 3) (pos 255)) (0x03 ∷ 0x00 ∷ 0x00 ∷ [])
    ∷ keeps (streams_padded (0x03 ∷ 0x00 ∷ 0x00 ∷ []) (pos 2) (pos 3) (pos 256)) (negsuc 0) (0x03 ∷ 0x00 ∷ 0x00 ∷ [])
    -- unpad: above the buffer, no stream, a negative number, 256, or below 1, and unreadable; then unreadable, with 255
    ∷ keeps (streams_unpadded unreadable (pos 3) (pos 1)) (negsuc 0) unreadable
    ∷ keeps (streams_unpadded unreadable (pos 2) (pos 0)) (negsuc 0) unreadable
    ∷ keeps (streams_unpadded unreadable (pos 2) (negsuc 0)) (negsuc 0) unreadable
    ∷ keeps (streams_unpadded unreadable (pos 2) (pos 256)) (negsuc 0) unreadable
    ∷ keeps (streams_unpadded unreadable (pos 0) (pos 1)) (negsuc 0) unreadable
    ∷ refuses_it (streams_unpadded unreadable (pos 2) (pos 255)) unreadable
    ∷ []

abbrev pub all_cases : List Case
all_cases =
    reading_cases ++
    (place_cases ++ (stream_places ++ (pad_cases ++ (rebuilt_cases ++ (stage_cases ++ (length_order ++ (pad_order ++ (unpad_order ++ streams_order))))))))
