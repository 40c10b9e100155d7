-- The definitions on a small capture, computed: a byte, a record, a mark whose length runs past the end and within its reach a record, and a mark
-- with the length 0, which is no record.
-- Assumes nothing.
use mathlib.Core.Path.{◌≡◌, refl}
use mathlib.Core.List.{List, [], ◌∷◌}
use Prim.Native.Nat.{ℕ}
use lib.IntN.{pos, negsuc}
use Rattle.opus_defines.specs.declared.Refusal.TheVariants.{BadArg}
use Rattle.std.specs.Prelude.{Err, Ok}
use Rattle.capture.specs.Records.{Entry, written, file_of}
use Rattle.capture.specs.Finding.{packet_length, packet_at, before, record_from, next_record, record_number}
use Rattle.capture.specs.Reading.{record_bytes, readings_in, readings, pieces, answers_for}

abbrev sample : List ℕ
sample =
    7
    ∷ 0x4B ∷ 0x9D ∷ 65 ∷ 0 ∷ 2 ∷ 8 ∷ 9
    ∷ 0x4B ∷ 0x9D ∷ 66 ∷ 1 ∷ 0 ∷ 0x4B ∷ 0x9D ∷ 67 ∷ 0 ∷ 1 ∷ 5
    ∷ 0x4B ∷ 0x9D ∷ 68 ∷ 0 ∷ 0
    ∷ []

-- the whole capture: two records, and no other
whole : readings sample 0 ≡ record { verdict = Ok tt; line = 65; place = 1; length = 2; passed = 1 }
    ∷ record { verdict = Ok tt; line = 67; place = 13; length = 1; passed = 5 }
    ∷ record { verdict = Ok tt; line = 0; place = 24; length = 0; passed = 5 }
    ∷ []
unfolding readings_in next_record record_from before packet_length record_bytes
whole = refl

-- from a place within the first record its other bytes are passed over too
inside : next_record sample 2 ≡ record { verdict = Ok tt; line = 67; place = 13; length = 1; passed = 11 }
unfolding next_record record_from before packet_length
inside = refl

at_the_end : next_record sample 24 ≡ record { verdict = Ok tt; line = 0; place = 24; length = 0; passed = 0 }
unfolding next_record record_from before packet_length
at_the_end = refl

past_the_end : next_record sample 25 ≡ record { verdict = Err BadArg; line = 0; place = 0; length = 0; passed = 0 }
unfolding next_record
past_the_end = refl

-- the numbers: 0 for a record and for none, -1 past the end
numbers : record_number (next_record sample 0) ∷ record_number (next_record sample 24) ∷ record_number (next_record sample 25) ∷ []
    ≡ pos 0 ∷ pos 0 ∷ negsuc 0 ∷ []
unfolding next_record
numbers = refl

packet : packet_at sample 1 ≡ 8 ∷ 9 ∷ []
unfolding packet_at packet_length
packet = refl

-- no record: a mark whose length runs past the end, and one whose length is 0
cut_off : packet_at sample 8 ≡ []
unfolding packet_at packet_length
cut_off = refl

empty : packet_at sample 19 ≡ []
unfolding packet_at packet_length
empty = refl

-- nor where another byte stands than a mark's first, nor past the end
no_mark : packet_at sample 0 ≡ []
unfolding packet_at packet_length
no_mark = refl

behind-all : packet_at sample 25 ≡ []
unfolding packet_at packet_length
behind-all = refl

-- the first answer's bytes: the byte passed over, and the record's
first_bytes : pieces sample (next_record sample 0) ≡ 7 ∷ 0x4B ∷ 0x9D ∷ 65 ∷ 0 ∷ 2 ∷ 8 ∷ 9 ∷ []
unfolding pieces next_record record_from before packet_length record_bytes
first_bytes = refl

-- two records written one behind the other, and the answers for them
abbrev entries : List Entry
entries = record { line = 3; packet = 10 ∷ [] } ∷ record { line = 4; packet = 11 ∷ 12 ∷ [] } ∷ []

bytes : file_of entries ≡ 0x4B ∷ 0x9D ∷ 3 ∷ 0 ∷ 1 ∷ 10 ∷ 0x4B ∷ 0x9D ∷ 4 ∷ 0 ∷ 2 ∷ 11 ∷ 12 ∷ []
unfolding file_of written
bytes = refl

answers : answers_for 0 entries ≡ record { verdict = Ok tt; line = 3; place = 0; length = 1; passed = 0 }
    ∷ record { verdict = Ok tt; line = 4; place = 6; length = 2; passed = 0 }
    ∷ record { verdict = Ok tt; line = 0; place = 13; length = 0; passed = 0 }
    ∷ []
unfolding answers_for
answers = refl
