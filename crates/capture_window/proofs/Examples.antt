-- What is settled of a few bytes, and their parts, computed. A record, and a byte before it or the front of another behind it.
-- Assumes nothing.
use mathlib.Core.Path.{◌≡◌, refl}
use mathlib.Core.List.{List, [], ◌∷◌, ◌++◌}
use Prim.Native.Nat.{ℕ}
use Rattle.std.specs.Prelude.{Ok}
use Rattle.capture.specs.Finding.{packet_length, packet_at, before, record_from, next_record}
use Rattle.capture.specs.Reading.{record_bytes, readings_in, records_in, records_of, passed_in, passed_of}
use Rattle.capture_window.specs.Window.{settled_in, settled}
use Rattle.capture_window.specs.Parts.{parts_from, parts, records_of_all, passed_of_all, answers_on, answers_from, streamed}

abbrev whole : List ℕ
whole = 0x4B ∷ 0x9D ∷ 65 ∷ 0 ∷ 2 ∷ 8 ∷ 9 ∷ []

-- a record whose last byte is not held yet; that byte is the first of a mark
abbrev cut : List ℕ
cut = 0x4B ∷ 0x9D ∷ 66 ∷ 0 ∷ 3 ∷ 7 ∷ 7 ∷ []

-- the whole record is settled, and the one behind it is not; nor is a byte that is none's before it, though the record is whole
amounts : settled [] ∷ settled whole ∷ settled (whole ++ cut) ∷ settled (7 ∷ whole) ∷ []
    ≡ 0 ∷ 7 ∷ 7 ∷ 0 ∷ []
unfolding settled settled_in packet_length
amounts = refl

-- a file in three chunks, the second of which ends within a record
abbrev chunks : List (List ℕ)
chunks = (0x4B ∷ 0x9D ∷ []) ∷ ((65 ∷ 0 ∷ 2 ∷ 8 ∷ 9 ∷ []) ++ cut) ∷ (0x4B ∷ 5 ∷ []) ∷ []

in_parts : parts chunks ≡ [] ∷ whole ∷ (cut ++ (0x4B ∷ 5 ∷ [])) ∷ []
unfolding parts_from settled settled_in packet_length
in_parts = refl

answers : streamed chunks
    ≡ record { verdict = Ok tt; line = 65; place = 0; length = 2; passed = 0 }
    ∷ record { verdict = Ok tt; line = 66; place = 7; length = 3; passed = 0 }
    ∷ record { verdict = Ok tt; line = 0; place = 16; length = 0; passed = 1 }
    ∷ []
unfolding parts_from settled settled_in answers_on answers_from readings_in next_record record_from before packet_length record_bytes
answers = refl

records : records_of_all (parts chunks)
    ≡ record { line = 65; packet = 8 ∷ 9 ∷ [] } ∷ record { line = 66; packet = 7 ∷ 7 ∷ 0x4B ∷ [] } ∷ []
unfolding parts_from settled settled_in records_of_all records_of records_in readings_in next_record record_from before packet_length packet_at record_bytes
records = refl

passed : passed_of_all (parts chunks) ≡ 1
unfolding parts_from settled settled_in passed_of_all passed_of passed_in readings_in next_record record_from before packet_length record_bytes
passed = refl
