-- Shares of one file that comes in two chunks, computed: three records, a packet that can be shorter, one that cannot be read, one that is compact, with a byte
-- before the last and one behind it that are in no record. The first chunk ends within the second record.
-- Assumes nothing.
use Prim.Native.Nat.{ℕ}
use mathlib.Core.Path.{◌≡◌, refl}
use mathlib.Core.List.{List, [], ◌∷◌, ◌++◌}
use Rattle.opus_size.specs.Size.{length_field}
use Rattle.opus_toc.specs.Toc.{duration}
use Rattle.opus_format.specs.Reading.{read}
use Rattle.opus_header.specs.Header.{header}
use Rattle.opus_header.specs.Compact.{compact}
use Rattle.packet_pad.specs.Unpad.{unpad_packet}
use Rattle.capture.specs.Records.{written, file_of}
use Rattle.capture.specs.Finding.{packet_length, packet_at, before, record_from, next_record}
use Rattle.capture.specs.Reading.{record_bytes, readings_in}
use Rattle.capture_window.specs.Window.{settled_in, settled}
use Rattle.capture_window.specs.Parts.{parts_from, parts}
use Rattle.spelling.specs.Spelling.{spelling, compact_of, shorter}
use Rattle.compaction.specs.Account.{account}
use Rattle.compaction.specs.Share.{done, stop}
use Rattle.compaction.specs.declared.Share.{Share}
use Rattle.compact.specs.Stream.{share_of, written_of, shared_by, written_for}

abbrev first : List ℕ
first = 0x4b ∷ 0x9d ∷ 0x01 ∷ 0x00 ∷ 0x04 ∷ 0x03 ∷ 0x02 ∷ 0xaa ∷ 0xbb ∷ []

abbrev second : List ℕ
second = 0x4b ∷ 0x9d ∷ 0x02 ∷ 0x00 ∷ 0x02 ∷ 0x03 ∷ 0x00 ∷ []

abbrev third : List ℕ
third = 0x4b ∷ 0x9d ∷ 0x03 ∷ 0x00 ∷ 0x02 ∷ 0x00 ∷ 0xaa ∷ []

abbrev chunks : List (List ℕ)
chunks = (first ++ (0x4b ∷ 0x9d ∷ 0x02 ∷ [])) ∷ ((0x00 ∷ 0x02 ∷ 0x03 ∷ 0x00 ∷ 0x4b ∷ []) ++ (third ++ (0x00 ∷ []))) ∷ []

in_parts : parts chunks ≡ first ∷ (second ++ (0x4b ∷ (third ++ (0x00 ∷ [])))) ∷ []
unfolding parts_from settled settled_in packet_length
in_parts = refl

-- resume place, records, written, reclaimed, passed over
abbrev did : ℕ → ℕ → ℕ → ℕ → ℕ → Share
did r n w c p = record { resume = r; records = n; written = w; reclaimed = c; passed = p }

-- the whole of it, with more than it takes and with just enough; a budget that ends at the seam, one that ends within a part, behind a byte that is passed
-- over, and one that holds no record
shares : shared_by 99 (parts chunks) ∷ shared_by 22 (parts chunks) ∷ shared_by 8 (parts chunks) ∷ shared_by 21 (parts chunks)
    ∷ shared_by 7 (parts chunks) ∷ []
    ≡ did 25 3 22 1 2 ∷ did 25 3 22 1 2 ∷ did 9 1 8 1 0 ∷ did 17 2 15 1 1 ∷ did 0 0 0 0 0 ∷ []
unfolding shared_by share_of parts_from settled settled_in done stop account packet_length packet_at before record_from next_record record_bytes
    readings_in spelling
    compact_of shorter unpad_packet read duration header compact length_field
shares = refl

-- the shorter packet, the unreadable one as it was, the compact one
bytes : written_for 99 (parts chunks) ∷ written_for 8 (parts chunks) ∷ written_for 7 (parts chunks) ∷ []
    ≡ ((0x4b ∷ 0x9d ∷ 0x01 ∷ 0x00 ∷ 0x03 ∷ 0x01 ∷ 0xaa ∷ 0xbb ∷ []) ++ (second ++ third))
    ∷ (0x4b ∷ 0x9d ∷ 0x01 ∷ 0x00 ∷ 0x03 ∷ 0x01 ∷ 0xaa ∷ 0xbb ∷ []) ∷ [] ∷ []
unfolding written_for written_of share_of parts_from settled settled_in done stop account written file_of packet_length packet_at before record_from next_record
    record_bytes readings_in spelling compact_of shorter unpad_packet read duration header compact length_field
bytes = refl
