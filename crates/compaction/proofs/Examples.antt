-- Shares of one capture, by computation (document 02, M-103): three records, a packet that can be shorter, one that cannot be read, one that is compact,
-- with bytes between them and behind them that are in no record.
-- Assumes nothing.
use Prim.Native.Nat.{ℕ}
use mathlib.Core.Path.{◌≡◌, refl}
use mathlib.Core.List.{List, [], ◌∷◌}
use lib.ListN.{replicate}
use Rattle.opus_defines.specs.declared.Refusal.{Refusal}
use Rattle.opus_defines.specs.declared.Refusal.TheVariants.{BadArg, BufferTooSmall, OverBudget}
use Rattle.std.specs.Prelude.{Result, Ok, Err}
use Rattle.opus_size.specs.Size.{length_field}
use Rattle.opus_toc.specs.Toc.{duration}
use Rattle.opus_format.specs.Reading.{read}
use Rattle.opus_header.specs.Header.{header}
use Rattle.opus_header.specs.Compact.{compact}
use Rattle.packet_pad.specs.Unpad.{unpad_packet}
use Rattle.capture.specs.Records.{written, file_of}
use Rattle.capture.specs.Finding.{packet_length, packet_at, before, record_from, next_record}
use Rattle.capture.specs.Reading.{record_bytes, readings_in}
use Rattle.spelling.specs.Spelling.{spelling, compact_of, shorter}
use Rattle.compaction.specs.Account.{account}
use Rattle.compaction.specs.Share.{done, stop, night, share, leaves}
use Rattle.compaction.specs.declared.Share.{Share}

abbrev capture : List ℕ
capture =
    0x4b ∷ 0x9d ∷ 0x01 ∷ 0x00 ∷ 0x04 ∷ 0x03 ∷ 0x02 ∷ 0xaa ∷ 0xbb ∷ 0x4b ∷ 0x4b
    ∷ 0x4b ∷ 0x9d ∷ 0x02 ∷ 0x00 ∷ 0x02 ∷ 0x03 ∷ 0x00
    ∷ 0x4b ∷ 0x9d ∷ 0x03 ∷ 0x00 ∷ 0x02 ∷ 0x00 ∷ 0xaa ∷ 0x00 ∷ []

-- resume place, records, written, reclaimed, passed over
abbrev did : ℕ → ℕ → ℕ → ℕ → ℕ → Result Share Refusal
did r n w c p = Ok (record { resume = r; records = n; written = w; reclaimed = c; passed = p })

-- a call into so many bytes of 238
abbrev answer : ℕ → ℕ → ℕ → Result Share Refusal
answer start room budget = share capture (night capture start room budget)

abbrev bytes : ℕ → ℕ → ℕ → List ℕ
bytes start room budget = leaves capture (replicate room 238) (night capture start room budget)

-- the whole of it; a budget that holds one record just so, and one that a second would pass; two records; from the end on, with no budget
pub accepted : answer 0 99 99 ∷ answer 0 99 8 ∷ answer 0 99 14 ∷ answer 0 99 15 ∷ answer 26 0 0 ∷ []
    ≡ did 26 3 22 1 3 ∷ did 11 1 8 1 2 ∷ did 11 1 8 1 2 ∷ did 18 2 15 1 2 ∷ did 26 0 0 0 0 ∷ []
unfolding night done stop account written file_of packet_length packet_at before record_from next_record record_bytes readings_in spelling compact_of shorter
    unpad_packet read duration header compact length_field
accepted = refl

-- the next record alone exceeds the budget, at the front and later; a start past the end, whatever else is wrong; a destination shorter than the budget
pub refused : answer 0 99 7 ∷ answer 11 99 6 ∷ answer 27 0 5 ∷ answer 0 5 6 ∷ []
    ≡ Err OverBudget ∷ Err OverBudget ∷ Err BadArg ∷ Err BufferTooSmall ∷ []
unfolding night done stop packet_length packet_at before record_from next_record record_bytes readings_in spelling compact_of shorter unpad_packet read duration
    header compact length_field
refused = refl

-- the shorter packet, the unreadable one as it was, the compact one; behind them, and beside a refusal, the bytes are as they were
pub written_bytes : bytes 0 24 24 ∷ bytes 0 10 8 ∷ bytes 0 10 7 ∷ []
    ≡ (0x4b ∷ 0x9d ∷ 0x01 ∷ 0x00 ∷ 0x03 ∷ 0x01 ∷ 0xaa ∷ 0xbb ∷ 0x4b ∷ 0x9d ∷ 0x02 ∷ 0x00 ∷ 0x02 ∷ 0x03 ∷ 0x00
    ∷ 0x4b ∷ 0x9d ∷ 0x03 ∷ 0x00 ∷ 0x02 ∷ 0x00 ∷ 0xaa ∷ 238 ∷ 238 ∷ [])
    ∷ (0x4b ∷ 0x9d ∷ 0x01 ∷ 0x00 ∷ 0x03 ∷ 0x01 ∷ 0xaa ∷ 0xbb ∷ 238 ∷ 238 ∷ []) ∷ replicate 10 238 ∷ []
unfolding night done stop written file_of packet_length packet_at before record_from next_record record_bytes readings_in spelling compact_of shorter
    unpad_packet
    read duration header compact length_field
written_bytes = refl
