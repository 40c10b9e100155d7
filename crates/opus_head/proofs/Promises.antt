-- What a buyer may count on when identification headers are read and written (document 02, M-111; RFC 7845, 5.1).
--     accepted_is_lawful, lawful_is_accepted      what is accepted, exactly
--     read_is_in_range                            what is read is in the ranges of the fields' types
--     reading_answers, refusal_numbers            every reading is accepted, or refused by -22, -23 or -24:
--     other_letters, then_version, then_length, then_fields_lem, then_fields_only, else_accepted     by which, in their order
--     so_many_bytes                               the bytes that a family and its channels need
--     written_reads_back, read-writes_back        the calls undo each other
--     field_refusals, room_refusals, written_otherwise     what the writer refuses and writes, exactly
--     refused_write_changes_nothing, bytes_past_the_header_stay
--     signed_undoes_bits, bits_undo_signed, number_undoes_bytes, bytes_undo_number     the gain and its bits, a number and its bytes
-- Assumes nothing.
use Prim.Native.Nat.{ℕ, ◌<◌, ◌≤◌, ◌^◌}
use native.Mathlib.Omega.{arith}
use mathlib.Core.Path.{◌≡◌, refl}
use mathlib.Core.List.{List, [], ◌++◌}
use mathlib.Core.Logic.{◌⊎◌}
use lib.IntN.{ℤ, pos, negsuc}
use lib.ListN.{length, take, drop, get_or}
use lib.Seq.{sets}
use lib.Signed.{mag}
use Rattle.laws.specs.Bytes.{Bytes}
use Rattle.opus_defines.specs.Numbers.{plain, refusal_number}
use Rattle.opus_defines.specs.Outcome.{refuses, writes}
use Rattle.opus_defines.specs.declared.Refusal.TheVariants.{BufferTooSmall, BadHeader, UnknownVersion, BadField}
use Rattle.opus_defines.proofs.Outcomes.{refusal-keeps}
use Rattle.std.specs.Prelude.{Ok, Err}
use Rattle.opus_head.specs.declared.OpusHead.{OpusHead}
use Rattle.low_first.specs.Numbers.{low_first, from_low}
use Rattle.opus_head.specs.Header.{letters, bits16, head_bytes, Lawful}
use Rattle.opus_head.specs.Reading.{signed16, head_read, head_written, head_write, bytes_needed}
use Rattle.opus_head.specs.Heads.{InRange, Writable}
use Rattle.low_first.proofs.Numbers.{low_back, from_back}
use Rattle.opus_head.proofs.Gain.{bits_back, signed_back}
use Rattle.opus_head.proofs.Laid.{bytes_long}
use Rattle.opus_head.proofs.Exactly.{answers, accepted_was, was_lawful, was_ranged, was_spelled, was_whole, accepted, not_lettered, lettered_version}
use Rattle.opus_head.proofs.Exactly.{lettered_length, lettered_answers, lettered_fields, fields_only}
use Rattle.opus_head.proofs.Back.{done_reads, done_past, read_again}
use Rattle.opus_head.proofs.Written.{write_against, against_only, write_short, short_only, write_all, done_was}

-- ---- 1. What is accepted, exactly: fields that obey the rules, in their bytes. Of version 1 these are all of the bytes, and of another anything may be
-- behind them.
pub accepted_is_lawful : (s : List ℕ) → Bytes s → (h : OpusHead) → head_read s ≡ Ok h
    → Lawful h × ((rest : List ℕ) × (s ≡ head_bytes h ++ rest)) × (h.version ≡ 1 → s ≡ head_bytes h)
accepted_is_lawful s bytes h a = let w = accepted_was s h a in (was_lawful w, was_spelled w bytes, was_whole w bytes)

pub lawful_is_accepted : (h : OpusHead) → InRange h → Lawful h → (rest : List ℕ) → (h.version ≡ 1 → rest ≡ [])
    → head_read (head_bytes h ++ rest) ≡ Ok h
lawful_is_accepted h range l rest end = accepted h range l rest end

pub read_is_in_range : (s : List ℕ) → Bytes s → (h : OpusHead) → head_read s ≡ Ok h → InRange h
read_is_in_range s bytes h a = was_ranged (accepted_was s h a) bytes

-- ---- 2. Every reading is accepted or refused by one of three numbers, beside which there are no fields.
pub reading_answers : (s : List ℕ)
    → ((h : OpusHead) × (head_read s ≡ Ok h))
    ⊎ ((head_read s ≡ Err BadHeader) ⊎ ((head_read s ≡ Err UnknownVersion) ⊎ (head_read s ≡ Err BadField)))
reading_answers s = answers s

pub refusal_numbers : (refusal_number BadHeader ≡ negsuc 21) × (refusal_number UnknownVersion ≡ negsuc 22) × (refusal_number BadField ≡ negsuc 23)
refusal_numbers = (refl, refl, refl)

-- ---- 3. By which, in this order. -22 for less than 19 bytes, or other letters;
pub other_letters : (s : List ℕ) → (length s < 19) ⊎ ((rest : List ℕ) → s ≡ letters ++ rest → ⊥) → head_read s ≡ Err BadHeader
other_letters s o = not_lettered s o

-- what headers of a family and so many channels need
pub so_many_bytes : (h : OpusHead) → InRange h → length (head_bytes h) ≡ bytes_needed h.family h.channels
so_many_bytes h range = bytes_long h (omega (arith, range.channels, range.entry_count))

module _ (s rest : List ℕ) (least : 19 ≤ length s) (lettered : s ≡ letters ++ rest) where
  -- then -23 for a version above 15;
  pub then_version : 15 < get_or s 8 0 → head_read s ≡ Err UnknownVersion
  then_version v = lettered_version s rest least lettered v

  module _ (version : get_or s 8 0 ≤ 15) where
    -- the bytes that its family and channels need
    abbrev pub need : ℕ
    need = bytes_needed (get_or s 18 0) (get_or s 9 0)

    -- then -22 for fewer, and for more of version 1;
    pub then_length : (length s < need) ⊎ ((get_or s 8 0 ≡ 1) × (need < length s)) → head_read s ≡ Err BadHeader
    then_length o = lettered_length s rest least lettered version o

    -- then -24 exactly where its bytes are those of no head that obeys the rules; and else it is accepted.
    module _ (bytes : Bytes s) (long : need ≤ length s) (just : get_or s 8 0 ≡ 1 → length s ≡ need) where
      pub then_fields_lem : ((h : OpusHead) → InRange h → Lawful h → head_bytes h ≡ take need s → ⊥) → head_read s ≡ Err BadField
      then_fields_lem o = lettered_fields s rest least lettered version bytes long just o

      pub else_accepted : ((h : OpusHead) × (head_read s ≡ Ok h)) ⊎ (head_read s ≡ Err BadField)
      else_accepted = lettered_answers s rest least lettered version bytes long just

      pub then_fields_only : head_read s ≡ Err BadField → (h : OpusHead) → InRange h → Lawful h → head_bytes h ≡ take need s → ⊥
      then_fields_only r = fields_only s rest least lettered version bytes long just r

-- ---- 4. What was written reads back, and what was read of version 1 is written back.
pub written_reads_back : (h : OpusHead) → InRange h → (dst : List ℕ) (n : ℕ) → (head_write h dst).report.number ≡ pos n
    → head_read (take n (head_write h dst).bytes) ≡ Ok h
written_reads_back h range dst n e = done_reads h dst n (done_was h dst n e) range

pub read-writes_back : (s : List ℕ) → Bytes s → (h : OpusHead) → head_read s ≡ Ok h → h.version ≡ 1
    → (dst : List ℕ) → length s ≤ length dst → head_write h dst ≡ record { report = plain (pos (length s)); bytes = sets dst 0 s }
read-writes_back s bytes h a v dst room = read_again s bytes h (accepted_was s h a) v dst room

-- ---- 5. What the writer refuses, in this order: -24 exactly where the version is not 1 or the fields do not obey the rules,
pub field_refusals : (h : OpusHead) (dst : List ℕ) → ((Writable h → ⊥) → head_write h dst ≡ refuses BadField dst)
    × ((head_write h dst).report.number ≡ negsuc 23 → Writable h → ⊥)
field_refusals h dst = (write_against h dst, against_only h dst)

-- then -2 exactly where there is no room for the bytes;
pub room_refusals : (h : OpusHead) (dst : List ℕ) → (Writable h → length dst < length (head_bytes h) → head_write h dst ≡ refuses BufferTooSmall dst)
    × ((head_write h dst).report.number ≡ negsuc 1 → Writable h × (length dst < length (head_bytes h)))
room_refusals h dst = (write_short h dst, short_only h dst)

-- else the bytes are written,
pub written_otherwise : (h : OpusHead) (dst : List ℕ) → Writable h → length (head_bytes h) ≤ length dst → head_write h dst ≡ writes (head_bytes h) dst
written_otherwise h dst = write_all h dst

-- and those behind them stay, as all do beside a refusal.
pub bytes_past_the_header_stay : (h : OpusHead) (dst : List ℕ) (n : ℕ) → (head_write h dst).report.number ≡ pos n
    → drop n (head_write h dst).bytes ≡ drop n dst
bytes_past_the_header_stay h dst n e = done_past h dst n (done_was h dst n e)

pub refused_write_changes_nothing : (h : OpusHead) (dst : List ℕ) (n : ℕ) → (head_write h dst).report.number ≡ negsuc n
    → (head_write h dst).bytes ≡ dst
unfolding head_write
refused_write_changes_nothing h dst n e = refusal-keeps dst (head_written h (length dst)) n e

-- ---- 6. The gain and its bits undo each other, and so do a number and its bytes.
pub signed_undoes_bits : (x : ℤ) → mag x < 32768 → signed16 (bits16 x) ≡ x
signed_undoes_bits x h = signed_back x h

pub bits_undo_signed : (n : ℕ) → n < 65536 → bits16 (signed16 n) ≡ n
bits_undo_signed n h = bits_back n h

pub number_undoes_bytes : (k n : ℕ) → n < 256 ^ k → from_low (low_first k n) ≡ n
number_undoes_bytes k n h = from_back k n h

pub bytes_undo_number : (l : List ℕ) → Bytes l → low_first (length l) (from_low l) ≡ l
bytes_undo_number l h = low_back l h
