-- How a record is found in a capture (document 02, M-101). A capture is a list of bytes, and what stands at a place is read off the bytes from
-- there on.
use Rattle.std.specs.Prelude.{ℕ, suc, ◌+◌, ◌*◌, List, [], ◌∷◌, cond, ◌&&◌, eqb, leb, ltb, ℤ, pos, length, get_or, take, drop}
use Rattle.opus_defines.specs.Numbers.{verdict_number}
use Rattle.opus_defines.specs.declared.Refusal.{Refusal}
use Rattle.opus_defines.specs.declared.Refusal.TheVariants.{BadArg}
use Rattle.std.specs.Prelude.{Err, Ok}
use Rattle.capture.specs.Records.{head_bytes}
use Rattle.capture.specs.declared.NextRecord.{NextRecord}

-- the length behind the mark and the line, high byte first
abbrev pub length_in : List ℕ → ℕ
length_in l = 256 * get_or l 3 0 + get_or l 4 0

-- the bytes of the packet of the record at the front of a list; 0 where no record stands there, for a packet has one byte at least
unfoldable pub packet_length : List ℕ → ℕ
packet_length l =
    cond (eqb (get_or l 0 0) 0x4B && (eqb (get_or l 1 0) 0x9D && leb (head_bytes + length_in l) (length l))) (length_in l) 0

-- the packet of the record at a place; no byte where none stands
unfoldable pub packet_at : List ℕ → ℕ → List ℕ
packet_at s at = take (packet_length (drop at s)) (drop (at + head_bytes) s)

-- the bytes before the first place of a list at which a record stands: all of them where there is none
unfoldable pub before : List ℕ → ℕ
before [] = 0
before (b ∷ l) = cond (eqb (packet_length (b ∷ l)) 0) (suc (before l)) 0

-- the line of a record, the place of its mark, the bytes of its packet
pub record Record : Type 0 where
  pub line : ℕ
  pub place : ℕ
  pub length : ℕ

-- the first record at or after a place; 0, the end, 0 where there is none
unfoldable pub record_from : List ℕ → ℕ → Record
record_from s at =
    let place = at + before (drop at s) in
    record { line = get_or (drop place s) 2 0; place = place; length = packet_length (drop place s) }

-- a refusal, and zeros
abbrev pub no_record : Refusal → NextRecord
no_record e = record { verdict = Err e; line = 0; place = 0; length = 0; passed = 0 }

-- a record, and the bytes passed over before it
abbrev pub with_passed : Record → ℕ → NextRecord
with_passed r passed = record { verdict = Ok tt; line = r.line; place = r.place; length = r.length; passed = passed }

-- `next_record`: a start past the end is refused, the end is not
unfoldable pub next_record : List ℕ → ℕ → NextRecord
next_record s start = cond (ltb (length s) start) (no_record BadArg) (with_passed (record_from s start) (before (drop start s)))

-- the number of an answer: 0, or the refusal's
abbrev pub record_number : NextRecord → ℤ
record_number a = verdict_number (pos 0) a.verdict
