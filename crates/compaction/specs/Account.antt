-- What becomes of the records of a capture that are rewritten, and the plain account of them (document 02, M-103).
use Rattle.std.specs.Prelude.{ℕ, suc, ◌+◌, ◌-◌, List, [], ◌∷◌, map, length}
use Rattle.opus_defines.specs.Bounds.{most_packet}
use Rattle.capture.specs.Records.{Entry, head_bytes, file_of}
use Rattle.capture.specs.Reading.{entry_of, entries}
use Rattle.capture.specs.declared.NextRecord.{NextRecord}
use Rattle.spelling.specs.Spelling.{shorter}

-- a record with its packet in the shorter spelling, which has 65,535 bytes of work room
abbrev pub rewritten : Entry → Entry
rewritten e = record { line = e.line; packet = shorter e.packet most_packet }

-- the bytes of an answer's record when it is rewritten
abbrev pub size : List ℕ → NextRecord → ℕ
size s a = head_bytes + length (rewritten (entry_of s a)).packet

-- what is written for the records done: each rewritten, one behind another
abbrev pub output : List ℕ → List NextRecord → List ℕ
output s done = file_of (map rewritten (entries s done))

-- records done, their bytes as written, and by how many they were longer; the bytes passed over on the way
pub record Account : Type 0 where
  pub records : ℕ
  pub written : ℕ
  pub reclaimed : ℕ
  pub passed : ℕ

-- with one record more in front
abbrev pub counting : List ℕ → NextRecord → Account → Account
counting s a k =
    record {
      records = suc k.records;
      written = size s a + k.written;
      reclaimed = head_bytes + a.length - size s a + k.reclaimed;
      passed = a.passed + k.passed;
    }

-- the account of the records done, where the call stops at an answer: what that passes over is passed over by this call
unfoldable pub account : List ℕ → NextRecord → List NextRecord → Account
account s stop [] = record { records = 0; written = 0; reclaimed = 0; passed = stop.passed }
account s stop (a ∷ done) = counting s a (account s stop done)
