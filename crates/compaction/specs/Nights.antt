-- Calls made one after another, each resumed where the one before stopped (document 02, M-103).
use Rattle.std.specs.Prelude.{ℕ, ◌+◌, ◌≡◌, List, [], ◌++◌, length}
use Rattle.capture.specs.declared.NextRecord.{NextRecord}
use Rattle.compaction.specs.Account.{output, Account, account}
use Rattle.compaction.specs.Share.{does, night}

-- two accounts together
abbrev pub together : Account → Account → Account
together j k =
    record {
      records = j.records + k.records;
      written = j.written + k.written;
      reclaimed = j.reclaimed + k.reclaimed;
      passed = j.passed + k.passed;
    }

-- from a start place to the end, none of them refused: what they wrote, joined, and their accounts together. Each has a destination and a budget of its own
pub data Nights (s : List ℕ) : ℕ → List ℕ → Account → Type 0 where
  over : Nights s (length s) [] (record { records = 0; written = 0; reclaimed = 0; passed = 0 })
  next : {start : ℕ} (room budget : ℕ) {ds : List NextRecord} {a : NextRecord} {out : List ℕ} {k : Account}
      → night s start room budget ≡ does ds a → Nights s a.place out k → Nights s start (output s ds ++ out) (together (account s a ds) k)
