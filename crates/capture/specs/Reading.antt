-- A capture read from a place to its end (document 02, M-101): the answers of `next_record`, each asked for behind the record before, the last
-- one saying that there is none. The answers tell every byte apart: passed over, or of a record.
use Rattle.std.specs.Prelude.{ℕ, zero, suc, ◌+◌, ◌-◌, ◌<◌, ◌≤◌, ◌≡◌, ◌⊎◌, List, [], ◌∷◌, ◌++◌, map, cond, eqb, leb, ltb, length, take, drop}
use Rattle.std.specs.Prelude.{Ok}
use Rattle.capture.specs.Records.{Entry, head_bytes}
use Rattle.capture.specs.Finding.{packet_at, next_record}
use Rattle.capture.specs.declared.NextRecord.{NextRecord}

-- the bytes of an answer's record, its head among them; 0 where there is none
unfoldable pub record_bytes : NextRecord → ℕ
record_bytes a = cond (eqb a.length 0) 0 (head_bytes + a.length)

-- the place behind an answer's record
abbrev pub behind : NextRecord → ℕ
behind a = a.place + record_bytes a

-- the place at which its passed-over bytes begin
abbrev pub begins : NextRecord → ℕ
begins a = a.place - a.passed

-- an answer and those behind it, which are asked for where it is a record
abbrev pub goes_on : NextRecord → List NextRecord → List NextRecord
goes_on a more = cond (eqb a.length 0) (a ∷ []) (a ∷ more)

-- at most `most` records
unfoldable pub readings_in : ℕ → List ℕ → ℕ → List NextRecord
readings_in zero s at = next_record s at ∷ []
readings_in (suc most) s at = goes_on (next_record s at) (readings_in most s (behind (next_record s at)))

-- a capture has no more records than bytes
abbrev pub readings : List ℕ → ℕ → List NextRecord
readings s at = readings_in (length s) s at

-- a is one of the answers
abbrev pub Among : NextRecord → List NextRecord → Type 0
Among a [] = ⊥
Among a (b ∷ more) = (a ≡ b) ⊎ Among a more

-- ---- the records themselves
-- the record of an answer, in the capture s
abbrev pub entry_of : List ℕ → NextRecord → Entry
entry_of s a = record { line = a.line; packet = packet_at s a.place }

-- the records of answers
abbrev pub entries : List ℕ → List NextRecord → List Entry
entries s answers = map (entry_of s) answers

-- the records among answers: the last answer of a reading says that there is none
unfoldable pub records_in : List NextRecord → List NextRecord
records_in [] = []
records_in (a ∷ more) = cond (eqb a.length 0) (records_in more) (a ∷ records_in more)

-- the records of a capture, in order
unfoldable pub records_of : List ℕ → List Entry
records_of s = entries s (records_in (readings s 0))

-- the bytes that answers pass over, and those of a capture that belong to no record
unfoldable pub passed_in : List NextRecord → ℕ
passed_in [] = 0
passed_in (a ∷ more) = a.passed + passed_in more

unfoldable pub passed_of : List ℕ → ℕ
passed_of s = passed_in (readings s 0)

-- ---- each byte
-- the bytes that an answer passes over and those of its record
unfoldable pub pieces : List ℕ → NextRecord → List ℕ
pieces s a = take a.passed (drop (begins a) s) ++ take (record_bytes a) (drop a.place s)

-- the pieces of all answers, in order
unfoldable pub joined : List ℕ → List NextRecord → List ℕ
joined s [] = []
joined s (a ∷ more) = pieces s a ++ joined s more

-- the byte at place k is passed over by an answer
pub record PassedOver (a : NextRecord) (k : ℕ) : Type 0 where
  pub from : begins a ≤ k
  pub below : k < a.place

-- the byte at place k is one of an answer's record
pub record InRecord (a : NextRecord) (k : ℕ) : Type 0 where
  pub from : a.place ≤ k
  pub below : k < behind a

-- 1 where the place k is not before `from` and is before `below`, and else 0
unfoldable pub within : ℕ → ℕ → ℕ → ℕ
within from below k = cond (leb from k) (cond (ltb k below) 1 0) 0

-- how many of the answers pass the byte at place k over, and in the records of how many it lies
unfoldable pub times_passed : List NextRecord → ℕ → ℕ
times_passed [] k = 0
times_passed (a ∷ more) k = within (begins a) a.place k + times_passed more k

unfoldable pub times_held : List NextRecord → ℕ → ℕ
times_held [] k = 0
times_held (a ∷ more) k = within a.place (behind a) k + times_held more k

-- ---- records one right behind another
-- the answers for such records, of which the first stands at a place: nothing is passed over
unfoldable pub answers_for : ℕ → List Entry → List NextRecord
answers_for at [] = record { verdict = Ok tt; line = 0; place = at; length = 0; passed = 0 } ∷ []
answers_for at (e ∷ es) =
    record { verdict = Ok tt; line = e.line; place = at; length = length e.packet; passed = 0 }
    ∷ answers_for (at + (head_bytes + length e.packet)) es
