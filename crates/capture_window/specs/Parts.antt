-- A file that comes in chunks, and the parts in which it is read (beyond document 02).
use Rattle.std.specs.Prelude.{ℕ, ◌+◌, List, [], ◌∷◌, ◌++◌, cond, eqb, length, take, drop}
use Rattle.std.specs.Prelude.{Ok}
use Rattle.capture.specs.Records.{Entry}
use Rattle.capture.specs.Reading.{readings, records_of, passed_of}
use Rattle.capture.specs.declared.NextRecord.{NextRecord}
use Rattle.capture_window.specs.Window.{settled}

-- lists one behind another: of chunks, the file
unfoldable pub joined_up : List (List ℕ) → List ℕ
joined_up [] = []
joined_up (c ∷ cs) = c ++ joined_up cs

-- the parts of a file of which `held` is held when these chunks are still to come: with each chunk as much of what is then held as is settled; with the last,
-- with which the end of the file is known, all of it
unfoldable pub parts_from : List ℕ → List (List ℕ) → List (List ℕ)
parts_from held [] = held ∷ []
parts_from held (c ∷ []) = (held ++ c) ∷ []
parts_from held (c ∷ d ∷ cs) = take (settled (held ++ c)) (held ++ c) ∷ parts_from (drop (settled (held ++ c)) (held ++ c)) (d ∷ cs)

abbrev pub parts : List (List ℕ) → List (List ℕ)
parts chunks = parts_from [] chunks

-- ---- what is read of parts, each as a capture of its own
-- the records
unfoldable pub records_of_all : List (List ℕ) → List Entry
records_of_all [] = []
records_of_all (p ∷ ps) = records_of p ++ records_of_all ps

-- how many bytes belong to none
unfoldable pub passed_of_all : List (List ℕ) → ℕ
passed_of_all [] = 0
passed_of_all (p ∷ ps) = passed_of p + passed_of_all ps

-- the answers, with places in the file: `base` bytes stand before the part, and the last `carried` of them were passed over
abbrev pub in_file : ℕ → ℕ → NextRecord → NextRecord
in_file base carried a =
    record { verdict = a.verdict; line = a.line; place = base + a.place; length = a.length; passed = carried + a.passed }

-- those of a part, and of what follows, which is told how many bytes at the end of the part were passed over; the last part's end is the file's
unfoldable pub answers_on : ℕ → ℕ → List NextRecord → (ℕ → List NextRecord) → List NextRecord
answers_on base carried [] on = on carried
answers_on base carried (a ∷ more) on =
    cond (eqb a.length 0) (on (carried + a.passed)) (in_file base carried a ∷ answers_on base 0 more on)

unfoldable pub answers_from : ℕ → ℕ → List (List ℕ) → List NextRecord
answers_from base carried [] = record { verdict = Ok tt; line = 0; place = base; length = 0; passed = carried } ∷ []
answers_from base carried (p ∷ ps) = answers_on base carried (readings p 0) (λ k. answers_from (base + length p) k ps)

abbrev pub streamed : List (List ℕ) → List NextRecord
streamed chunks = answers_from 0 0 (parts chunks)

-- ---- what is written for records by any rule
unfoldable pub written_by : (Entry → List ℕ) → List Entry → List ℕ
written_by f [] = []
written_by f (e ∷ es) = f e ++ written_by f es

-- part by part
unfoldable pub rewritten : (Entry → List ℕ) → List (List ℕ) → List ℕ
rewritten f [] = []
rewritten f (p ∷ ps) = written_by f (records_of p) ++ rewritten f ps
