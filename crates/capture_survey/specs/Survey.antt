-- What is counted of a capture (beyond document 02): its records, the bytes of their packets and those passed over, the verdicts on the packets (M-110), and
-- the bytes that compaction would reclaim (M-103).
use Rattle.std.specs.Prelude.{ℕ, ◌+◌, ◌*◌, ◌-◌, List, [], ◌∷◌, false, cond, eqb, length}
use Rattle.opus_defines.specs.Bounds.{most_packet}
use Rattle.capture.specs.Finding.{packet_at}
use Rattle.capture.specs.Reading.{readings}
use Rattle.capture.specs.declared.NextRecord.{NextRecord}
use Rattle.packet_judge.specs.Judging.{judged}
use Rattle.packet_judge.specs.Tallies.{none, tallied, plus, sum_of}
use Rattle.spelling.specs.Spelling.{shorter}
use Rattle.capture_survey.specs.declared.Survey.{Survey}

-- the bytes by which the shorter spelling of a packet is shorter, with 65,535 bytes of work room
unfoldable pub saved : List ℕ → ℕ
saved p = length p - length (shorter p most_packet)

-- of a record with this packet, and bytes passed over before it
abbrev pub of_record : ℕ → List ℕ → Survey
of_record passed p =
    record { records = 1; packets = length p; passed = passed; verdicts = tallied (judged false p) none; reclaimable = saved p }

-- of bytes passed over
abbrev pub of_passed : ℕ → Survey
of_passed passed = record { records = 0; packets = 0; passed = passed; verdicts = none; reclaimable = 0 }

-- two surveys together
abbrev pub together : Survey → Survey → Survey
together t u =
    record {
      records = t.records + u.records;
      packets = t.packets + u.packets;
      passed = t.passed + u.passed;
      verdicts = plus t.verdicts u.verdicts;
      reclaimable = t.reclaimable + u.reclaimable;
    }

-- of the answers of a reading, the last of which is no record
unfoldable pub counted : List ℕ → List NextRecord → Survey
counted s [] = of_passed 0
counted s (a ∷ more) =
    together (cond (eqb a.length 0) (of_passed a.passed) (of_record a.passed (packet_at s a.place))) (counted s more)

-- of a capture
unfoldable pub survey_of : List ℕ → Survey
survey_of s = counted s (readings s 0)

-- no count is larger than this; of a capture of n bytes it is at most 3 n
abbrev pub bytes_in : Survey → ℕ
bytes_in t = 5 * t.records + t.packets + t.passed + (sum_of t.verdicts + t.reclaimable)

-- of the parts of a file, one behind another
unfoldable pub survey_of_all : List (List ℕ) → Survey
survey_of_all [] = of_passed 0
survey_of_all (p ∷ ps) = together (survey_of p) (survey_of_all ps)
