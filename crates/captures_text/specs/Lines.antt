-- The text that the program `captures` writes (document 02, M-101): a line for each record, and `refused -1` for a capture that is too long.
-- 32 is a space, 10 the end of a line.
use Rattle.std.specs.Prelude.{ℕ, zero, suc, ◌-◌, List, [], ◌∷◌, ◌++◌, cond, eqb, leb, ltb, length}
use Rattle.opus_defines.specs.Numbers.{refusal_number}
use Rattle.opus_defines.specs.declared.Refusal.TheVariants.{BadArg}
use Rattle.capture.specs.declared.NextRecord.{NextRecord}
use Rattle.capture.specs.Finding.{next_record}
use Rattle.capture.specs.Reading.{behind, readings}
use Rattle.show.specs.Text.{decimal, refusal}

-- the longest capture that is read, in bytes
abbrev pub most_capture : ℕ
most_capture = 65536

-- line, place and length of a record
unfoldable pub record_line : NextRecord → List ℕ
record_line a = decimal a.line ++ (32 ∷ decimal a.place) ++ (32 ∷ decimal a.length) ++ (10 ∷ [])

-- a line for each answer that is a record
unfoldable pub record_lines : List NextRecord → List ℕ
record_lines [] = []
record_lines (a ∷ more) = cond (eqb a.length 0) [] (record_line a) ++ record_lines more

-- the whole text
unfoldable pub capture_text : List ℕ → List ℕ
capture_text s = cond (leb (length s) most_capture) (record_lines (readings s 0)) (refusal (refusal_number BadArg))

-- ---- the same by parts, each of which goes into a buffer
-- no line within the bound is longer: 3 digits, 5, 5, two spaces and the end
abbrev pub line_most : ℕ
line_most = 16

-- some of the text, and the place from which to go on: the end where there is no more
pub record Part : Type 0 where
  pub next : ℕ
  pub text : List ℕ

-- a line before a part
abbrev pub with_line : List ℕ → Part → Part
with_line l p = record { next = p.next; text = l ++ p.text }

-- lines of the records from a place on, as long as there is room for the longest; at most `most` of them
unfoldable pub lines_in : ℕ → List ℕ → ℕ → ℕ → Part
lines_in zero s at room = record { next = cond (ltb room line_most) at (length s); text = [] }
lines_in (suc most) s at room =
    cond (ltb room line_most) (record { next = at; text = [] })
    (cond (eqb (next_record s at).length 0) (record { next = length s; text = [] })
    (with_line (record_line (next_record s at)) (lines_in most s (behind (next_record s at)) (room - length (record_line (next_record s at))))))

-- `put_lines`: the part of the text from a place on that goes into a buffer
unfoldable pub part_from : List ℕ → ℕ → ℕ → Part
part_from s at room =
    cond (leb (length s) most_capture) (lines_in (length s) s at room)
    (cond (ltb room line_most) (record { next = at; text = [] })
    (record { next = length s; text = refusal (refusal_number BadArg) }))

-- the parts from a place to the end, one behind another, as the program writes them; at most `most` of them
unfoldable pub printed : ℕ → List ℕ → ℕ → ℕ → List ℕ
printed zero s at room = []
printed (suc most) s at room =
    cond (ltb at (length s)) ((part_from s at room).text ++ printed most s (part_from s at room).next room) []
