-- The text that the program `judge` writes (document 02, M-110): a verdict for each record, then the four totals; `refused -1` for a capture that is too long.
-- 32 is a space, 10 the end of a line.
use Rattle.std.specs.Prelude.{ℕ, zero, suc, ◌-◌, List, [], ◌∷◌, ◌++◌, Bool, true, false, cond, eqb, leb, ltb, length}
use Rattle.opus_defines.specs.Numbers.{rule_number, refusal_number}
use Rattle.opus_defines.specs.declared.Rule.{Rule}
use Rattle.opus_defines.specs.declared.Refusal.TheVariants.{BadArg}
use Rattle.packet_judge.specs.Judging.{judged}
use Rattle.packet_judge.specs.declared.Judged.{Judged}
use Rattle.packet_judge.specs.declared.Judged.TheVariants.{Refused, Unreadable, Dirty, Longer, Clean}
use Rattle.capture.specs.declared.NextRecord.{NextRecord}
use Rattle.capture.specs.Finding.{packet_at, next_record}
use Rattle.capture.specs.Reading.{behind, readings}
use Rattle.captures_text.specs.Lines.{most_capture}
use Rattle.show.specs.Text.{decimal, number_line, refusal}
use Rattle.packet_judge.specs.Tallies.{tally_of, tallied}
use Rattle.packet_judge.specs.declared.Tally.{Tally}
use Rattle.judge_text.specs.declared.Lines.{Lines}

-- ---- lines
-- "unreadable ", "dirty", "longer " and "clean", the second and the fourth with the end of the line
abbrev pub unreadable_label : List ℕ
unreadable_label = 117 ∷ 110 ∷ 114 ∷ 101 ∷ 97 ∷ 100 ∷ 97 ∷ 98 ∷ 108 ∷ 101 ∷ 32 ∷ []

abbrev pub dirty_text : List ℕ
dirty_text = 100 ∷ 105 ∷ 114 ∷ 116 ∷ 121 ∷ 10 ∷ []

abbrev pub longer_label : List ℕ
longer_label = 108 ∷ 111 ∷ 110 ∷ 103 ∷ 101 ∷ 114 ∷ 32 ∷ []

abbrev pub clean_text : List ℕ
clean_text = 99 ∷ 108 ∷ 101 ∷ 97 ∷ 110 ∷ 10 ∷ []

abbrev pub unreadable_line : Rule → ℕ → List ℕ
unreadable_line rule place = unreadable_label ++ (decimal (rule_number rule) ++ number_line (32 ∷ []) place)

-- the line of a verdict; that of a refusal is met in no capture
unfoldable pub verdict_line : Judged → List ℕ
verdict_line (Refused e) = refusal (refusal_number e)
verdict_line (Unreadable rule place) = unreadable_line rule place
verdict_line Dirty = dirty_text
verdict_line (Longer n) = number_line longer_label n
verdict_line Clean = clean_text

unfoldable pub verdict_lines : List Judged → List ℕ
verdict_lines [] = []
verdict_lines (j ∷ more) = verdict_line j ++ verdict_lines more

-- "total unreadable ", "total dirty ", "total longer " and "total clean "
abbrev pub total_unreadable : List ℕ
total_unreadable = 116 ∷ 111 ∷ 116 ∷ 97 ∷ 108 ∷ 32 ∷ 117 ∷ 110 ∷ 114 ∷ 101 ∷ 97 ∷ 100 ∷ 97 ∷ 98 ∷ 108 ∷ 101 ∷ 32 ∷ []

abbrev pub total_dirty : List ℕ
total_dirty = 116 ∷ 111 ∷ 116 ∷ 97 ∷ 108 ∷ 32 ∷ 100 ∷ 105 ∷ 114 ∷ 116 ∷ 121 ∷ 32 ∷ []

abbrev pub total_longer : List ℕ
total_longer = 116 ∷ 111 ∷ 116 ∷ 97 ∷ 108 ∷ 32 ∷ 108 ∷ 111 ∷ 110 ∷ 103 ∷ 101 ∷ 114 ∷ 32 ∷ []

abbrev pub total_clean : List ℕ
total_clean = 116 ∷ 111 ∷ 116 ∷ 97 ∷ 108 ∷ 32 ∷ 99 ∷ 108 ∷ 101 ∷ 97 ∷ 110 ∷ 32 ∷ []

unfoldable pub totals : Tally → List ℕ
totals t =
    number_line total_unreadable t.unreadable ++ number_line total_dirty t.dirty ++ number_line total_longer t.longer ++ number_line total_clean t.clean

-- ---- the whole text
-- the verdict, in ordinary form, on the packet of an answer's record
abbrev pub verdict_of : List ℕ → NextRecord → Judged
verdict_of s a = judged false (packet_at s a.place)

-- a verdict for each answer that is a record
unfoldable pub verdicts_of : List ℕ → List NextRecord → List Judged
verdicts_of s [] = []
verdicts_of s (a ∷ more) = cond (eqb a.length 0) [] (verdict_of s a ∷ []) ++ verdicts_of s more

-- the verdicts on the records of a capture
abbrev pub judgements : List ℕ → List Judged
judgements s = verdicts_of s (readings s 0)

unfoldable pub judge_text : List ℕ → List ℕ
judge_text s =
    cond (leb (length s) most_capture) (verdict_lines (judgements s) ++ totals (tally_of (judgements s))) (refusal (refusal_number BadArg))

-- ---- the same by parts, each of which goes into a buffer
-- nothing that is put at once is longer than the four totals: their labels, 5 digits each, and the ends of the lines
abbrev pub part_most : ℕ
part_most = 78

-- some of the text, the place from which to go on and the verdicts before it, and whether there is no more
pub record Part : Type 0 where
  pub next : ℕ
  pub tally : Tally
  pub done : Bool
  pub text : List ℕ

-- no text, to be gone on with; and no record is left
abbrev pub stop : ℕ → Tally → Part
stop at t = record { next = at; tally = t; done = false; text = [] }

abbrev pub over : List ℕ → Tally → Part
over s t = record { next = length s; tally = t; done = true; text = [] }

-- a text before a part, and a text behind it
abbrev pub with_line : List ℕ → Part → Part
with_line l p = record { next = p.next; tally = p.tally; done = p.done; text = l ++ p.text }

abbrev pub then_text : Part → List ℕ → Part
then_text p l = record { next = p.next; tally = p.tally; done = p.done; text = p.text ++ l }

-- lines of the records from a place on, as long as there is room for the totals; at most `most` of them
unfoldable pub lines_in : ℕ → List ℕ → ℕ → Tally → ℕ → Part
lines_in zero s at t room = cond (ltb room part_most) (stop at t) (over s t)
lines_in (suc most) s at t room =
    cond (ltb room part_most) (stop at t)
    (cond (eqb (next_record s at).length 0) (over s t)
    (with_line (verdict_line (verdict_of s (next_record s at)))
    (lines_in most s (behind (next_record s at)) (tallied (verdict_of s (next_record s at)) t)
    (room - length (verdict_line (verdict_of s (next_record s at)))))))

-- the totals stand behind the last line
abbrev pub ending : Bool → Tally → List ℕ
ending done t = cond done (totals t) []

abbrev pub closed : Part → Part
closed p = then_text p (ending p.done p.tally)

-- `put_part`: the part of the text from a place on that goes into a buffer
unfoldable pub part_from : List ℕ → ℕ → Tally → ℕ → Part
part_from s at t room =
    cond (leb (length s) most_capture) (closed (lines_in (length s) s at t room))
    (cond (ltb room part_most) (stop at t) (then_text (over s t) (refusal (refusal_number BadArg))))

-- what is answered beside the bytes of the text
abbrev pub lines_of : Part → Lines
lines_of p = record { bytes = length p.text; next = p.next; tally = p.tally; done = p.done }

-- the parts from a place to the end, one behind another, as the program writes them; at most `most` of them
unfoldable pub printed : ℕ → List ℕ → ℕ → Tally → ℕ → List ℕ
printed zero s at t room = []
printed (suc most) s at t room =
    (part_from s at t room).text ++ cond (part_from s at t room).done [] (printed most s (part_from s at t room).next (part_from s at t room).tally room)
