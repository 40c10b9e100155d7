-- The text of small captures by computation.
-- Assumes nothing.
use Prim.Native.Nat.{ℕ}
use native.Mathlib.Omega.{arith}
use mathlib.Core.Path.{◌≡◌, refl, ◌∙◌}
use mathlib.Core.List.{List, [], ◌∷◌, ◌++◌}
use Rattle.opus_defines.specs.declared.Rule.TheVariants.{R5}
use Rattle.opus_toc.specs.Toc.{duration}
use Rattle.opus_format.specs.Reading.{read}
use Rattle.opus_header.specs.Header.{header}
use Rattle.opus_header.specs.Compact.{compact}
use Rattle.packet_judge.specs.declared.Judged.{Judged}
use Rattle.packet_judge.specs.declared.Judged.TheVariants.{Unreadable, Dirty, Longer, Clean}
use Rattle.packet_judge.specs.Judging.{least_bytes, judge_read, judged}
use Rattle.capture.specs.Finding.{packet_length, packet_at, before, record_from, next_record}
use Rattle.capture.specs.Reading.{record_bytes, readings_in}
use Rattle.show.specs.Text.{places, decimal}
use Rattle.packet_judge.specs.Tallies.{tally_of, none}
use Rattle.judge_text.specs.Text.{verdict_line, verdict_lines, verdicts_of, judgements, judge_text}
use Rattle.judge_text.specs.Text.{lines_in, part_from, printed}
use Rattle.judge_text.specs.Text.{totals}
use Rattle.judge_text.proofs.Promises.{text_read}

-- a byte, records with the packets 03; 03 41 01 AA 07, 03 41 01 07; 03 41 01 AA 00, 03 01, 02 00; 00, 01, 00 AA, 78 AA BB, and a byte
abbrev sample : List ℕ
sample =
    0x09 ∷ 0x4b ∷ 0x9d ∷ 0x00 ∷ 0x00 ∷ 0x01 ∷ 0x03 ∷ 0x4b ∷ 0x9d ∷ 0x01 ∷ 0x00 ∷ 0x05 ∷ 0x03 ∷ 0x41 ∷ 0x01 ∷ 0xaa ∷ 0x07
    ∷ 0x4b ∷ 0x9d ∷ 0x02 ∷ 0x00
    ∷ 0x04 ∷ 0x03 ∷ 0x41 ∷ 0x01 ∷ 0x07 ∷ 0x4b ∷ 0x9d ∷ 0x03 ∷ 0x00 ∷ 0x05 ∷ 0x03 ∷ 0x41 ∷ 0x01 ∷ 0xaa ∷ 0x00 ∷ 0x4b ∷ 0x9d
    ∷ 0x04 ∷ 0x00 ∷ 0x02
    ∷ 0x03 ∷ 0x01 ∷ 0x4b ∷ 0x9d ∷ 0x05 ∷ 0x00 ∷ 0x02 ∷ 0x02 ∷ 0x00 ∷ 0x4b ∷ 0x9d ∷ 0x06 ∷ 0x00 ∷ 0x01 ∷ 0x00 ∷ 0x4b ∷ 0x9d
    ∷ 0x07 ∷ 0x00 ∷ 0x01
    ∷ 0x01 ∷ 0x4b ∷ 0x9d ∷ 0x08 ∷ 0x00 ∷ 0x02 ∷ 0x00 ∷ 0xaa ∷ 0x4b ∷ 0x9d ∷ 0x09 ∷ 0x00 ∷ 0x03 ∷ 0x78 ∷ 0xaa ∷ 0xbb ∷ 0x4b
    ∷ []

abbrev verdicts : List Judged
verdicts =
    Unreadable R5 1 ∷ Dirty ∷ Dirty ∷ Longer 2 ∷ Longer 1 ∷ Longer 1 ∷ Clean ∷ Clean ∷ Clean ∷ Clean ∷ []

pub example_verdicts : judgements sample ≡ verdicts
unfolding verdicts_of judged judge_read least_bytes read duration compact header packet_at packet_length readings_in next_record record_from before record_bytes
example_verdicts = refl

-- a line each, "unreadable 5 1" first, and "total unreadable 1", "total dirty 2", "total longer 3", "total clean 4"
abbrev lines : List ℕ
lines =
    117 ∷ 110 ∷ 114 ∷ 101 ∷ 97 ∷ 100 ∷ 97 ∷ 98 ∷ 108 ∷ 101 ∷ 32 ∷ 53 ∷ 32 ∷ 49 ∷ 10 ∷ 100 ∷ 105 ∷ 114 ∷ 116 ∷ 121
    ∷ 10 ∷ 100 ∷ 105 ∷ 114 ∷ 116 ∷ 121
    ∷ 10 ∷ 108 ∷ 111 ∷ 110 ∷ 103 ∷ 101 ∷ 114 ∷ 32 ∷ 50 ∷ 10 ∷ 108 ∷ 111 ∷ 110 ∷ 103 ∷ 101 ∷ 114 ∷ 32 ∷ 49 ∷ 10 ∷ 108
    ∷ 111 ∷ 110 ∷ 103 ∷ 101 ∷ 114
    ∷ 32 ∷ 49 ∷ 10 ∷ 99 ∷ 108 ∷ 101 ∷ 97 ∷ 110 ∷ 10 ∷ 99 ∷ 108 ∷ 101 ∷ 97 ∷ 110 ∷ 10 ∷ 99 ∷ 108 ∷ 101 ∷ 97 ∷ 110
    ∷ 10 ∷ 99 ∷ 108 ∷ 101 ∷ 97 ∷ 110
    ∷ 10 ∷ 116 ∷ 111 ∷ 116 ∷ 97 ∷ 108 ∷ 32 ∷ 117 ∷ 110 ∷ 114 ∷ 101 ∷ 97 ∷ 100 ∷ 97 ∷ 98 ∷ 108 ∷ 101 ∷ 32 ∷ 49 ∷ 10
    ∷ 116 ∷ 111 ∷ 116 ∷ 97 ∷ 108 ∷ 32
    ∷ 100 ∷ 105 ∷ 114 ∷ 116 ∷ 121 ∷ 32 ∷ 50 ∷ 10 ∷ 116 ∷ 111 ∷ 116 ∷ 97 ∷ 108 ∷ 32 ∷ 108 ∷ 111 ∷ 110 ∷ 103 ∷ 101
    ∷ 114 ∷ 32 ∷ 51 ∷ 10 ∷ 116 ∷ 111
    ∷ 116 ∷ 97 ∷ 108 ∷ 32 ∷ 99 ∷ 108 ∷ 101 ∷ 97 ∷ 110 ∷ 32 ∷ 52 ∷ 10 ∷ []

pub example_lines : verdict_lines verdicts ++ totals (tally_of verdicts) ≡ lines
unfolding verdict_lines verdict_line totals
    decimal places
example_lines = refl

pub example_text : judge_text sample ≡ lines
example_text = text_read sample (omega arith) ∙ rw example_verdicts example_lines

-- by parts, through 90 bytes: one or two lines at a time, then the totals
pub example_parts : printed 12 sample 0 none 90 ≡ lines
unfolding printed part_from lines_in verdict_line totals
    decimal places judged judge_read least_bytes read duration compact header packet_at packet_length next_record record_from before record_bytes
example_parts = refl

-- an empty capture has four totals of 0
empty_verdicts : judgements [] ≡ []
unfolding verdicts_of readings_in next_record record_from before packet_length
empty_verdicts = refl

empty_lines : verdict_lines [] ++ totals (tally_of [])
    ≡
    116 ∷ 111 ∷ 116 ∷ 97 ∷ 108 ∷ 32 ∷ 117 ∷ 110 ∷ 114 ∷ 101 ∷ 97 ∷ 100 ∷ 97 ∷ 98 ∷ 108 ∷ 101 ∷ 32 ∷ 48 ∷ 10 ∷ 116
    ∷ 111 ∷ 116 ∷ 97 ∷ 108 ∷ 32 ∷ 100
    ∷ 105 ∷ 114 ∷ 116 ∷ 121 ∷ 32 ∷ 48 ∷ 10 ∷ 116 ∷ 111 ∷ 116 ∷ 97 ∷ 108 ∷ 32 ∷ 108 ∷ 111 ∷ 110 ∷ 103 ∷ 101 ∷ 114
    ∷ 32 ∷ 48 ∷ 10 ∷ 116 ∷ 111 ∷ 116
    ∷ 97 ∷ 108 ∷ 32 ∷ 99 ∷ 108 ∷ 101 ∷ 97 ∷ 110 ∷ 32 ∷ 48 ∷ 10 ∷ []
unfolding verdict_lines totals decimal places
empty_lines = refl

pub empty_text : judge_text []
    ≡
    116 ∷ 111 ∷ 116 ∷ 97 ∷ 108 ∷ 32 ∷ 117 ∷ 110 ∷ 114 ∷ 101 ∷ 97 ∷ 100 ∷ 97 ∷ 98 ∷ 108 ∷ 101 ∷ 32 ∷ 48 ∷ 10 ∷ 116
    ∷ 111 ∷ 116 ∷ 97 ∷ 108 ∷ 32 ∷ 100
    ∷ 105 ∷ 114 ∷ 116 ∷ 121 ∷ 32 ∷ 48 ∷ 10 ∷ 116 ∷ 111 ∷ 116 ∷ 97 ∷ 108 ∷ 32 ∷ 108 ∷ 111 ∷ 110 ∷ 103 ∷ 101 ∷ 114
    ∷ 32 ∷ 48 ∷ 10 ∷ 116 ∷ 111 ∷ 116
    ∷ 97 ∷ 108 ∷ 32 ∷ 99 ∷ 108 ∷ 101 ∷ 97 ∷ 110 ∷ 32 ∷ 48 ∷ 10 ∷ []
empty_text = text_read [] (omega arith) ∙ rw empty_verdicts empty_lines
