-- Document 01, 'Cases at the edges': those on lengths and on reading. Each is what a definition gives, and what the document says.
-- Later crates add theirs to this list, so that one statement covers all of them.
use Rattle.std.specs.Prelude.{ℕ, ◌-◌, List, [], ◌∷◌, ◌++◌, true, false, pos, negsuc, length, replicate}
use Rattle.opus_defines.specs.Numbers.{plain}
use Rattle.opus_defines.specs.Outcome.{Outcome}
use Rattle.opus_defines.specs.declared.Refusal.{Refusal}
use Rattle.opus_defines.specs.declared.Refusal.TheVariants.{Unreadable}
use Rattle.opus_defines.specs.declared.Report.{Report}
use Rattle.opus_defines.specs.declared.Rule.{Rule}
use Rattle.opus_defines.specs.declared.Rule.TheVariants.{R1, R2, R3, R4, R5, R6, R7, R8}
use Rattle.std.specs.Prelude.{Result, Ok, Err}
use Rattle.opus_toc.specs.Toc.{configuration, duration}
use Rattle.opus_size.specs.Size.{length_field}
use Rattle.opus_size.specs.Answers.{encode_size}
use Rattle.opus.specs.Answers.{parsed, packet_report}
use Rattle.opus.specs.declared.Packet.{Packet}

-- what a case shows
pub data Shown : Type 0 where
  field : List ℕ → Shown
  packet : Report → Result Packet Refusal → Shown
  tenths : ℕ → Shown
  outcome : Outcome → Shown

pub record Case : Type 0 where
  pub gives : Shown
  pub says : Shown

abbrev pub shows : Shown → Shown → Case
shows given said = record { gives = given; says = said }

-- what reading answers: the number that the call returns, with rule and place, and the record
abbrev pub reading : Result Packet Refusal → Shown
reading p = packet (packet_report p) p

-- how long each frame of an accepted packet lasts
abbrev pub each_lasts : Result Packet Refusal → Shown
each_lasts (Ok p) = tenths (duration (configuration p.toc))
each_lasts (Err e) = reading (Err e)

-- a packet that is read: TOC byte, lengths and zeros past the count, first frame's place, bytes taken
abbrev pub read_as : ℕ → List ℕ → ℕ → ℕ → Shown
read_as toc ns first taken =
    packet (plain (pos (length ns)))
    (Ok (record { toc = toc; count = length ns; lengths = ns ++ replicate (48 - length ns) 0; first = first; taken = taken }))

-- -4, the rule that is broken with its number, and the place
abbrev pub invalid : ℕ → Rule → ℕ → Shown
invalid n rule place =
    packet (record { number = negsuc 3; rule = n; place = place }) (Err (Unreadable rule place))

abbrev pub reading_cases : List Case
reading_cases =
    shows (field (length_field 251)) (field (0xfb ∷ []))
    ∷ shows (field (length_field 252)) (field (0xfc ∷ 0 ∷ []))
    ∷ shows (field (length_field 1275)) (field (0xff ∷ 0xff ∷ []))
    ∷ shows (outcome (encode_size (pos 1276) (238 ∷ 238 ∷ []))) (outcome (record { report = plain (negsuc 0); bytes = 238 ∷ 238 ∷ [] }))
    ∷ shows (reading (parsed false [])) (invalid 1 R1 0)
    ∷ shows (reading (parsed false (0 ∷ []))) (read_as 0 (0 ∷ []) 1 1)
    ∷ shows (reading (parsed false (0x01 ∷ 0xaa ∷ []))) (invalid 3 R3 0)
    ∷ shows (reading (parsed false (0x1b ∷ 0x02 ∷ []))) (read_as 0x1b (0 ∷ 0 ∷ []) 2 2)
    ∷ shows (each_lasts (parsed false (0x1b ∷ 0x02 ∷ []))) (tenths 600)
    ∷ shows (reading (parsed false (0x1b ∷ 0x03 ∷ []))) (invalid 5 R5 1)
    ∷ shows (reading (parsed false (0x83 ∷ 0x30 ∷ []))) (read_as 0x83 (replicate 48 0) 2 2)
    ∷ shows (reading (parsed false (0x83 ∷ 0x31 ∷ []))) (invalid 5 R5 1)
    ∷ shows (reading (parsed false (0x03 ∷ 0x00 ∷ []))) (invalid 5 R5 1)
    ∷ shows (reading (parsed false (0x03 ∷ 0x41 ∷ 0x00 ∷ []))) (read_as 0x03 (0 ∷ []) 3 3)
    ∷ shows (reading (parsed false (0x03 ∷ 0x41 ∷ 0x01 ∷ []))) (invalid 6 R6 2)
    ∷ shows (reading (parsed false (0x03 ∷ 0x02 ∷ 0xaa ∷ 0xbb ∷ []))) (read_as 0x03 (1 ∷ 1 ∷ []) 2 4)
    ∷ shows (reading (parsed true (0x00 ∷ 0x01 ∷ 0xaa ∷ 0x55 ∷ []))) (read_as 0x00 (1 ∷ []) 2 3)
    ∷ []

-- document 02, M-100: the rule and the place of what breaks
abbrev pub place_cases : List Case
place_cases =
    -- a missing count byte; padding that does not fit, with equal and with unequal lengths
    shows (reading (parsed false (0x03 ∷ []))) (invalid 5 R5 1)
    ∷ shows (reading (parsed false (0x03 ∷ 0x41 ∷ 0x02 ∷ 0xaa ∷ []))) (invalid 6 R6 2)
    ∷ shows (reading (parsed false (0x03 ∷ 0xc2 ∷ 0x05 ∷ 0x01 ∷ []))) (invalid 7 R7 2)
    -- a length above what stands behind it, lengths too long only together, a length that is not there
    ∷ shows (reading (parsed false (0x03 ∷ 0x83 ∷ 0x05 ∷ 0x00 ∷ []))) (invalid 7 R7 2)
    ∷ shows (reading (parsed false (0x03 ∷ 0x83 ∷ 0x01 ∷ 0x01 ∷ 0xaa ∷ []))) (invalid 7 R7 4)
    ∷ shows (reading (parsed false (0x03 ∷ 0x82 ∷ 0x01 ∷ []))) (invalid 7 R7 2)
    ∷ shows (reading (parsed false (0x02 ∷ 0x02 ∷ 0xaa ∷ []))) (invalid 4 R4 1)
    -- a rest that does not divide, and an implied frame above 1275 bytes: behind the last field read
    ∷ shows (reading (parsed false (0x03 ∷ 0x42 ∷ 0x01 ∷ 0xaa ∷ 0x00 ∷ []))) (invalid 6 R6 3)
    ∷ shows (reading (parsed false (0x02 ∷ 0xfc ∷ 0x00 ∷ replicate 1528 0))) (invalid 2 R2 3)
    -- a bad last length in the self-delimited form, too long by itself and only together with the others
    ∷ shows (reading (parsed true (0x00 ∷ 0x02 ∷ 0xaa ∷ []))) (invalid 8 R8 1)
    ∷ shows (reading (parsed true (0x03 ∷ 0x82 ∷ 0x01 ∷ 0x01 ∷ 0xaa ∷ []))) (invalid 8 R8 3)
    ∷ []
