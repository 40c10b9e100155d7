-- The text that the listing program writes for a packet (document 01, 'The listing program'). 32 is a space, 10 the end of a line.
use Rattle.std.specs.Prelude.{ℕ, suc, ◌+◌, List, [], ◌∷◌, ◌++◌, false, cond, ltb, ℤ, length, drop}
use Rattle.opus_defines.specs.Bounds.{most_packet}
use Rattle.opus_defines.specs.Numbers.{refusal_report}
use Rattle.opus_defines.specs.Rules.{rule_refusal}
use Rattle.opus_defines.specs.declared.Refusal.{Refusal}
use Rattle.opus_defines.specs.declared.Refusal.TheVariants.{BadArg}
use Rattle.opus_toc.specs.Toc.{upper_six, time}
use Rattle.opus_format.specs.Frames.{cut}
use Rattle.opus_format.specs.Reading.{Reading, refused, accepted, read}
use Rattle.opus_header.specs.Compact.{compact}
use Rattle.show.specs.Text.{decimal, integer, number_line, refused_label}
use Rattle.listing_text.specs.Labels.{toc_label, count_label, time_label, payload_label, packet_label, compact_label, frame_label, at_label, length_label}

-- ---- a packet that was read
-- frame i stands at a place and has n bytes
unfoldable pub frame_line : ℕ → ℕ → ℕ → List ℕ
frame_line i at n = frame_label ++ (decimal i ++ (at_label ++ (decimal at ++ number_line length_label n)))

-- frames of these lengths from frame i on, which stands at a place; each stands right behind the one before
unfoldable pub frame_lines : ℕ → ℕ → List ℕ → List ℕ
frame_lines i at [] = []
frame_lines i at (n ∷ ns) = frame_line i at n ++ frame_lines (suc i) (at + n) ns

-- the TOC byte, how many frames, and how long they last
unfoldable pub times : ℕ → List ℕ → List ℕ
times toc ns = number_line toc_label toc ++ (number_line count_label (length ns) ++ number_line time_label (time toc (length ns)))

-- the first frame's place, the packet's bytes, and those of the compact packet
unfoldable pub sizes : ℕ → ℕ → ℕ → List ℕ
sizes first taken small = number_line payload_label first ++ (number_line packet_label taken ++ number_line compact_label small)

unfoldable pub packet_text : ℕ → List ℕ → ℕ → ℕ → ℕ → List ℕ
packet_text toc ns first taken small = times toc ns ++ (sizes first taken small ++ frame_lines 0 first ns)

-- ---- a packet that was refused (document 02, M-100)
-- the number, the rule and the place, also where rule and place are 0
unfoldable pub report_line : ℤ → ℕ → ℕ → List ℕ
report_line number rule place = refused_label ++ integer number ++ (32 ∷ decimal rule) ++ (32 ∷ decimal place) ++ (10 ∷ [])

abbrev pub refused_line : Refusal → List ℕ
refused_line e = report_line (refusal_report e).number (refusal_report e).rule (refusal_report e).place

-- ---- the listing
unfoldable pub listed : List ℕ → Reading → List ℕ
listed p (refused rule place) = refused_line (rule_refusal rule place)
listed p (accepted toc ns first taken) = packet_text toc ns first taken (length (compact false (upper_six toc) (cut ns (drop first p))))

-- above 65,535 bytes nothing is read
unfoldable pub listing : List ℕ → List ℕ
listing p = cond (ltb most_packet (length p)) (refused_line BadArg) (listed p (read false p))
