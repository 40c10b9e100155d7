-- Adds by computation: what an add asks before it reads, with the numbers that the calls return (document 02, M-100 and M-105).
-- Assumes nothing.
use Prim.Native.Nat.{ℕ}
use mathlib.Core.Path.{◌≡◌, refl}
use mathlib.Core.Bool.{false}
use mathlib.Core.List.{List, [], ◌∷◌, ◌++◌, map}
use lib.IntN.{pos, negsuc}
use lib.ListN.{replicate}
use Rattle.opus_defines.specs.Numbers.{plain}
use Rattle.opus_defines.specs.Rules.{rule_refusal}
use Rattle.opus_defines.specs.declared.Report.{Report}
use Rattle.opus_toc.specs.Toc.{duration, samples}
use Rattle.opus_toc.specs.Answers.{nb_frames}
use Rattle.opus_format.specs.Reading.{read}
use Rattle.opus_format.specs.Dirt.{dirty_packet}
use Rattle.packet_numbers.specs.Numbers.{numbered}
use Rattle.collector.specs.declared.OpusRepacketizer.{OpusRepacketizer}
use Rattle.collector.specs.Collector.{empty, framed, sound}
use Rattle.collector.proofs.Examples.{collector}
use Rattle.repacketizer.specs.Adding.{stays_out, added, added_strictly, added_report}

-- ---- the order in which an add asks (001): the upper six TOC bits and the joint time before the packet is read, its own time by the reader
abbrev reports : OpusRepacketizer → List (List ℕ) → List Report
reports rp ps = map (λ (p : List ℕ). added_report (added false rp p (replicate 61200 0)).answer) ps

abbrev breaks : ℕ → ℕ → Report
breaks rule place = record { number = negsuc 3; rule = rule; place = place }

-- 00 AA is held. No byte; other upper six bits, and no count byte; no count byte, no frame, 13 frames of 10 ms; 12 frames that would last 130 ms with
-- the one held, readable and not; a rest that does not halve; a packet that is taken
pub held-asks-first :
    reports (collector 0x00 1 80 (1 ∷ []))
    ([] ∷ (0x07 ∷ []) ∷ (0x03 ∷ []) ∷ (0x03 ∷ 0x00 ∷ []) ∷ (0x03 ∷ 0x0d ∷ []) ∷ (0x03 ∷ 0x0c ∷ []) ∷ (0x03 ∷ 0x0c ∷ 0xaa ∷ [])
    ∷ (0x01 ∷ 0xaa ∷ []) ∷ (0x01 ∷ []) ∷ [])
    ≡ breaks 1 0 ∷ plain (negsuc 3) ∷ breaks 5 1 ∷ breaks 5 1 ∷ breaks 5 1 ∷ plain (negsuc 3) ∷ plain (negsuc 3)
    ∷ breaks 3 0 ∷ plain (pos 0) ∷ []
unfolding added stays_out sound framed numbered samples duration nb_frames read rule_refusal
held-asks-first = refl

-- an empty collector asks nothing of a packet that the reader does not
pub empty-asks-nothing :
    reports empty ((0x07 ∷ []) ∷ (0x03 ∷ 0x0d ∷ []) ∷ (0x03 ∷ 0x0c ∷ 0xaa ∷ []) ∷ (0x03 ∷ 0x0c ∷ []) ∷ [])
    ≡ breaks 5 1 ∷ breaks 5 1 ∷ breaks 6 2 ∷ plain (pos 0) ∷ []
unfolding added stays_out sound framed numbered samples duration nb_frames read rule_refusal
empty-asks-nothing = refl

-- ---- strict adds (document 02, M-105)
abbrev strict_reports : OpusRepacketizer → List (List ℕ) → List Report
strict_reports rp ps = map (λ (p : List ℕ). added_report (added_strictly false rp p (replicate 61200 0)).answer) ps

-- To an empty collector: one padding byte, zero and not; padding that does not fit; two unequal frames and a dirty byte; a chain of 255 and 0, 254 padding
-- bytes of which the last is 1; the same with zeros; padding lengths alone are not looked at: 1 is no dirt; dirt in a frame is none.
pub strict-from-empty :
    strict_reports empty
    ((0x03 ∷ 0x41 ∷ 0x01 ∷ 0xaa ∷ 0x00 ∷ []) ∷ (0x03 ∷ 0x41 ∷ 0x01 ∷ 0xaa ∷ 0x01 ∷ []) ∷ (0x03 ∷ 0x41 ∷ 0x02 ∷ 0xaa ∷ [])
    ∷ (0x03 ∷ 0xc2 ∷ 0x01 ∷ 0x01 ∷ 0xaa ∷ 0xbb ∷ 0x07 ∷ []) ∷ (0x03 ∷ 0x41 ∷ 255 ∷ 0 ∷ 0xaa ∷ (replicate 253 0 ++ (1 ∷ [])))
    ∷ (0x03 ∷ 0x41 ∷ 255 ∷ 0 ∷ 0xaa ∷ replicate 254 0) ∷ (0x03 ∷ 0x41 ∷ 0x00 ∷ 0xaa ∷ []) ∷ (0x00 ∷ 0xaa ∷ []) ∷ [])
    ≡ plain (pos 0) ∷ plain (negsuc 19) ∷ breaks 6 2 ∷ plain (negsuc 19) ∷ plain (negsuc 19)
    ∷ plain (pos 0) ∷ plain (pos 0) ∷ plain (pos 0) ∷ []
unfolding added_strictly dirty_packet stays_out sound framed numbered samples duration nb_frames read rule_refusal
strict-from-empty = refl

-- 00 AA is held: a packet with other upper six bits, or over 120 ms with the one held, is refused as by an ordinary add, dirty or not
pub strict-asks-last :
    strict_reports (collector 0x00 1 80 (1 ∷ []))
    ((0x07 ∷ 0x41 ∷ 0x01 ∷ 0xaa ∷ 0x01 ∷ []) ∷ (0x03 ∷ 0x4c ∷ 0x01 ∷ 0x01 ∷ [])
    ∷ (0x03 ∷ 0x41 ∷ 0x01 ∷ 0xaa ∷ 0x01 ∷ []) ∷ [])
    ≡ plain (negsuc 3) ∷ plain (negsuc 3) ∷ plain (negsuc 19) ∷ []
unfolding added_strictly dirty_packet stays_out sound framed numbered samples duration nb_frames read rule_refusal
strict-asks-last = refl
