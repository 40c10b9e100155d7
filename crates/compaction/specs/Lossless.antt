-- What it means that nothing is lost: records as they stand in the capture, packets that say the same, and records that do (beyond document 02, M-103).
use Rattle.std.specs.Prelude.{ℕ, ◌+◌, ◌≡◌, List, [], ◌∷◌, false, drop}
use Rattle.blocks.specs.Blocks.{part}
use Rattle.opus_defines.specs.declared.Rule.{Rule}
use Rattle.opus_toc.specs.Toc.{upper_six}
use Rattle.opus_format.specs.Frames.{cut}
use Rattle.opus_format.specs.Reading.{refused, accepted, read}
use Rattle.capture.specs.Records.{Entry, Holds, head_bytes, written}
use Rattle.capture.specs.Reading.{entry_of}
use Rattle.capture.specs.declared.NextRecord.{NextRecord}

-- the record of each answer has 1 to 65,535 bytes of packet, and is what stands in the capture at the answer's place, byte for byte
abbrev pub StandAll : List ℕ → List NextRecord → Type 0
StandAll s [] = Unit {0}
StandAll s (a ∷ more) = (Holds (entry_of s a) × (written (entry_of s a) ≡ part s a.place (head_bytes + a.length))) × StandAll s more

-- q says what p says: the same frames and upper six TOC bits, or, where p cannot be read, the same bytes
pub data Same (p q : List ℕ) : Type 0 where
  alike : (toc : ℕ) (ns : List ℕ) (first taken : ℕ) (toc' : ℕ) (ns' : List ℕ) (first' taken' : ℕ)
      → read false p ≡ accepted toc ns first taken → read false q ≡ accepted toc' ns' first' taken'
      → upper_six toc' ≡ upper_six toc → cut ns' (drop first' q) ≡ cut ns (drop first p) → Same p q
  kept : (rule : Rule) (place : ℕ) → read false p ≡ refused rule place → q ≡ p → Same p q

-- as many records, in the same order, with the same lines, whose packets say the same
pub data Faithful : List Entry → List Entry → Type 0 where
  none : Faithful [] []
  one : {e f : Entry} {es fs : List Entry} → f.line ≡ e.line → Same e.packet f.packet → Faithful es fs → Faithful (e ∷ es) (f ∷ fs)
