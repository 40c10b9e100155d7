-- The lines of all the records from a place on.
--     text_none, text_more     no record, and a record
--     text_parts               the lines that have room, and then the others
-- Assumes nothing.
use Prim.Native.Nat.{ℕ, zero, suc, ◌-◌, ◌≤◌}
use native.Mathlib.Omega.{arith}
use mathlib.Core.Path.{◌≡◌, ◌∙◌}
use mathlib.Core.List.{List, [], ◌++◌, append_assoc}
use lib.ListN.{length}
use borrow.Author.Tests.{eq-eqb, ne_eqb}
use Rattle.capture.specs.Finding.{next_record}
use Rattle.capture.specs.Reading.{behind, readings}
use Rattle.captures_text.specs.Lines.{record_line, record_lines, lines_in}
use Rattle.capture.proofs.Answers.{found, none-behind}
use Rattle.capture.proofs.Steps.{readings_end, readings_on}
use Rattle.captures_text.proofs.Parts.{by_turn, lines_end, lines_full, lines_none, lines_more}

module _ (s : List ℕ) (at : ℕ) where
  text_none : (next_record s at).length ≡ 0 → record_lines (readings s at) ≡ []
  unfolding record_lines
  text_none z = rw (readings_end s at z) (simp (eq-eqb (next_record s at).length 0 z))

  text_more : ((next_record s at).length ≡ 0 → ⊥)
      → record_lines (readings s at) ≡ record_line (next_record s at) ++ record_lines (readings s (behind (next_record s at)))
  unfolding record_lines
  text_more f = rw (readings_on s at (found s at f).asked f) (simp (ne_eqb (next_record s at).length 0 f))

pub text_end : (s : List ℕ) (at : ℕ) → length s ≤ at → record_lines (readings s at) ≡ []
text_end s at h = text_none s at (none-behind s at h)

-- by the bytes left
parts_in : (left : ℕ) (s : List ℕ) (at room : ℕ) → at ≤ length s → length s - at ≤ left
    → record_lines (readings s at) ≡ (lines_in (length s) s at room).text ++ record_lines (readings s (lines_in (length s) s at room).next)
parts_in zero s at room i h =
    rw (lines_end (length s) s at room (omega arith), text_end s at (omega arith), text_end s (length s) (omega arith))
parts_in (suc left) s at room i h =
    by_turn s at room (λ t. rw (lines_full (length s) s at room t))
    (λ t z. rw (lines_none (length s) s at room t z, text_none s at z, text_end s (length s) (omega arith)))
    (λ t n.
    let a = next_record s at in
    let r = found s at n in
    let others = parts_in left s (behind a) (room - length (record_line a)) r.inside (omega (arith, r.from, r.some, r.next)) in
    text_more s at n ∙ rw (lines_more s at room t n, append_assoc, ← others))

pub text_parts : (s : List ℕ) (at room : ℕ) → at ≤ length s
    → record_lines (readings s at) ≡ (lines_in (length s) s at room).text ++ record_lines (readings s (lines_in (length s) s at room).next)
text_parts s at room i = parts_in (length s) s at room i (omega arith)
