-- The verdicts on all the records from a place on, and their text.
--     verdicts_none, verdicts_more     no record, and a record
--     verdicts_unrefused, verdicts_count     none of them is a refusal, and there is one for each record
--     rest_text, rest_none, rest_more   the text from a place on, with the verdicts before it
--     text_parts                       the lines that have room, and then the others
-- Assumes nothing.
use Prim.Native.Nat.{ℕ, zero, suc, ◌-◌, ◌≤◌}
use native.Mathlib.Omega.{arith}
use mathlib.Core.Path.{◌≡◌, sym, ap, ◌∙◌}
use mathlib.Core.List.{List, [], ◌∷◌, ◌++◌, append_assoc, append-nil}
use mathlib.Core.Bool.{cond}
use lib.ListN.{length}
use borrow.Author.Tests.{eq-eqb, ne_eqb}
use Rattle.capture.specs.Finding.{next_record}
use Rattle.capture.specs.Reading.{behind, readings}
use Rattle.capture.specs.declared.NextRecord.{NextRecord}
use Rattle.capture.proofs.Answers.{found, none-behind}
use Rattle.capture.proofs.Steps.{readings_end, readings_on, reading_induction}
use Rattle.captures_text.specs.Lines.{most_capture}
use Rattle.packet_judge.specs.Tallies.{tally_of, tallied, plus}
use Rattle.judge_text.specs.Text.{verdict_line, verdict_lines, totals, verdict_of, verdicts_of, part_most, Part, with_line, lines_in, ending, closed}
use Rattle.packet_judge.specs.declared.Tally.{Tally}
use Rattle.packet_judge.proofs.Tallying.{Unrefused, plus-next, plus_end}
use Rattle.judge_text.proofs.Records.{never_refused}
use Rattle.judge_text.proofs.Parts.{by_turn, verdict_from, lines_full, lines_none, lines_more}

-- ---- verdicts
verdicts_end : (s : List ℕ) (a : NextRecord) → a.length ≡ 0 → verdicts_of s (a ∷ []) ≡ []
unfolding verdicts_of
verdicts_end s a z = simp (eq-eqb a.length 0 z)

verdicts_on : (s : List ℕ) (a : NextRecord) (more : List NextRecord) → (a.length ≡ 0 → ⊥)
    → verdicts_of s (a ∷ more) ≡ verdict_of s a ∷ verdicts_of s more
unfolding verdicts_of
verdicts_on s a more f = simp (ne_eqb a.length 0 f)

module _ (s : List ℕ) (at : ℕ) where
  verdicts_none : (next_record s at).length ≡ 0 → verdicts_of s (readings s at) ≡ []
  verdicts_none z = rw (readings_end s at z) (verdicts_end s (next_record s at) z)

  verdicts_more : ((next_record s at).length ≡ 0 → ⊥)
      → verdicts_of s (readings s at) ≡ verdict_from s at ∷ verdicts_of s (readings s (behind (next_record s at)))
  verdicts_more f =
      rw (readings_on s at (found s at f).asked f) (verdicts_on s (next_record s at) (readings s (behind (next_record s at))) f)

pub verdicts_unrefused : (s : List ℕ) → length s ≤ most_capture → (at : ℕ) → at ≤ length s → Unrefused (verdicts_of s (readings s at))
verdicts_unrefused s short =
    reading_induction s (λ at r. Unrefused (verdicts_of s r)) (λ at h z. rw (verdicts_end s (next_record s at) z) tt)
    (λ at h f rest.
    rw (verdicts_on s (next_record s at) (readings s (behind (next_record s at))) f) (never_refused s (next_record s at).place short, rest))

-- the last of the answers says that there is no record
pub verdicts_count : (s : List ℕ) (at : ℕ) → at ≤ length s → suc (length (verdicts_of s (readings s at))) ≡ length (readings s at)
verdicts_count s =
    reading_induction s (λ at r. suc (length (verdicts_of s r)) ≡ length r) (λ at h z. rw (verdicts_end s (next_record s at) z))
    (λ at h f rest. rw (verdicts_on s (next_record s at) (readings s (behind (next_record s at))) f) (ap suc rest))

-- ---- the text
abbrev pub rest_text : List ℕ → ℕ → Tally → List ℕ
rest_text s at t = let js = verdicts_of s (readings s at) in verdict_lines js ++ totals (plus t (tally_of js))

pub rest_none : (s : List ℕ) (at : ℕ) (t : Tally) → (next_record s at).length ≡ 0 → rest_text s at t ≡ totals t
unfolding verdict_lines
rest_none s at t z = rw (verdicts_none s at z) (ap totals (plus_end t))

pub rest_more : (s : List ℕ) (at : ℕ) (t : Tally) → ((next_record s at).length ≡ 0 → ⊥)
    → rest_text s at t ≡ verdict_line (verdict_from s at) ++ rest_text s (behind (next_record s at)) (tallied (verdict_from s at) t)
unfolding verdict_lines
rest_more s at t f =
    let js = verdicts_of s (readings s (behind (next_record s at))) in
    rw (verdicts_more s at f, plus-next (verdict_from s at) t js, append_assoc)

-- a part, and what is behind it
abbrev pub then_rest : List ℕ → Part → List ℕ
then_rest s p = (closed p).text ++ cond p.done [] (rest_text s p.next p.tally)

rest_line : (s l : List ℕ) (p : Part) → l ++ then_rest s p ≡ then_rest s (with_line l p)
rest_line s l p =
    rw (append_assoc l p.text (ending p.done p.tally))
    (sym (append_assoc l (closed p).text (cond p.done [] (rest_text s p.next p.tally))))

-- where there is no line
no_line : {P : Type 0} (s : List ℕ) (at : ℕ) (t : Tally) (room : ℕ) → (rest_text s at t ≡ then_rest s (lines_in (length s) s at t room) → P)
    → (part_most ≤ room → ((next_record s at).length ≡ 0 → ⊥) → P) → P
no_line s at t room same line =
    by_turn s at room (λ h. same (rw (lines_full (length s) s at t room h)))
    (λ h z. same (rw (lines_none (length s) s at t room h z, append-nil) (rest_none s at t z))) line

-- by the bytes left
parts_in : (left : ℕ) (s : List ℕ) (at : ℕ) (t : Tally) (room : ℕ) → length s - at ≤ left
    → rest_text s at t ≡ then_rest s (lines_in (length s) s at t room)
parts_in zero s at t room h = no_line s at t room (λ e. e) (λ k n. absurd (n (none-behind s at (omega arith))))
parts_in (suc left) s at t room h =
    no_line s at t room (λ e. e)
    (λ k n.
    let a = next_record s at in
    let j = verdict_from s at in
    let w = found s at n in
    let less = room - length (verdict_line j) in
    let others = parts_in left s (behind a) (tallied j t) less (omega (arith, w.from, w.some, w.next)) in
    rw (lines_more s at t room k n)
    (rest_more s at t n
    ∙ (ap (λ l. verdict_line j ++ l) others ∙ rest_line s (verdict_line j) (lines_in (length s) s (behind a) (tallied j t) less))))

pub text_parts : (s : List ℕ) (at : ℕ) (t : Tally) (room : ℕ) → rest_text s at t ≡ then_rest s (lines_in (length s) s at t room)
text_parts s at t room = parts_in (length s) s at t room (omega arith)
