-- What the program promises (document 02, M-110): the parts that it writes, one behind another, are the whole text; a verdict a record, and totals that count
-- them.
-- Assumes nothing.
use Prim.Native.Nat.{ℕ, zero, suc, ◌+◌, ◌-◌, ◌≤◌, ◌<◌}
use native.Mathlib.Nat.{add-zero}
use native.Mathlib.Omega.{arith}
use mathlib.Core.Path.{◌≡◌, refl, sym, ap, ◌∙◌}
use mathlib.Core.List.{List, [], ◌∷◌, ◌++◌, append-nil}
use mathlib.Core.Bool.{Bool, true, false, cond}
use lib.Dec.{leb}
use lib.IntN.{negsuc}
use lib.ListN.{length}
use borrow.Author.Tests.{leb-true, leb-false, le-leb, lt-leb}
use Rattle.laws.proofs.Never.{by_test}
use Rattle.packet_judge.specs.declared.Judged.{Judged}
use Rattle.capture.specs.Reading.{readings}
use Rattle.captures_text.specs.Lines.{most_capture}
use Rattle.show.specs.Text.{refusal}
use Rattle.packet_judge.specs.Tallies.{how_many, tally_of, none, sum_of, plus}
use Rattle.judge_text.specs.Text.{verdict_line, verdict_lines, totals, judgements, judge_text, part_most, part_from, printed}
use Rattle.packet_judge.specs.declared.Tally.{Tally}
use Rattle.judge_text.proofs.Line.{Small, line_most_lem, totals_most}
use Rattle.packet_judge.proofs.Tallying.{how_many-append, Unrefused, four_sum, plus_start}
use Rattle.judge_text.proofs.Parts.{Fine, part-read, part_refused, part_fine, part_moves}
use Rattle.judge_text.proofs.Readings.{verdicts_unrefused, verdicts_count, rest_text, text_parts}

-- ---- the parts from a place on
printed_more : (most : ℕ) (s : List ℕ) (at : ℕ) (t : Tally) (room : ℕ)
    → let p = part_from s at t room in printed (suc most) s at t room ≡ p.text ++ cond p.done [] (printed most s p.next p.tally room)
unfolding printed
printed_more most s at t room = refl

-- what is behind a part counts where it is not the last
same-behind : (done : Bool) (l x y : List ℕ) → (done ≡ false → x ≡ y) → l ++ cond done [] x ≡ l ++ cond done [] y
same-behind true l x y e = refl
same-behind false l x y e = ap (λ r. l ++ r) (e refl)

printed_lines : (most : ℕ) (s : List ℕ) (at : ℕ) (t : Tally) (room : ℕ) → part_most ≤ room → length s ≤ most_capture → Fine s at t
    → suc (length s) - at ≤ most → printed most s at t room ≡ rest_text s at t
printed_lines zero s at t room h short f k = absurd (omega (arith, f.inside))
printed_lines (suc most) s at t room h short f k =
    let p = part_from s at t room in
    let whole : rest_text s at t ≡ p.text ++ cond p.done [] (rest_text s p.next p.tally) =
    rw (part-read s at t room short) (text_parts s at t room) in
    printed_more most s at t room
    ∙ (same-behind p.done p.text (printed most s p.next p.tally room) (rest_text s p.next p.tally)
    (λ d.
    let moved = rw d at (part_moves s at t room h f) in
    printed_lines most s p.next p.tally room h short (part_fine s at t room f) (omega arith))
    ∙ sym whole)

-- ---- the whole
-- a capture of at most 65,536 bytes is a line for the verdict on each record that is read from its front, and the totals,
pub text_read : (s : List ℕ) → length s ≤ 65536 → judge_text s ≡ verdict_lines (judgements s) ++ totals (tally_of (judgements s))
unfolding judge_text
text_read s h = simp (le-leb (length s) most_capture h)

-- a longer one is `refused -1`
pub text_refused : (s : List ℕ) → 65536 < length s → judge_text s ≡ refusal (negsuc 0)
unfolding judge_text
text_refused s h = simp (lt-leb (length s) most_capture h)

printed-read : (s : List ℕ) (room : ℕ) → part_most ≤ room → length s ≤ most_capture → printed (suc (length s)) s 0 none room ≡ judge_text s
printed-read s room h short =
    let from : Fine s 0 none = record { inside = omega arith; few = omega arith } in
    let sum : totals (plus none (tally_of (judgements s))) ≡ totals (tally_of (judgements s)) = ap totals (plus_start (tally_of (judgements s))) in
    printed_lines (suc (length s)) s 0 none room h short from (omega arith)
    ∙ (ap (λ l. verdict_lines (judgements s) ++ l) sum ∙ sym (text_read s short))

printed_refused : (s : List ℕ) (room : ℕ) → part_most ≤ room → most_capture < length s → printed (suc (length s)) s 0 none room ≡ judge_text s
printed_refused s room h long =
    printed_more (length s) s 0 none room ∙ rw (part_refused s 0 none room long h, append-nil) (sym (text_refused s long))

-- any buffer of 78 bytes or more will do
pub the_parts_are_the_text : (s : List ℕ) (room : ℕ) → 78 ≤ room → printed (suc (length s)) s 0 none room ≡ judge_text s
the_parts_are_the_text s room h =
    by_test (leb (length s) most_capture) (λ t. printed-read s room h (leb-true (length s) most_capture t))
    (λ t. printed_refused s room h (leb-false (length s) most_capture t))

-- since no line is longer than 19 bytes, and the totals are no longer than 78, where their numbers have at most 5 digits
pub lines_are_short : ((j : Judged) → Small j → length (verdict_line j) ≤ 19) × ((t : Tally) → sum_of t < 100000 → length (totals t) ≤ 78)
lines_are_short = (line_most_lem, totals_most)

-- ---- the totals
-- each is how many verdicts are of its kind, counted one by one
pub how_many_counts : (kind : Judged → Bool)
    → (how_many kind [] ≡ 0) × ((j : Judged) → how_many kind (j ∷ []) ≡ cond (kind j) 1 0)
    × ((js ks : List Judged) → how_many kind (js ++ ks) ≡ how_many kind js + how_many kind ks)
how_many_counts kind = (refl, (λ j. add-zero (cond (kind j) 1 0)), how_many-append kind)

-- There is a verdict for each record: the last of the answers that are read says that there is none. No verdict is a refusal, so that the four totals
-- together are the records.
pub a_verdict_a_record : (s : List ℕ) → suc (length (judgements s)) ≡ length (readings s 0)
a_verdict_a_record s = verdicts_count s 0 (omega arith)

pub no_record_is_refused : (s : List ℕ) → length s ≤ 65536 → Unrefused (judgements s)
no_record_is_refused s h = verdicts_unrefused s h 0 (omega arith)

pub totals_are_the_records : (s : List ℕ) → length s ≤ 65536 → suc (sum_of (tally_of (judgements s))) ≡ length (readings s 0)
totals_are_the_records s h = ap suc (four_sum (judgements s) (no_record_is_refused s h)) ∙ a_verdict_a_record s
