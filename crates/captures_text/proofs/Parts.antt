-- The text of a capture's records by parts.
--     by_turn                                no room for a line, no record, or a record
--     lines_end .. lines_more                what the lines from a place on are then
--     same_lines                             the bound on their number does not count where it is no less than the bytes left
--     lines_within, part_moves               the place from which to go on
--     part-read, part-full, part_refused     a part of a capture that is read, and of one that is too long
-- Assumes nothing.
use Prim.Native.Nat.{ℕ, zero, suc, ◌-◌, ◌≤◌, ◌<◌}
use native.Mathlib.Omega.{arith}
use mathlib.Core.Path.{◌≡◌, sym, ◌∙◌}
use mathlib.Core.List.{List, []}
use lib.Dec.{eqb, leb, ltb}
use lib.ListN.{length}
use borrow.Author.Tests.{ltb-true, ltb-false, eqb-true, eqb-false, leb-true, leb-false, lt-ltb, le-ltb, le-leb, lt-leb, eq-eqb, ne_eqb}
use Rattle.laws.proofs.Never.{by_test}
use Rattle.opus_defines.specs.Numbers.{refusal_number}
use Rattle.opus_defines.specs.declared.Refusal.TheVariants.{BadArg}
use Rattle.capture.specs.Finding.{next_record}
use Rattle.capture.specs.Reading.{behind}
use Rattle.show.specs.Text.{refusal}
use Rattle.captures_text.specs.Lines.{most_capture, line_most, record_line, Part, with_line, lines_in, part_from}
use Rattle.capture.proofs.Answers.{found, none-behind}

-- no text, and where to go on
abbrev pub stop : ℕ → Part
stop n = record { next = n; text = [] }

-- one of the three holds
pub by_turn : {P : Type 0} (s : List ℕ) (at room : ℕ) → (room < line_most → P) → (line_most ≤ room → (next_record s at).length ≡ 0 → P)
    → (line_most ≤ room → ((next_record s at).length ≡ 0 → ⊥) → P) → P
by_turn s at room f g h =
    by_test (ltb room line_most) (λ t. f (ltb-true room line_most t))
    (λ t. by_test (eqb (next_record s at).length 0) (λ u. g (ltb-false room line_most t) (eqb-true (next_record s at).length 0 u))
    (λ u. h (ltb-false room line_most t) (eqb-false (next_record s at).length 0 u)))

-- ---- what the lines from a place on are
pub lines_full : (most : ℕ) (s : List ℕ) (at room : ℕ) → room < line_most → lines_in most s at room ≡ stop at
unfolding lines_in
lines_full zero s at room h = simp (lt-ltb room line_most h)
lines_full (suc most) s at room h = simp (lt-ltb room line_most h)

zero_end : (s : List ℕ) (at room : ℕ) → line_most ≤ room → lines_in zero s at room ≡ stop (length s)
unfolding lines_in
zero_end s at room h = simp (le-ltb room line_most h)

pub lines_none : (most : ℕ) (s : List ℕ) (at room : ℕ) → line_most ≤ room → (next_record s at).length ≡ 0
    → lines_in most s at room ≡ stop (length s)
unfolding lines_in
lines_none zero s at room h z = zero_end s at room h
lines_none (suc most) s at room h z = simp (le-ltb room line_most h, eq-eqb (next_record s at).length 0 z)

line_and_more : (most : ℕ) (s : List ℕ) (at room : ℕ) → line_most ≤ room → ((next_record s at).length ≡ 0 → ⊥)
    → lines_in (suc most) s at room
    ≡ with_line (record_line (next_record s at)) (lines_in most s (behind (next_record s at)) (room - length (record_line (next_record s at))))
unfolding lines_in
line_and_more most s at room h f = simp (le-ltb room line_most h, ne_eqb (next_record s at).length 0 f)

-- at the end there is no line
pub lines_end : (most : ℕ) (s : List ℕ) (at room : ℕ) → at ≡ length s → lines_in most s at room ≡ stop (length s)
lines_end most s at room e =
    by_turn s at room (λ h. rw (← e) (lines_full most s at room h)) (λ h z. lines_none most s at room h z)
    (λ h f. absurd (f (none-behind s at (omega arith))))

-- where there is no line, the bound does not count
both_stop : {P : Type 0} (f g : ℕ) (s : List ℕ) (at room : ℕ) → (lines_in f s at room ≡ lines_in g s at room → P)
    → (line_most ≤ room → ((next_record s at).length ≡ 0 → ⊥) → P) → P
both_stop f g s at room same line =
    by_turn s at room (λ t. same (lines_full f s at room t ∙ sym (lines_full g s at room t)))
    (λ t z. same (lines_none f s at room t z ∙ sym (lines_none g s at room t z))) line

pub same_lines : (f g : ℕ) (s : List ℕ) (at room : ℕ) → length s - at ≤ f → length s - at ≤ g → lines_in f s at room ≡ lines_in g s at room
same_lines zero g s at room h k = both_stop zero g s at room (λ e. e) (λ t n. absurd (n (none-behind s at (omega arith))))
same_lines (suc f) zero s at room h k = both_stop (suc f) zero s at room (λ e. e) (λ t n. absurd (n (none-behind s at (omega arith))))
same_lines (suc f) (suc g) s at room h k =
    both_stop (suc f) (suc g) s at room (λ e. e)
    (λ t n.
    let a = next_record s at in
    let r = found s at n in
    let left = room - length (record_line a) in
    let e : lines_in f s (behind a) left ≡ lines_in g s (behind a) left =
    same_lines f g s (behind a) left (omega (arith, r.from, r.some, r.next)) (omega (arith, r.from, r.some, r.next)) in
    line_and_more f s at room t n ∙ rw e (sym (line_and_more g s at room t n)))

-- as many lines as the capture has bytes
pub lines_more : (s : List ℕ) (at room : ℕ) → line_most ≤ room → ((next_record s at).length ≡ 0 → ⊥)
    → lines_in (length s) s at room
    ≡ with_line (record_line (next_record s at)) (lines_in (length s) s (behind (next_record s at)) (room - length (record_line (next_record s at))))
lines_more s at room h n =
    same_lines (length s) (suc (length s)) s at room (omega arith) (omega arith) ∙ line_and_more (length s) s at room h n

-- ---- the place from which to go on
pub lines_within : (most : ℕ) (s : List ℕ) (at room : ℕ) → at ≤ length s
    → (at ≤ (lines_in most s at room).next) × ((lines_in most s at room).next ≤ length s)
lines_within zero s at room h =
    by_test (ltb room line_most) (λ t. rw (lines_full zero s at room (ltb-true room line_most t)) (omega arith, h))
    (λ t. rw (zero_end s at room (ltb-false room line_most t)) (h, omega arith))
lines_within (suc most) s at room h =
    by_turn s at room (λ t. rw (lines_full (suc most) s at room t) (omega arith, h)) (λ t z. rw (lines_none (suc most) s at room t z) (h, omega arith))
    (λ t n.
    let a = next_record s at in
    let r = found s at n in
    let w = lines_within most s (behind a) (room - length (record_line a)) r.inside in
    rw (line_and_more most s at room t n) (omega (arith, w.0, r.from, r.next), w.1))

lines_move : (s : List ℕ) (at room : ℕ) → line_most ≤ room → at < length s
    → (at < (lines_in (length s) s at room).next) × ((lines_in (length s) s at room).next ≤ length s)
lines_move s at room h i =
    by_turn s at room (λ t. absurd (omega arith)) (λ t z. rw (lines_none (length s) s at room t z) (i, omega arith))
    (λ t n.
    let a = next_record s at in
    let r = found s at n in
    let w = lines_within (length s) s (behind a) (room - length (record_line a)) r.inside in
    rw (lines_more s at room t n) (omega (arith, w.0, r.from, r.some, r.next), w.1))

-- ---- a part
module _ (s : List ℕ) (at room : ℕ) where
  pub part-read : length s ≤ most_capture → part_from s at room ≡ lines_in (length s) s at room
  unfolding part_from
  part-read h = simp (le-leb (length s) most_capture h)

  pub part-full : most_capture < length s → room < line_most → part_from s at room ≡ stop at
  unfolding part_from
  part-full h k = simp (lt-leb (length s) most_capture h, lt-ltb room line_most k)

  pub part_refused : most_capture < length s → line_most ≤ room → part_from s at room ≡ record { next = length s; text = refusal (refusal_number BadArg) }
  unfolding part_from
  part_refused h k = simp (lt-leb (length s) most_capture h, le-ltb room line_most k)

  pub part_moves : line_most ≤ room → at < length s → (at < (part_from s at room).next) × ((part_from s at room).next ≤ length s)
  part_moves h i =
      by_test (leb (length s) most_capture) (λ t. rw (part-read (leb-true (length s) most_capture t)) (lines_move s at room h i))
      (λ t. rw (part_refused (leb-false (length s) most_capture t) h) (i, omega arith))
