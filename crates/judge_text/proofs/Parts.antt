-- The text of a capture's verdicts by parts.
--     by_turn                                no room, no record, or a record
--     lines_full, lines_none, lines_more     what the lines from a place on are then
--     same_lines                             the bound on their number does not count where it is no less than the bytes left
--     Fine, lines-fine                       the place from which to go on, and the verdicts before it
--     part-read, part-full, part_refused     a part of a capture that is read, and of one that is too long
--     left, part_moves                       each part moves on, or is the last
-- Assumes nothing.
use Prim.Native.Nat.{ℕ, zero, suc, ◌-◌, ◌≤◌, ◌<◌}
use native.Mathlib.Omega.{arith}
use mathlib.Core.Path.{◌≡◌, sym, ◌∙◌}
use mathlib.Core.List.{List}
use mathlib.Core.Bool.{Bool, cond}
use lib.Dec.{eqb, leb, ltb}
use lib.ListN.{length}
use borrow.Author.Tests.{ltb-true, ltb-false, eqb-true, eqb-false, leb-true, leb-false, lt-ltb, le-ltb, le-leb, lt-leb, eq-eqb, ne_eqb}
use Rattle.laws.proofs.Never.{by_test}
use Rattle.opus_defines.specs.Numbers.{refusal_number}
use Rattle.opus_defines.specs.declared.Refusal.TheVariants.{BadArg}
use Rattle.packet_judge.specs.declared.Judged.{Judged}
use Rattle.capture.specs.Finding.{next_record}
use Rattle.capture.specs.Reading.{behind}
use Rattle.capture.proofs.Answers.{found, none-behind}
use Rattle.captures_text.specs.Lines.{most_capture}
use Rattle.show.specs.Text.{refusal}
use Rattle.packet_judge.specs.Tallies.{tallied, sum_of}
use Rattle.judge_text.specs.Text.{verdict_line, verdict_of, part_most, Part, stop, over, with_line, then_text, lines_in, closed, part_from}
use Rattle.packet_judge.specs.declared.Tally.{Tally}
use Rattle.packet_judge.proofs.Tallying.{tallied_most}

-- one of the three holds
pub by_turn : {P : Type 0} (s : List ℕ) (at room : ℕ) → (room < part_most → P) → (part_most ≤ room → (next_record s at).length ≡ 0 → P)
    → (part_most ≤ room → ((next_record s at).length ≡ 0 → ⊥) → P) → P
by_turn s at room f g h =
    by_test (ltb room part_most) (λ t. f (ltb-true room part_most t))
    (λ t. by_test (eqb (next_record s at).length 0) (λ u. g (ltb-false room part_most t) (eqb-true (next_record s at).length 0 u))
    (λ u. h (ltb-false room part_most t) (eqb-false (next_record s at).length 0 u)))

-- the verdict on the next record from a place on
abbrev pub verdict_from : List ℕ → ℕ → Judged
verdict_from s at = verdict_of s (next_record s at)

-- ---- what the lines from a place on are
pub lines_full : (most : ℕ) (s : List ℕ) (at : ℕ) (t : Tally) (room : ℕ) → room < part_most → lines_in most s at t room ≡ stop at t
unfolding lines_in
lines_full zero s at t room h = simp (lt-ltb room part_most h)
lines_full (suc most) s at t room h = simp (lt-ltb room part_most h)

pub lines_none : (most : ℕ) (s : List ℕ) (at : ℕ) (t : Tally) (room : ℕ) → part_most ≤ room → (next_record s at).length ≡ 0
    → lines_in most s at t room ≡ over s t
unfolding lines_in
lines_none zero s at t room h z = simp (le-ltb room part_most h)
lines_none (suc most) s at t room h z = simp (le-ltb room part_most h, eq-eqb (next_record s at).length 0 z)

line_and_more : (most : ℕ) (s : List ℕ) (at : ℕ) (t : Tally) (room : ℕ) → part_most ≤ room → ((next_record s at).length ≡ 0 → ⊥)
    → lines_in (suc most) s at t room
    ≡ with_line (verdict_line (verdict_from s at))
    (lines_in most s (behind (next_record s at)) (tallied (verdict_from s at) t) (room - length (verdict_line (verdict_from s at))))
unfolding lines_in
line_and_more most s at t room h f = simp (le-ltb room part_most h, ne_eqb (next_record s at).length 0 f)

-- where there is no line, the bound does not count
both_stop : {P : Type 0} (f g : ℕ) (s : List ℕ) (at : ℕ) (t : Tally) (room : ℕ) → (lines_in f s at t room ≡ lines_in g s at t room → P)
    → (part_most ≤ room → ((next_record s at).length ≡ 0 → ⊥) → P) → P
both_stop f g s at t room same line =
    by_turn s at room (λ h. same (lines_full f s at t room h ∙ sym (lines_full g s at t room h)))
    (λ h z. same (lines_none f s at t room h z ∙ sym (lines_none g s at t room h z))) line

pub same_lines : (f g : ℕ) (s : List ℕ) (at : ℕ) (t : Tally) (room : ℕ) → length s - at ≤ f → length s - at ≤ g
    → lines_in f s at t room ≡ lines_in g s at t room
same_lines zero g s at t room h k = both_stop zero g s at t room (λ e. e) (λ r n. absurd (n (none-behind s at (omega arith))))
same_lines (suc f) zero s at t room h k = both_stop (suc f) zero s at t room (λ e. e) (λ r n. absurd (n (none-behind s at (omega arith))))
same_lines (suc f) (suc g) s at t room h k =
    both_stop (suc f) (suc g) s at t room (λ e. e)
    (λ r n.
    let a = next_record s at in
    let j = verdict_from s at in
    let w = found s at n in
    let less = room - length (verdict_line j) in
    let e : lines_in f s (behind a) (tallied j t) less ≡ lines_in g s (behind a) (tallied j t) less =
    same_lines f g s (behind a) (tallied j t) less (omega (arith, w.from, w.some, w.next)) (omega (arith, w.from, w.some, w.next)) in
    line_and_more f s at t room r n ∙ rw e (sym (line_and_more g s at t room r n)))

-- as many lines as the capture has bytes
pub lines_more : (s : List ℕ) (at : ℕ) (t : Tally) (room : ℕ) → part_most ≤ room → ((next_record s at).length ≡ 0 → ⊥)
    → lines_in (length s) s at t room
    ≡ with_line (verdict_line (verdict_from s at))
    (lines_in (length s) s (behind (next_record s at)) (tallied (verdict_from s at) t) (room - length (verdict_line (verdict_from s at))))
lines_more s at t room h n =
    same_lines (length s) (suc (length s)) s at t room (omega arith) (omega arith) ∙ line_and_more (length s) s at t room h n

-- ---- the place from which to go on, and the verdicts before it: a record has more than one byte
pub record Fine (s : List ℕ) (at : ℕ) (t : Tally) : Type 0 where
  pub inside : at ≤ length s
  pub few : sum_of t ≤ at

-- behind a record
pub fine_behind : (s : List ℕ) (at : ℕ) (t : Tally) → Fine s at t → ((next_record s at).length ≡ 0 → ⊥) → (j : Judged)
    → Fine s (behind (next_record s at)) (tallied j t)
fine_behind s at t f n j =
    let w = found s at n in
    record { inside = w.inside; few = omega (arith, tallied_most j t, f.few, w.from, w.some, w.next) }

-- a part is gone on with from a place that is no earlier
record Onward (s : List ℕ) (at : ℕ) (p : Part) : Type 0 where
  later : at ≤ p.next
  fine : Fine s p.next p.tally

onward_stop : (s : List ℕ) (at : ℕ) (t : Tally) → Fine s at t → Onward s at (stop at t)
onward_stop s at t f = record { later = omega arith; fine = f }

onward_over : (s : List ℕ) (at : ℕ) (t : Tally) → Fine s at t → Onward s at (over s t)
onward_over s at t f = record { later = f.inside; fine = record { inside = omega arith; few = omega (arith, f.inside, f.few) } }

lines_onward : (most : ℕ) (s : List ℕ) (at : ℕ) (t : Tally) (room : ℕ) → Fine s at t → Onward s at (lines_in most s at t room)
unfolding lines_in
lines_onward zero s at t room f =
    by_test (ltb room part_most) (λ h. rw h (onward_stop s at t f)) (λ h. rw h (onward_over s at t f))
lines_onward (suc most) s at t room f =
    by_turn s at room (λ h. rw (lines_full (suc most) s at t room h) (onward_stop s at t f))
    (λ h z. rw (lines_none (suc most) s at t room h z) (onward_over s at t f))
    (λ h n.
    let a = next_record s at in
    let j = verdict_from s at in
    let w = found s at n in
    let o = lines_onward most s (behind a) (tallied j t) (room - length (verdict_line j)) (fine_behind s at t f n j) in
    rw (line_and_more most s at t room h n) (record { later = omega (arith, o.later, w.from, w.next); fine = o.fine }))

-- ---- how far it is to the end: nothing behind the last part
abbrev pub left : List ℕ → Bool → ℕ → ℕ
left s done at = cond done 0 (suc (length s) - at)

module _ (s : List ℕ) (at : ℕ) (t : Tally) (room : ℕ) where
  lines_move : part_most ≤ room → Fine s at t → let p = lines_in (length s) s at t room in left s p.done p.next < suc (length s) - at
  lines_move h f =
      by_turn s at room (λ k. absurd (omega arith)) (λ k z. rw (lines_none (length s) s at t room k z) (omega (arith, f.inside)))
      (λ k n.
      let a = next_record s at in
      let j = verdict_from s at in
      let w = found s at n in
      let less = room - length (verdict_line j) in
      let o = lines_onward (length s) s (behind a) (tallied j t) less (fine_behind s at t f n j) in
      rw (lines_more s at t room k n)
      (by_test (lines_in (length s) s (behind a) (tallied j t) less).done (λ d. rw d (omega (arith, f.inside)))
      (λ d. rw d (omega (arith, f.inside, o.later, w.from, w.some, w.next)))))

  -- ---- a part
  pub part-read : length s ≤ most_capture → part_from s at t room ≡ closed (lines_in (length s) s at t room)
  unfolding part_from
  part-read h = simp (le-leb (length s) most_capture h)

  pub part-full : most_capture < length s → room < part_most → part_from s at t room ≡ stop at t
  unfolding part_from
  part-full h k = simp (lt-leb (length s) most_capture h, lt-ltb room part_most k)

  pub part_refused : most_capture < length s → part_most ≤ room → part_from s at t room ≡ then_text (over s t) (refusal (refusal_number BadArg))
  unfolding part_from
  part_refused h k = simp (lt-leb (length s) most_capture h, le-ltb room part_most k)

  pub part_fine : Fine s at t → Fine s (part_from s at t room).next (part_from s at t room).tally
  part_fine f =
      by_test (leb (length s) most_capture)
      (λ b. rw (part-read (leb-true (length s) most_capture b)) (lines_onward (length s) s at t room f).fine)
      (λ b.
      let long = leb-false (length s) most_capture b in
      by_test (ltb room part_most) (λ h. rw (part-full long (ltb-true room part_most h)) f)
      (λ h. rw (part_refused long (ltb-false room part_most h)) (onward_over s at t f).fine))

  pub part_moves : part_most ≤ room → Fine s at t → left s (part_from s at t room).done (part_from s at t room).next < suc (length s) - at
  part_moves h f =
      by_test (leb (length s) most_capture) (λ b. rw (part-read (leb-true (length s) most_capture b)) (lines_move h f))
      (λ b. rw (part_refused (leb-false (length s) most_capture b) h) (omega (arith, f.inside)))
