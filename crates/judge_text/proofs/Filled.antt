-- A buffer that is filled with lines: those of some records are put; the start, a turn, and the ends.
-- Assumes nothing.
use Prim.Native.Nat.{ℕ, ◌+◌, ◌-◌, ◌≤◌, ◌<◌}
use native.Mathlib.Omega.{arith}
use mathlib.Core.Path.{◌≡◌, refl, ap, ◌∙◌}
use mathlib.Core.List.{List, [], ◌++◌, append_assoc, append-nil}
use mathlib.Core.Bool.{true, false}
use lib.ListN.{length}
use lib.Seq.{sets, length-sets}
use Rattle.laws.specs.Bytes.{Bytes}
use Rattle.opus_defines.specs.declared.Refusal.{Refusal}
use Rattle.packet_judge.specs.declared.Judged.{Judged}
use Rattle.packet_judge.specs.declared.Judged.TheVariants.{Refused}
use Rattle.capture.specs.Finding.{next_record}
use Rattle.capture.specs.Reading.{behind}
use Rattle.capture.specs.declared.NextRecord.{NextRecord}
use Rattle.capture.proofs.Answers.{Found, found}
use Rattle.captures_text.specs.Lines.{most_capture}
use Rattle.show.proofs.Laid.{Laid, laid_then}
use Rattle.packet_judge.specs.Tallies.{tallied, sum_of}
use Rattle.judge_text.specs.Text.{verdict_line, verdict_of, part_most, Part, stop, over, with_line, lines_in, ending, lines_of}
use Rattle.packet_judge.specs.declared.Tally.{Tally}
use Rattle.judge_text.specs.declared.Lines.{Lines}
use Rattle.judge_text.proofs.Line.{line_most_lem, totals_most}
use Rattle.judge_text.proofs.Records.{never_refused, verdict_small}
use Rattle.judge_text.proofs.Parts.{Fine, fine_behind, lines_full, lines_none, lines_more}

-- of the lines of s from `start` on, with the verdicts t₀ before, those before `at` are put over l: d is what stands there now, n are its bytes, and t are
-- the verdicts before `at`
pub record Filled (s : List ℕ) (start : ℕ) (t₀ : Tally) (l d : List ℕ) (at n : ℕ) (t : Tally) : Type 0 where
  pub done : List ℕ
  pub laid : Laid l 0 done d n
  pub within : n ≤ length l
  pub fine : Fine s at t
  pub rest : lines_in (length s) s start t₀ (length l) ≡ with_line done (lines_in (length s) s at t (length l - n))

pub filled_start : (s : List ℕ) (start : ℕ) (t : Tally) (l : List ℕ) → start ≤ length s → sum_of t ≤ start → Filled s start t l l start 0 t
filled_start s start t l h k =
    record {
      done = [];
      laid = record { bytes = refl; place = omega arith };
      within = omega arith;
      fine = record { inside = h; few = k };
      rest = let e : length l - 0 ≡ length l = omega arith in rw e;
    }

module _ {s : List ℕ} {start : ℕ} {t₀ : Tally} {l d : List ℕ} {at n : ℕ} {t : Tally} (p : Filled s start t₀ l d at n t) where
  pub filled-length : length d ≡ length l
  filled-length = ap length p.laid.bytes ∙ length-sets l 0 p.done

  -- ---- a turn
  module _ (a : NextRecord) (e : a ≡ next_record s at) (f : a.length ≡ 0 → ⊥) where
    turn_found : Found s at a
    turn_found = rw e (found s at (rw e at f))

    pub turn_inside : a.place + 5 + a.length ≤ length s
    turn_inside = omega (arith, turn_found.inside, turn_found.next)

    pub turn_less : length s - (a.place + 5 + a.length) < length s - at
    turn_less = omega (arith, turn_inside, turn_found.from)

    module _ (short : length s ≤ most_capture) (bytes : Bytes s) (h : part_most ≤ length d - n) (j : Judged) (q : j ≡ verdict_of s a) where
      pub turn_judged : (c : Refusal) → j ≡ Refused c → ⊥
      turn_judged = rw q (never_refused s a.place short)

      pub turn_line : length (verdict_line j) ≤ 19
      turn_line = line_most_lem j (rw q (verdict_small s a.place short bytes))

      pub turn_room : n + length (verdict_line j) ≤ length d
      turn_room = omega (arith, turn_line)

      pub filled_more : {u : Tally} → u ≡ tallied j t → {d' : List ℕ} {n' : ℕ} → Laid d n (verdict_line j) d' n'
          → Filled s start t₀ l d' (a.place + 5 + a.length) n' u
      filled_more {u} v {n' = n'} k =
          let room = length l - n in
          let less : room - length (verdict_line j) ≡ length l - n' = omega (arith, k.place) in
          let step : lines_in (length s) s at t room
          ≡ with_line (verdict_line j) (lines_in (length s) s (behind a) (tallied j t) (room - length (verdict_line j))) =
          rw (q, e) (lines_more s at t room (omega (arith, filled-length)) (rw e at f)) in
          let fine : Fine s (behind a) (tallied j t) = rw e (fine_behind s at t p.fine (rw e at f) j) in
          record {
            done = p.done ++ verdict_line j;
            laid = laid_then p.laid (verdict_line j) k;
            within = omega (arith, turn_room, k.place, filled-length);
            fine = rw (v, ← turn_found.next) fine;
            rest = p.rest ∙ rw (step, less, turn_found.next, v, append_assoc);
          }

  pub turn_few : length s ≤ most_capture → sum_of t ≤ most_capture
  turn_few h = omega (arith, p.fine.few, p.fine.inside)

  -- ---- the end: d and n are the text of all lines and its length
  abbrev Ended : Lines → Type 0
  Ended r =
      let q = lines_in (length s) s start t₀ (length l) in
      (d ≡ sets l 0 q.text) × ((r ≡ lines_of q) × (r.bytes + length (ending r.done r.tally) ≤ length l))

  ends : (q : Part) → q.text ≡ [] → lines_in (length s) s at t (length l - n) ≡ q → n + length (ending q.done q.tally) ≤ length l
      → Ended (record { bytes = n; next = q.next; tally = q.tally; done = q.done })
  ends q z e h =
      let whole : lines_in (length s) s start t₀ (length l) ≡ record { next = q.next; tally = q.tally; done = q.done; text = p.done } =
      p.rest ∙ rw (e, z, append-nil) in
      let count : n ≡ length p.done = omega (arith, p.laid.place) in
      rw whole (p.laid.bytes, (rw (← count), h))

  pub ends_none : length s ≤ most_capture → (a : NextRecord) → a ≡ next_record s at → a.length ≡ 0 → part_most ≤ length d - n
      → Ended (record { bytes = n; next = length s; tally = t; done = true })
  ends_none short a e z h =
      ends (over s t) refl (lines_none (length s) s at t (length l - n) (omega (arith, filled-length)) (rw e at z))
      (omega (arith, filled-length, totals_most t (omega (arith, turn_few short))))

  pub ends_full : length d - n < part_most → Ended (record { bytes = n; next = at; tally = t; done = false })
  ends_full h = ends (stop at t) refl (lines_full (length s) s at t (length l - n) (omega (arith, filled-length))) (omega (arith, p.within))
