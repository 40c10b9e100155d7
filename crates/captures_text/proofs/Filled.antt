-- A buffer that is filled with lines: of some records they are put; the start, a turn, and the ends.
-- Assumes nothing.
use Prim.Native.Nat.{ℕ, ◌+◌, ◌-◌, ◌≤◌, ◌<◌}
use native.Mathlib.Omega.{arith}
use mathlib.Core.Path.{◌≡◌, refl, ap, ◌∙◌}
use mathlib.Core.List.{List, [], ◌++◌, append_assoc, append-nil}
use lib.ListN.{length}
use lib.Seq.{sets, length-sets}
use Rattle.capture.specs.Finding.{next_record}
use Rattle.capture.specs.Reading.{behind}
use Rattle.capture.specs.declared.NextRecord.{NextRecord}
use Rattle.show.proofs.Laid.{Laid, laid_then}
use Rattle.captures_text.specs.Lines.{most_capture, line_most, record_line, with_line, lines_in}
use Rattle.capture.proofs.Answers.{Found, found}
use Rattle.captures_text.proofs.Line.{line_most_lem}
use Rattle.captures_text.proofs.Parts.{stop, lines_full, lines_none, lines_more}

-- of the lines of s from `start` on those before `at` are put over l: d is what stands there now, n are its bytes
pub record Filled (s : List ℕ) (start : ℕ) (l d : List ℕ) (at n : ℕ) : Type 0 where
  pub done : List ℕ
  pub laid : Laid l 0 done d n
  pub within : n ≤ length l
  pub rest : lines_in (length s) s start (length l) ≡ with_line done (lines_in (length s) s at (length l - n))

pub filled_start : (s : List ℕ) (start : ℕ) (l : List ℕ) → Filled s start l l start 0
filled_start s start l =
    record {
      done = [];
      laid = record { bytes = refl; place = omega arith };
      within = omega arith;
      rest = let e : length l - 0 ≡ length l = omega arith in rw e;
    }

module _ {s : List ℕ} {start : ℕ} {l d : List ℕ} {at n : ℕ} (p : Filled s start l d at n) where
  pub filled-length : length d ≡ length l
  filled-length = ap length p.laid.bytes ∙ length-sets l 0 p.done

  -- ---- a turn
  module _ (a : NextRecord) (e : a ≡ next_record s at) (f : a.length ≡ 0 → ⊥) where
    turn_found : Found s at a
    turn_found = rw e (found s at (rw e at f))

    pub turn_inside : a.place + 5 + a.length ≤ length s
    turn_inside = omega (arith, turn_found.inside, turn_found.next)

    pub turn_less : length s - (a.place + 5 + a.length) < length s - at
    turn_less = omega (arith, turn_inside, turn_found.from)

    module _ (short : length s ≤ most_capture) (byte : a.line < 256) (h : line_most ≤ length d - n) where
      pub turn_most : length (record_line a) ≤ line_most
      turn_most = line_most_lem a byte (omega (arith, turn_inside, turn_found.some)) (omega (arith, turn_inside))

      turn_line : length (record_line a) ≤ length l - n
      turn_line = omega (arith, filled-length, turn_most)

      pub turn_room : n + length (record_line a) ≤ length d
      turn_room = omega (arith, turn_line, filled-length, p.within)

      pub filled_more : {d' : List ℕ} {n' : ℕ} → Laid d n (record_line a) d' n' → Filled s start l d' (a.place + 5 + a.length) n'
      filled_more {n' = n'} k =
          let room = length l - n in
          let left : room - length (record_line a) ≡ length l - n' = omega (arith, k.place) in
          let step : lines_in (length s) s at room ≡ with_line (record_line a) (lines_in (length s) s (behind a) (room - length (record_line a))) =
          rw e (lines_more s at room (omega (arith, filled-length)) (rw e at f)) in
          record {
            done = p.done ++ record_line a;
            laid = laid_then p.laid (record_line a) k;
            within = omega (arith, turn_line, k.place, p.within);
            rest = p.rest ∙ rw (step, left, turn_found.next, append_assoc);
          }

  -- ---- the end: d and n are the text of all lines and its length, and the next place is t
  abbrev Lines : ℕ → Type 0
  Lines t = let q = lines_in (length s) s start (length l) in (d ≡ sets l 0 q.text) × ((n ≡ length q.text) × ((t ≡ q.next) × (n ≤ length l)))

  ends : (t : ℕ) → lines_in (length s) s at (length l - n) ≡ stop t → Lines t
  ends t e =
      let whole : lines_in (length s) s start (length l) ≡ record { next = t; text = p.done } = p.rest ∙ rw (e, append-nil) in
      rw whole (p.laid.bytes, (omega (arith, p.laid.place), (refl, p.within)))

  pub ends_none : (a : NextRecord) → a ≡ next_record s at → a.length ≡ 0 → line_most ≤ length d - n → Lines (length s)
  ends_none a e z h = ends (length s) (lines_none (length s) s at (length l - n) (omega (arith, filled-length)) (rw e at z))

  pub ends_full : length d - n < line_most → Lines at
  ends_full h = ends at (lines_full (length s) s at (length l - n) (omega (arith, filled-length)))

-- what the goals of `record_lines` need
pub ruleset filling = (filled_start, filled-length, turn_inside, turn_less, turn_most, turn_room, filled_more, ends_none, ends_full)
