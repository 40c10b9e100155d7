-- What is said of a buffer in which a part of the text stands.
--     closed_open, closing_room, closed-done     lines that are to be gone on with, and those behind which the totals stand
--     ends_read, ends_small, refused_line, refused_room, ends_refused     a part: closed lines, nothing, or the refusal
--     Going, going_start, going_less, going_on     a buffer that is used for part after part
-- Assumes nothing.
use Prim.Native.Nat.{ℕ, ◌+◌, ◌≤◌, ◌<◌}
use native.Mathlib.Omega.{arith}
use mathlib.Core.Path.{◌≡◌, refl, sym, ap, ◌∙◌}
use mathlib.Core.List.{List, append-nil}
use mathlib.Core.Bool.{Bool, true, false}
use lib.IntN.{ℤ}
use lib.ListN.{length, length-append}
use lib.Seq.{sets, length-sets}
use mir.Syntax.{w32}
use mir.Val.{to_z, of_z}
use Rattle.io.specs.Counts.{IsPrefixLen}
use Rattle.opus_defines.specs.Numbers.{refusal_number}
use Rattle.opus_defines.specs.declared.Refusal.TheVariants.{BadArg}
use Rattle.opus_defines.proofs.Others.{refusal_passed}
use Rattle.captures_text.specs.Lines.{most_capture}
use Rattle.show.specs.Text.{refusal}
use Rattle.show.proofs.Laid.{Laid, front_counts, front_laid, laid_then}
use Rattle.show.proofs.Refusals.{refusal_most}
use Rattle.packet_judge.specs.Tallies.{none}
use Rattle.judge_text.specs.Text.{totals, part_most, Part, stop, over, then_text, lines_in, ending, closed, part_from, lines_of}
use Rattle.packet_judge.specs.declared.Tally.{Tally}
use Rattle.judge_text.specs.declared.Lines.{Lines}
use Rattle.judge_text.proofs.Parts.{Fine, part-read, part-full, part_refused, part_fine, left, part_moves}

-- over l the part q was put: d is what stands there now, and r is what is answered
abbrev pub Closed : List ℕ → Part → List ℕ → Lines → Type 0
Closed l q d r = (d ≡ sets l 0 q.text) × ((r ≡ lines_of q) × (r.bytes ≤ length l))

module _ (l d : List ℕ) (q : Part) (r : Lines) (b : d ≡ sets l 0 q.text) (e : r ≡ lines_of q)
    (h : r.bytes + length (ending r.done r.tally) ≤ length l) where
  same-done : (v : Bool) → r.done ≡ v → q.done ≡ v
  same-done v w = sym (ap (λ (x : Lines). x.done) e) ∙ w

  pub closed_open : r.done ≡ false → Closed l (closed q) d r
  closed_open v =
      let e' = rw (same-done false v) at e in
      rw (same-done false v, append-nil) (b, (e', omega arith))

  module _ (v : r.done ≡ true) where
    room : r.bytes + length (totals r.tally) ≤ length l
    room = rw v at h

    pub closing_room : r.bytes + length (totals r.tally) ≤ length d
    closing_room = omega (arith, room, ap length b ∙ length-sets l 0 q.text)

    pub closed-done : {d' : List ℕ} {n : ℕ} → d' ≡ sets d r.bytes (totals r.tally) → n ≡ r.bytes + length (totals r.tally)
        → Closed l (closed q) d' (record { bytes = n; next = r.next; tally = r.tally; done = true })
    closed-done {d'} {n} c m =
        let w : Laid d (length q.text) (totals q.tally) d' n = record { bytes = rw e at c; place = rw e at m } in
        let k = laid_then (front_laid l q.text b refl) (totals q.tally) w in
        let count : n ≡ length q.text + length (totals q.tally) = rw e at m in
        rw (same-done true v)
        (k.bytes, (rw (e, length-append q.text (totals q.tally), count), omega (arith, room)))

module _ (s : List ℕ) (at : ℕ) (t : Tally) (l : List ℕ) where
  abbrev Said : List ℕ → Lines → Type 0
  Said d r = let p = part_from s at t (length l) in (d ≡ sets l 0 p.text) × ((r ≡ lines_of p) × IsPrefixLen r.bytes d)

  ends_as : (p : Part) {d : List ℕ} {r : Lines} → part_from s at t (length l) ≡ p → Closed l p d r → Said d r
  ends_as p {d} {r} e c =
      let count : r.bytes ≡ length p.text = ap (λ (x : Lines). x.bytes) c.1.0 in
      let room : length p.text ≤ length l = omega (arith, c.1.1) in
      rw e (c.0, (c.1.0, rw (c.0, count) (front_counts l p.text room)))

  pub ends_read : length s ≤ most_capture → {d : List ℕ} {r : Lines} → Closed l (closed (lines_in (length s) s at t (length l))) d r → Said d r
  ends_read h c = ends_as (closed (lines_in (length s) s at t (length l))) (part-read s at t (length l) h) c

  pub ends_small : most_capture < length s → length l < part_most → Said l (record { bytes = 0; next = at; tally = t; done = false })
  ends_small h k = ends_as (stop at t) (part-full s at t (length l) h k) (refl, (refl, omega arith))

  -- the refusal's number x, as a call is passed it
  module _ (k : part_most ≤ length l) (x : ℤ) (e : x ≡ refusal_number BadArg) where
    number_is : to_z w32 (of_z w32 x) ≡ refusal_number BadArg
    number_is = rw e (refusal_passed BadArg)

    pub refused_line : length (refusal (to_z w32 (of_z w32 x))) ≤ part_most
    refused_line = rw number_is (omega (arith, refusal_most BadArg))

    pub refused_room : length (refusal (to_z w32 (of_z w32 x))) ≤ length l
    refused_room = omega (arith, refused_line)

    pub ends_refused : most_capture < length s → {d : List ℕ} {n : ℕ} → d ≡ sets l 0 (refusal (to_z w32 (of_z w32 x)))
        → n ≡ length (refusal (to_z w32 (of_z w32 x))) → Said d (record { bytes = n; next = length s; tally = t; done = true })
    ends_refused h b c =
        ends_as (then_text (over s t) (refusal (refusal_number BadArg))) (part_refused s at t (length l) h k)
        (rw number_is at b, (rw (c, number_is), omega (arith, refused_room)))

-- ---- part after part, through a buffer with room for the longest
pub record Going (s l : List ℕ) (at : ℕ) (t : Tally) : Type 0 where
  pub long : length l ≡ 4096
  pub fine : Fine s at t

pub going_start : (s l : List ℕ) → length l ≡ 4096 → Going s l 0 none
going_start s l h = record { long = h; fine = record { inside = omega arith; few = omega arith } }

module _ {s l : List ℕ} {at : ℕ} {t : Tally} (g : Going s l at t) {r : Lines} (e : r ≡ lines_of (part_from s at t (length l))) where
  pub going_less : left s r.done r.next < left s false at
  going_less = rw e (part_moves s at t (length l) (omega (arith, g.long)) g.fine)

  pub going_on : {d : List ℕ} → d ≡ sets l 0 (part_from s at t (length l)).text → Going s d r.next r.tally
  going_on b =
      record {
        long = ap length b ∙ (length-sets l 0 (part_from s at t (length l)).text ∙ g.long);
        fine = rw e (part_fine s at t (length l) g.fine);
      }
