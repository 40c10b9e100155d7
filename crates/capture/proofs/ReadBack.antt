-- A file of records, one right behind another, is read as those records.
-- Assumes nothing.
use mathlib.Core.Path.{◌≡◌, sym, ap, ◌∙◌}
use mathlib.Core.List.{List, [], ◌∷◌, ◌++◌, append_assoc, append-nil}
use Prim.Native.Nat.{ℕ, ◌+◌, ◌≤◌}
use native.Mathlib.Nat.{add-zero}
use native.Mathlib.Omega.{arith}
use lib.ListN.{length, length-append}
use lib.Seq.{drop-append_seam, drop-length}
use Rattle.std.specs.Prelude.{Ok}
use Rattle.capture.specs.declared.NextRecord.{NextRecord}
use Rattle.capture.specs.Records.{Entry, Holds, written, file_of, HoldAll}
use Rattle.capture.specs.Finding.{packet_length, before, record_from, next_record}
use Rattle.capture.specs.Reading.{behind, readings, answers_for}
use Rattle.capture.proofs.Laws.{before_here, next_is}
use Rattle.capture.proofs.Answers.{all_bytes}
use Rattle.capture.proofs.Steps.{readings_end, readings_on}
use Rattle.capture.proofs.Written.{written-length, written_found, written_line}

-- the answer for a record, with nothing passed over
abbrev answer_of : ℕ → Entry → NextRecord
answer_of at e = record { verdict = Ok tt; line = e.line; place = at; length = length e.packet; passed = 0 }

-- the end of a file
end_next : (s : List ℕ) → next_record s (length s) ≡ record { verdict = Ok tt; line = 0; place = length s; length = 0; passed = 0 }
unfolding record_from before packet_length
end_next s = rw (next_is s (length s) (omega arith), drop-length, add-zero, drop-length)

-- a record behind the bytes p, and anything behind it
module _ (p : List ℕ) (e : Entry) (rest : List ℕ) (h : Holds e) where
  some_length : length e.packet ≡ 0 → ⊥
  some_length z = omega (arith, h.some)

  inside : length p ≤ length (p ++ (written e ++ rest))
  inside = omega (arith, length-append p (written e ++ rest))

  record_next : next_record (p ++ (written e ++ rest)) (length p) ≡ answer_of (length p) e
  unfolding record_from
  record_next =
      let l = written e ++ rest in
      let here : before l ≡ 0 = before_here l (λ z. some_length (sym (written_found e rest) ∙ z)) in
      rw (next_is (p ++ l) (length p) inside, drop-append_seam p l, here, add-zero, drop-append_seam p l, written_found e rest, written_line e rest)

  record_behind : behind (answer_of (length p) e) ≡ length (p ++ written e)
  record_behind = omega (arith, all_bytes (answer_of (length p) e) some_length, length-append p (written e), written-length e)

  record_on : readings (p ++ (written e ++ rest)) (length p)
      ≡ answer_of (length p) e ∷ readings (p ++ written e ++ rest) (length (p ++ written e))
  record_on =
      let r = readings_on (p ++ (written e ++ rest)) (length p) inside (rw record_next some_length) in
      rw (append_assoc p (written e) rest, ← record_behind) (rw record_next at r)

pub back_from : (p : List ℕ) (es : List Entry) → HoldAll es → readings (p ++ file_of es) (length p) ≡ answers_for (length p) es
unfolding file_of answers_for
back_from p [] h = rw (append-nil p) (readings_end p (length p) (rw (end_next p)) ∙ rw (end_next p))
back_from p (e ∷ es) h =
    let next : length (p ++ written e) ≡ length p + (5 + length e.packet) = omega (arith, length-append p (written e), written-length e) in
    record_on p e (file_of es) h.0 ∙ ap (λ (r : List NextRecord). answer_of (length p) e ∷ r) (back_from (p ++ written e) es h.1 ∙ rw next)
