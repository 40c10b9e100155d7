-- A capture that was compacted, compacted again: nothing changes.
--     settled, all_settled     a record that was rewritten is rewritten to itself
--     file_again               a call with ample budget on a file of such records
-- Assumes nothing.
use Prim.Native.Nat.{ℕ, ◌+◌, ◌≤◌}
use native.Mathlib.Omega.{arith}
use mathlib.Core.Path.{◌≡◌, refl, ap, ◌∙◌}
use mathlib.Core.List.{List, [], ◌∷◌, ◌++◌, append_assoc, map}
use lib.ListN.{length, length-append}
use lib.Seq.{sets}
use Rattle.laws.specs.Bytes.{Bytes}
use Rattle.std.specs.Prelude.{Ok}
use Rattle.capture.specs.Records.{Entry, written, file_of, HoldAll}
use Rattle.capture.specs.Reading.{readings, answers_for, entry_of, entries, records_in}
use Rattle.capture.specs.declared.NextRecord.{NextRecord}
use Rattle.capture.proofs.Packets.{packet_bytes}
use Rattle.capture.proofs.Files.{file_none, file_one, answers_none, answers_one}
use Rattle.capture.proofs.Written.{written-length}
use Rattle.capture.proofs.Promises.{records_read_back}
use Rattle.spelling.proofs.Laws.{again}
use Rattle.compaction.specs.Account.{rewritten, size, output}
use Rattle.compaction.specs.Share.{night, share, leaves}
use Rattle.compaction.proofs.Going.{same-account}
use Rattle.compaction.proofs.Whole.{whole, whole_end, whole_none, whole_one}
use Rattle.compaction.proofs.Joining.{one_share, one_left}
use Rattle.compaction.proofs.Faithful.{packet_back, entries_back}

-- ---- records that are rewritten to themselves
abbrev pub Settled : List Entry → Type 0
Settled [] = Unit {0}
Settled (e ∷ es) = (rewritten e ≡ e) × Settled es

pub settled : (s : List ℕ) → Bytes s → (ds : List NextRecord) → Settled (map rewritten (entries s ds))
settled s bytes [] = tt
settled s bytes (a ∷ ds) =
    let e = entry_of s a in
    (rw (again e.packet 65535 (packet_bytes s a.place bytes)), settled s bytes ds)

all_settled : (es : List Entry) → Settled es → map rewritten es ≡ es
all_settled [] h = refl
all_settled (e ∷ es) h = rw (h.0, all_settled es h.1)

-- ---- the account of such a file
whole_from : (p : List ℕ) (es : List Entry) → HoldAll es → Settled es
    → whole (p ++ file_of es) (answers_for (length p) es)
    ≡ record { records = length es; written = length (file_of es); reclaimed = 0; passed = 0 }
whole_from p [] h k =
    let a : NextRecord = record { verdict = Ok tt; line = 0; place = length p; length = 0; passed = 0 } in
    rw (file_none, answers_none (length p)) (whole_none (p ++ []) a [] refl ∙ rw (whole_end (p ++ [])))
whole_from p (e ∷ es) h k =
    let a : NextRecord = record { verdict = Ok tt; line = e.line; place = length p; length = length e.packet; passed = 0 } in
    let s = p ++ (written e ++ file_of es) in
    let some : length e.packet ≡ 0 → ⊥ = λ z. omega (arith, h.0.some) in
    let place : length p + (5 + length e.packet) ≡ length (p ++ written e) = omega (arith, length-append p (written e), written-length e) in
    let own : size s a ≡ 5 + length e.packet =
    ap (λ (q : List ℕ). 5 + length (rewritten (record { line = e.line; packet = q })).packet) (packet_back p e (file_of es))
    ∙ ap (λ (f : Entry). 5 + length f.packet) k.0 in
    let rest : whole s (answers_for (length p + (5 + length e.packet)) es)
    ≡ record { records = length es; written = length (file_of es); reclaimed = 0; passed = 0 } =
    rw (place, ← append_assoc p (written e) (file_of es)) (whole_from (p ++ written e) es h.1 k.1) in
    rw (file_one e es, answers_one (length p) e es)
    (whole_one s a (answers_for (length p + (5 + length e.packet)) es) some
    ∙ rw rest (same-account (omega arith) (omega (arith, own, length-append (written e) (file_of es), written-length e)) (omega (arith, own)) (omega arith)))

-- ---- a call on it
module _ (es : List Entry) (h : HoldAll es) (k : Settled es) where
  writes_itself : output (file_of es) (records_in (readings (file_of es) 0)) ≡ file_of es
  writes_itself = ap (λ (l : List Entry). file_of (map rewritten l)) (entries_back es h) ∙ ap file_of (all_settled es k)

  counts_itself : whole (file_of es) (readings (file_of es) 0) ≡ record { records = length es; written = length (file_of es); reclaimed = 0; passed = 0 }
  counts_itself = ap (whole (file_of es)) (records_read_back es h) ∙ whole_from [] es h k

  pub file_again : (room budget : ℕ) → length (file_of es) ≤ budget → budget ≤ room
      → let n = night (file_of es) 0 room budget in
      (share (file_of es) n
      ≡ Ok (record { resume = length (file_of es); records = length es; written = length (file_of es); reclaimed = 0; passed = 0 }))
      × ((dst : List ℕ) → leaves (file_of es) dst n ≡ sets dst 0 (file_of es))
  file_again room budget fits roomy =
      let s = file_of es in
      let m : length (output s (records_in (readings s 0))) ≤ budget = rw writes_itself fits in
      let inside : 0 ≤ length s = omega arith in (
        one_share s 0 room budget inside roomy m (record { records = length es; written = length s; reclaimed = 0; passed = 0 }) counts_itself,
        λ dst. one_left s 0 room budget inside roomy m dst ∙ ap (sets dst 0) writes_itself,
      )
