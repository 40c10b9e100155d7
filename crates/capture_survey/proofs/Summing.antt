-- The survey of a capture by its records, and of a file by its parts.
--     of_entries, entries-append     the survey of records
--     by_records                    that of a capture is that of its records, and of the bytes that belong to none
--     by_parts                      that of parts is that of all their records
--     entries_many, entries-bytes, entries_verdicts, verdicts_all     its counts
--     reclaimed_whole               the bytes that compaction reclaims
-- Assumes nothing.
use Prim.Native.Nat.{ℕ, ◌+◌, ◌*◌, ◌≤◌}
use native.Mathlib.Nat.{add-zero, zero-add, add_assoc}
use native.Mathlib.Omega.{arith}
use mathlib.Core.Path.{◌≡◌, refl, sym, ap, ◌∙◌}
use mathlib.Core.List.{List, [], ◌∷◌, ◌++◌, map}
use mathlib.Core.Bool.{false}
use lib.Dec.{eqb}
use lib.ListN.{length, length-append}
use borrow.Author.Tests.{eqb-true, eqb-false}
use Rattle.laws.specs.Bytes.{Bytes}
use Rattle.laws.proofs.Never.{by_test}
use Rattle.capture.specs.Records.{Entry, written, file_of}
use Rattle.capture.specs.Finding.{packet_at, next_record}
use Rattle.capture.specs.Reading.{behind, readings, entries, records_in, records_of, passed_in, passed_of}
use Rattle.capture.specs.declared.NextRecord.{NextRecord}
use Rattle.capture.proofs.Files.{file_none, file_one}
use Rattle.capture.proofs.Written.{written-length}
use Rattle.capture.proofs.Packets.{packet_bytes}
use Rattle.capture.proofs.Steps.{reading_induction}
use Rattle.capture.proofs.Held.{records_none, records_one, records_end, passed_one, passed_end, records_are, passed_are}
use Rattle.capture_window.specs.Parts.{records_of_all, passed_of_all}
use Rattle.packet_judge.specs.Judging.{judged}
use Rattle.packet_judge.specs.Tallies.{tally_of, none, tallied, plus, sum_of}
use Rattle.packet_judge.specs.declared.Judged.{Judged}
use Rattle.packet_judge.proofs.Tallying.{Unrefused, four_sum, plus-next, plus_start}
use Rattle.compaction.specs.Lossless.{StandAll}
use Rattle.compaction.proofs.Entries.{next-length}
use Rattle.compaction.proofs.Whole.{whole, whole_none, whole_one, whole_end}
use Rattle.capture_survey.specs.Survey.{of_record, of_passed, together, counted, survey_of, survey_of_all}
use Rattle.capture_survey.specs.declared.Survey.{Survey}
use Rattle.capture_survey.proofs.Savings.{saved_is, never_refused}
use Rattle.capture_survey.proofs.Counting.{none-together, together-all, counted_none, counted_one, counted_end}

-- ---- of records
pub of_entries : List Entry → Survey
of_entries [] = of_passed 0
of_entries (e ∷ es) = together (of_record 0 e.packet) (of_entries es)

pub entries-append : (xs ys : List Entry) → of_entries (xs ++ ys) ≡ together (of_entries xs) (of_entries ys)
unfolding of_entries
entries-append [] ys = sym (none-together (of_entries ys))
entries-append (e ∷ xs) ys = rw (entries-append xs ys) (sym (together-all (of_record 0 e.packet) (of_entries xs) (of_entries ys)))

-- bytes passed over may be counted at any place
passed_anywhere : (n m : ℕ) (t : Survey) → together (of_passed n) (together t (of_passed m)) ≡ together t (of_passed (n + m))
passed_anywhere n m t =
    let e : n + (t.passed + m) ≡ t.passed + (n + m) = omega arith in
    simp (zero-add, add-zero, e)

record_anywhere : (n m : ℕ) (p : List ℕ) (t : Survey)
    → together (of_record n p) (together t (of_passed m)) ≡ together (together (of_record 0 p) t) (of_passed (n + m))
record_anywhere n m p t =
    let e : n + (t.passed + m) ≡ t.passed + (n + m) = omega arith in
    simp (zero-add, add-zero, add_assoc, e)

by_answers : (s : List ℕ) (r : List NextRecord) → counted s r ≡ together (of_entries (entries s (records_in r))) (of_passed (passed_in r))
unfolding of_entries
by_answers s [] = rw (counted_end s, records_end, passed_end) (sym (none-together (of_passed 0)))
by_answers s (a ∷ r) =
    by_test (eqb a.length 0)
    (λ t. let z = eqb-true a.length 0 t in
    rw (counted_none s a r z, by_answers s r, records_none a r z, passed_one a r)
    (passed_anywhere a.passed (passed_in r) (of_entries (entries s (records_in r)))))
    (λ t. let f = eqb-false a.length 0 t in
    rw (counted_one s a r f, by_answers s r, records_one a r f, passed_one a r)
    (record_anywhere a.passed (passed_in r) (packet_at s a.place) (of_entries (entries s (records_in r)))))

pub by_records : (s : List ℕ) → survey_of s ≡ together (of_entries (records_of s)) (of_passed (passed_of s))
unfolding survey_of
by_records s = rw (records_are s, passed_are s) (by_answers s (readings s 0))

-- ---- of parts
swap : (t u : Survey) (n m : ℕ) → together (together t (of_passed n)) (together u (of_passed m)) ≡ together (together t u) (of_passed (n + m))
swap t u n m =
    let e : t.passed + n + (u.passed + m) ≡ t.passed + u.passed + (n + m) = omega arith in
    simp (add-zero, e)

pub by_parts : (ps : List (List ℕ)) → survey_of_all ps ≡ together (of_entries (records_of_all ps)) (of_passed (passed_of_all ps))
unfolding survey_of_all records_of_all passed_of_all of_entries
by_parts [] = sym (none-together (of_passed 0))
by_parts (p ∷ ps) =
    rw (by_records p, by_parts ps, entries-append (records_of p) (records_of_all ps))
    (swap (of_entries (records_of p)) (of_entries (records_of_all ps)) (passed_of p) (passed_of_all ps))

-- ---- its counts
pub entries_many : (es : List Entry) → ((of_entries es).records ≡ length es) × ((of_entries es).passed ≡ 0)
    × (length (file_of es) ≡ 5 * length es + (of_entries es).packets)
unfolding of_entries
entries_many [] = (refl, refl, ap length file_none)
entries_many (e ∷ es) =
    let k = entries_many es in
    let file = ap length (file_one e es) ∙ length-append (written e) (file_of es) in
    (omega (arith, k.0), omega (arith, k.1), omega (arith, file, written-length e, k.2))

-- the verdict on the packet of a record
abbrev pub verdict_on : Entry → Judged
verdict_on e = judged false e.packet

pub entries_verdicts : (es : List Entry) → (of_entries es).verdicts ≡ tally_of (map verdict_on es)
unfolding of_entries
entries_verdicts [] = refl
entries_verdicts (e ∷ es) =
    ap (plus (tallied (verdict_on e) none)) (entries_verdicts es)
    ∙ (sym (plus-next (verdict_on e) none (map verdict_on es)) ∙ plus_start (tally_of (verdict_on e ∷ map verdict_on es)))

none_refused : (s : List ℕ) → Bytes s → (ds : List NextRecord) → StandAll s ds → Unrefused (map verdict_on (entries s ds))
none_refused s bytes [] h = tt
none_refused s bytes (a ∷ ds) h =
    (never_refused (packet_at s a.place) h.0.0.most (packet_bytes s a.place bytes), none_refused s bytes ds h.1)

pub verdicts_all : (s : List ℕ) → Bytes s → (ds : List NextRecord) → StandAll s ds
    → sum_of (tally_of (map verdict_on (entries s ds))) ≡ length (map verdict_on (entries s ds))
verdicts_all s bytes ds h = four_sum (map verdict_on (entries s ds)) (none_refused s bytes ds h)

-- ---- what compaction reclaims
pub reclaimed_whole : (s : List ℕ) (at : ℕ) → at ≤ length s → (whole s (readings s at)).reclaimed ≡ (counted s (readings s at)).reclaimable
reclaimed_whole s =
    reading_induction s (λ at r. (whole s r).reclaimed ≡ (counted s r).reclaimable)
    (λ at h z. let a = next_record s at in rw (whole_none s a [] z, whole_end s, counted_none s a [] z, counted_end s))
    (λ at h f more.
    let a = next_record s at in
    let p = packet_at s a.place in
    rw (whole_one s a (readings s (behind a)) f, counted_one s a (readings s (behind a)) f) (omega (arith, more, saved_is p, next-length s at h f)))
