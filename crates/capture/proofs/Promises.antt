-- What a buyer may count on when a capture is read (document 02, M-101).
-- Assumes nothing.
use mathlib.Core.Path.{◌≡◌, sym, ap, ◌∙◌}
use mathlib.Core.List.{List, [], ◌∷◌, ◌++◌}
use Prim.Native.Nat.{ℕ, ◌+◌, ◌-◌, ◌≤◌, ◌<◌}
use native.Mathlib.Omega.{arith}
use lib.ListN.{length, get_or, drop}
use Rattle.laws.specs.Bytes.{Bytes}
use Rattle.capture.specs.declared.NextRecord.{NextRecord}
use Rattle.capture.specs.Records.{Entry, Holds, written, file_of, HoldAll}
use Rattle.capture.specs.Finding.{packet_length, packet_at}
use Rattle.capture.specs.Reading.{behind, begins, readings, Among, joined, PassedOver, InRecord, times_passed, times_held, answers_for}
use Rattle.capture.proofs.Written.{written_found, written_packet, found_holds, found_written}
use Rattle.capture.proofs.Answers.{none_at_end}
use Rattle.capture.proofs.Steps.{among_is}
use Rattle.capture.proofs.Whole.{join_from}
use Rattle.capture.proofs.Once.{once_from}
use Rattle.capture.proofs.Apart.{answer_nothing, answer_stands, answer_end, apart}
use Rattle.capture.proofs.Resuming.{splits, splits_behind, splits_before}
use Rattle.capture.proofs.ReadBack.{back_from}

-- ---- what a record is
-- where the definition finds a record, the bytes are those of one, and anything behind
pub what_is_found_is_written : (l : List ℕ) → Bytes l → (packet_length l ≡ 0 → ⊥)
    → let e : Entry = record { line = get_or l 2 0; packet = packet_at l 0 } in Holds e × (l ≡ written e ++ drop (length (written e)) l)
what_is_found_is_written l h f = (found_holds l h f, found_written l h f)

-- and the bytes of a record are found as that record, whatever is behind them
pub what_is_written_is_found : (e : Entry) (rest : List ℕ) → packet_length (written e ++ rest) ≡ length e.packet
what_is_written_is_found e rest = written_found e rest

pub the_packet_is_lent_on : (e : Entry) (rest : List ℕ) → packet_at (written e ++ rest) 0 ≡ e.packet
the_packet_is_lent_on e rest = written_packet e rest

-- ---- 1. Records and passed-over bytes together are the file, each byte once: the pieces, in order, join to the file.
pub pieces-join_to_the_file : (s : List ℕ) → joined s (readings s 0) ≡ s
pieces-join_to_the_file s = join_from s 0 (omega arith)

pub pieces-join_from : (s : List ℕ) (at : ℕ) → at ≤ length s → joined s (readings s at) ≡ drop at s
pieces-join_from s at h = join_from s at h

-- By place: of every byte from the start on, one answer passes it over and it lies in no record so read, or no answer does and it lies in just one.
pub each_byte_once : (s : List ℕ) (at : ℕ) → at ≤ length s → (k : ℕ) → at ≤ k → k < length s
    → times_passed (readings s at) k + times_held (readings s at) k ≡ 1
each_byte_once s at h = (once_from s at h).one

-- Of the bytes before the start none is passed over, and none lies in a record so read.
pub none-before_the_start : (s : List ℕ) (at : ℕ) → at ≤ length s → (k : ℕ) → k < at
    → times_passed (readings s at) k + times_held (readings s at) k ≡ 0
none-before_the_start s at h = (once_from s at h).none

-- ---- 2. At no passed-over place does a record stand, and a passed-over byte is in no record so read; what is found stands there.
pub nothing_stands_where_passed_over : (s : List ℕ) (at : ℕ) (a : NextRecord) → at ≤ length s → Among a (readings s at)
    → (k : ℕ) → PassedOver a k → packet_length (drop k s) ≡ 0
nothing_stands_where_passed_over s at a h m k p = answer_nothing s at a (among_is s at a h m) k p

pub passed_over_is_in_no_record : (s : List ℕ) (at : ℕ) (a b : NextRecord) → at ≤ length s → Among a (readings s at) → Among b (readings s at)
    → (k : ℕ) → PassedOver a k → InRecord b k → ⊥
passed_over_is_in_no_record s at a b h m m' k p q = apart s at h a b m m' k p q

pub what_is_found_stands : (s : List ℕ) (at : ℕ) (a : NextRecord) → at ≤ length s → Among a (readings s at)
    → packet_length (drop a.place s) ≡ a.length
what_is_found_stands s at a h m = answer_stands s at a (among_is s at a h m)

-- the place is the end where there is none, and only there
pub none_is_the_end : (s : List ℕ) (at : ℕ) (a : NextRecord) → at ≤ length s → Among a (readings s at) → a.length ≡ 0 → a.place ≡ length s
none_is_the_end s at a h m z = answer_end s at a (among_is s at a h m) z

pub the_end_has_none : (s : List ℕ) (at : ℕ) (a : NextRecord) → at ≤ length s → Among a (readings s at) → a.place ≡ length s → a.length ≡ 0
the_end_has_none s at a h m e = sym (what_is_found_stands s at a h m) ∙ ap (λ (k : ℕ). packet_length (drop k s)) e ∙ none_at_end s

-- ---- 3. Reading on from the place behind a record is the rest of reading from the front, and any place before the record gives the record
-- again.
pub resuming_gives_the_rest : (s : List ℕ) (at : ℕ) (done more : List NextRecord) (a : NextRecord) → at ≤ length s
    → readings s at ≡ done ++ (a ∷ more) → (a.length ≡ 0 → ⊥) → readings s (behind a) ≡ more
resuming_gives_the_rest s at done more a h r f = splits_behind s at a more (splits s at done more a h r) f

pub resuming_before_a_record : (s : List ℕ) (at : ℕ) (done more : List NextRecord) (a : NextRecord) (k : ℕ) → at ≤ length s
    → readings s at ≡ done ++ (a ∷ more) → begins a ≤ k → k ≤ a.place
    → readings s k ≡ record { verdict = a.verdict; line = a.line; place = a.place; length = a.length; passed = a.place - k } ∷ more
resuming_before_a_record s at done more a k h r from to = splits_before s at a more (splits s at done more a h r) k from to

-- ---- 4. A file that is records one behind another passes nothing over and gives those records.
pub records_read_back : (es : List Entry) → HoldAll es → readings (file_of es) 0 ≡ answers_for 0 es
records_read_back es h = back_from [] es h
