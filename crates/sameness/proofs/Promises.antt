-- What a buyer may count on when a rewritten capture is held against the original (beyond document 02).
-- Assumes nothing.
use Prim.Native.Nat.{ℕ, ◌≤◌}
use native.Mathlib.Omega.{arith}
use mathlib.Core.Path.{◌≡◌, ap, ◌∙◌}
use mathlib.Core.List.{List, ◌∷◌, ◌++◌, map, map-append}
use mathlib.Core.Bool.{true}
use lib.ListN.{length, take, drop}
use lib.Seq.{take-length}
use Rattle.laws.specs.Bytes.{Bytes}
use Rattle.capture.specs.Records.{Entry, file_of, HoldAll}
use Rattle.capture.specs.Reading.{records_of, passed_of}
use Rattle.capture.proofs.Held.{all-counted}
use Rattle.capture_window.specs.Parts.{joined_up, parts, records_of_all}
use Rattle.capture_window.proofs.Promises.{parts_are_the_file, parts-read_as_the_file}
use Rattle.compaction.specs.Account.{rewritten}
use Rattle.compaction.specs.Lossless.{Faithful}
use Rattle.compaction.proofs.Faithful.{records_back, records_hold, records_same}
use Rattle.sameness.specs.Sameness.{Begins, Followed}
use Rattle.sameness.specs.declared.Seen.{Seen}
use Rattle.sameness.proofs.Beginning.{file_append}
use Rattle.sameness.proofs.Following.{none_passed, followed_filed, filed_followed}
use Rattle.sameness.proofs.Following.{one_part, rest_behind, file_no_longer, anew_holds, anew_same}

-- ---- 1. Where the parts of a file are all found in a new file, and nothing of that is left, no record is lost: whatever the chunks in which the file came,
-- the new one has as many records, in the same order and with the same lines, whose packets say the same. And no byte of it is in no record.
pub seen_is_faithful : (chunks : List (List ℕ)) (new : List ℕ) → Bytes (joined_up chunks) → Followed (parts chunks) new
    → Faithful (records_of (joined_up chunks)) (records_of new) × (passed_of new ≡ 0)
seen_is_faithful chunks new bytes f =
    let r = followed_filed f in
    rw (← (parts-read_as_the_file chunks bytes).0, r.file, records_back r.records r.hold) (r.same, none_passed r.records r.hold)

-- ---- 2. And where none is lost they are all found: in any file of records, one right behind another, that say what those of the original say.
pub faithful_is_seen : (chunks : List (List ℕ)) (es : List Entry) → Bytes (joined_up chunks) → HoldAll es
    → Faithful (records_of (joined_up chunks)) es → Followed (parts chunks) (file_of es)
faithful_is_seen chunks es bytes hold same = filed_followed (parts chunks) (rw (parts-read_as_the_file chunks bytes).0 same) hold

-- ---- 3. So what compaction writes is seen to say the same: for every list of parts, the file of all their records, rewritten.
pub what_compaction_writes_is_seen : (ps : List (List ℕ)) → Bytes (joined_up ps) → Followed ps (file_of (map rewritten (records_of_all ps)))
what_compaction_writes_is_seen ps bytes = filed_followed ps (anew_same ps bytes) (anew_holds ps bytes)

-- For a file that comes in chunks, whatever they are, the file of its records.
pub the_file_rewritten_is_seen : (chunks : List (List ℕ)) → Bytes (joined_up chunks)
    → Followed (parts chunks) (file_of (map rewritten (records_of (joined_up chunks))))
the_file_rewritten_is_seen chunks bytes =
    rw (parts-read_as_the_file chunks bytes).0 at (what_compaction_writes_is_seen (parts chunks) (rw (parts_are_the_file chunks) bytes))

-- ---- 4. How much of it is held when a part is looked for does not matter, if what was written for the part is held: the part is found there, and wherever it
-- is found to end, what was written for the parts that follow is what is left.
pub whatever_is_held : (p : List ℕ) (ps : List (List ℕ)) → Bytes p → (held more : List ℕ)
    → held ++ more ≡ file_of (map rewritten (records_of_all (p ∷ ps))) → length (file_of (map rewritten (records_of p))) ≤ length held
    → Begins (records_of p) held (length (file_of (map rewritten (records_of p))))
    × ((n : ℕ) → Begins (records_of p) held n → drop n held ++ more ≡ file_of (map rewritten (records_of_all ps)))
unfolding records_of_all
whatever_is_held p ps bytes held more e enough =
    let own = map rewritten (records_of p) in
    let rest = map rewritten (records_of_all ps) in
    let split : held ++ more ≡ file_of own ++ file_of rest =
    e ∙ (ap file_of (map-append rewritten (records_of p) (records_of_all ps)) ∙ file_append own rest) in (
      one_part (records_hold p bytes) (records_same p bytes) held more (file_of rest) split enough,
      rest_behind (records_hold p bytes) (records_same p bytes) held more (file_of rest) split enough,
    )

-- It is held where as many bytes are held as the part has.
pub no_more_than_the_part : (p : List ℕ) → length (file_of (map rewritten (records_of p))) ≤ length p
no_more_than_the_part p = omega (arith, all-counted p, file_no_longer (records_of p))

-- ---- 5. Where `same_records` answers that all records of a part are found, they are, in as many bytes as it says.
pub all_are_found : (part held : List ℕ) (r : Seen) → Begins (take r.records (records_of part)) held r.bytes
    → (r.all ≡ true → r.records ≡ length (records_of part)) → r.all ≡ true → Begins (records_of part) held r.bytes
all_are_found part held r found all t = rw (all t, take-length (records_of part)) at found
