-- What a buyer may count on when a capture file of any size is compacted part by part (beyond document 02, M-103).
-- Assumes nothing.
use Prim.Native.Nat.{ℕ, ◌+◌, ◌<◌, ◌≤◌}
use native.Mathlib.Omega.{arith}
use mathlib.Core.Path.{◌≡◌, sym, ◌∙◌}
use mathlib.Core.List.{List, [], ◌++◌}
use lib.ListN.{length, take, drop, length-drop}
use Rattle.laws.specs.Bytes.{Bytes}
use Rattle.laws.proofs.Bytes.{bytes_take}
use Rattle.opus_defines.specs.declared.Refusal.{Refusal}
use Rattle.opus_defines.specs.declared.Refusal.TheVariants.{OverBudget}
use Rattle.std.specs.Prelude.{Ok}
use Rattle.capture.specs.Records.{Entry, written}
use Rattle.capture.specs.Finding.{packet_length}
use Rattle.capture.specs.Reading.{readings, answers_for, records_in, records_of, passed_of}
use Rattle.capture.specs.declared.NextRecord.{NextRecord}
use Rattle.capture.proofs.Written.{entry_in}
use Rattle.capture_window.specs.Parts.{joined_up, parts, rewritten as partsRewritten}
use Rattle.capture_window.proofs.Cutting.{parts_cut}
use Rattle.capture_window.proofs.Promises.{rewritten_is_written}
use Rattle.compaction.specs.Account.{rewritten, output}
use Rattle.compaction.specs.Share.{refuses, does, night, share}
use Rattle.compaction.specs.Lossless.{StandAll, Faithful}
use Rattle.compaction.specs.Shortest.{Shortest}
use Rattle.compaction.proofs.Entries.{size-written}
use Rattle.compact.specs.Stream.{share_of, written_of, shared_by, written_for}
use Rattle.compact.proofs.Sharing.{written_is, share_bounds, share_ample}
use Rattle.compact.proofs.Parting.{cuts_share}
use Rattle.compact.proofs.Doing.{compacted, All, all_done, by_the_rule, loses_nothing as lossless, none-shorter}
use Rattle.compact.proofs.Resuming.{Stopped, stopped}
use Rattle.compact.proofs.Calls.{call_does, over_none, none_over}

-- ---- 1. What is done part by part, whatever the chunks are in which a file comes and whatever the budget, is M-103's share of the whole file: as many
-- records, as many bytes written, reclaimed and passed over, the same place at which to resume, and each byte written.
pub share_of_the_file : (chunks : List (List ℕ)) (budget : ℕ) → Bytes (joined_up chunks)
    → let file = joined_up chunks in
    (shared_by budget (parts chunks) ≡ share_of file budget) × (written_for budget (parts chunks) ≡ written_of file budget)
share_of_the_file chunks budget h = cuts_share (parts_cut [] chunks h) budget

-- ---- 2. That is what one call on the whole file answers and writes, where it is not refused. It is refused exactly where no record is done and the share
-- stops before the end of the file, by -21 and nothing else; then nothing is written.
pub as_the_call_does : (file : List ℕ) (budget : ℕ)
    → let n = night file 0 budget budget in
    let s = share_of file budget in
    ((ds : List NextRecord) (a : NextRecord) → n ≡ does ds a → (share file n ≡ Ok s) × (written_of file budget ≡ output file ds))
    × ((e : Refusal) → n ≡ refuses e → (e ≡ OverBudget) × (s.records ≡ 0) × (s.resume < length file) × (written_of file budget ≡ []))
    × (s.records ≡ 0 → s.resume < length file → n ≡ refuses OverBudget)
as_the_call_does file budget = (call_does file budget, over_none file budget, none_over file budget)

-- a file that the budget holds
module _ (chunks : List (List ℕ)) (budget : ℕ) (bytes : Bytes (joined_up chunks)) (ample : length (joined_up chunks) ≤ budget) where
  all : All (joined_up chunks) budget
  all = all_done (joined_up chunks) budget (rw (share_ample (joined_up chunks) budget ample) (omega arith))

  written_all : written_for budget (parts chunks) ≡ compacted (records_of (joined_up chunks))
  written_all = (share_of_the_file chunks budget bytes).1 ∙ all.writes

  -- ---- 3. With a budget that holds the file nothing is lost. Its records stand in it, byte for byte. What is written, read from its front, passes nothing
  -- over and gives as many records, in the same order and with the same lines; the packet of each has the frames and the upper six TOC bits of the one it
  -- was made of, or its very bytes, where that cannot be read.
  pub file-loses-nothing :
      let file = joined_up chunks in
      let out = written_for budget (parts chunks) in
      StandAll file (records_in (readings file 0)) × (readings out 0 ≡ answers_for 0 (records_of out)) × Faithful (records_of file) (records_of out)
  file-loses-nothing = rw written_all (lossless (joined_up chunks) bytes)

  -- Nor could it be shorter: no packet that says what the packet of a record says is shorter than the one that is read back for it.
  pub file_shortest : Shortest (records_of (joined_up chunks)) (records_of (written_for budget (parts chunks)))
  file_shortest = rw written_all (none-shorter (joined_up chunks) bytes)

  -- It is what M-103's rule writes for the records of each part.
  pub file_by_the_rule : written_for budget (parts chunks) ≡ partsRewritten (λ (e : Entry). written (rewritten e)) (parts chunks)
  file_by_the_rule =
      written_all
      ∙ (by_the_rule (records_of (joined_up chunks)) ∙ sym (rewritten_is_written (λ (e : Entry). written (rewritten e)) chunks bytes))

  -- What is said of it adds up: every byte of the file was written, reclaimed or passed over, and the counts are those of the file.
  pub file-adds-up :
      let file = joined_up chunks in
      let s = shared_by budget (parts chunks) in
      (s.resume ≡ length file) × (s.written + s.reclaimed + s.passed ≡ length file)
      × (s.records ≡ length (records_of file)) × (s.written ≡ length (written_for budget (parts chunks))) × (s.passed ≡ passed_of file)
  file-adds-up =
      let file = joined_up chunks in
      let same = share_of_the_file chunks budget bytes in
      let end : (share_of file budget).resume ≡ length file = rw (share_ample file budget ample) in
      rw (same.0, same.1) (end, omega (arith, (share_bounds file budget).1), all.counts, written_is file budget, all.passes)

-- any budget
module _ (chunks : List (List ℕ)) (budget : ℕ) (bytes : Bytes (joined_up chunks)) where
  abbrev front : List ℕ
  front = take (share_of (joined_up chunks) budget).resume (joined_up chunks)

  stop : Stopped (joined_up chunks) budget front (drop (share_of (joined_up chunks) budget).resume (joined_up chunks))
  stop = stopped (joined_up chunks) budget

  front_bytes : Bytes front
  front_bytes = bytes_take (share_of (joined_up chunks) budget).resume (joined_up chunks) bytes

  front-written : written_for budget (parts chunks) ≡ compacted (records_of front)
  front-written = (share_of_the_file chunks budget bytes).1 ∙ stop.writes

  -- ---- 4. With any budget nothing is lost of what stands before the place at which to resume: its records, and those of what stands behind it, which the next
  -- call is to be given, are the records of the file, and the first are those that were done.
  pub part-loses-nothing :
      let file = joined_up chunks in
      let place = (shared_by budget (parts chunks)).resume in
      let before = take place file in
      let out = written_for budget (parts chunks) in
      (records_of file ≡ records_of before ++ records_of (drop place file))
      × StandAll before (records_in (readings before 0))
      × (readings out 0 ≡ answers_for 0 (records_of out))
      × Faithful (records_of before) (records_of out)
      × Shortest (records_of before) (records_of out)
  part-loses-nothing =
      let k = lossless front front_bytes in
      rw ((share_of_the_file chunks budget bytes).0, front-written) (stop.apart, k.0, k.1, k.2, none-shorter front front_bytes)

  -- What is said of it adds up.
  pub part-adds-up :
      let file = joined_up chunks in
      let s = shared_by budget (parts chunks) in
      let before = take s.resume file in
      (s.resume ≤ length file) × (s.written + s.reclaimed + s.passed ≡ s.resume)
      × (s.records ≡ length (records_of before)) × (s.written ≡ length (written_for budget (parts chunks))) × (s.passed ≡ passed_of before)
  part-adds-up =
      let file = joined_up chunks in
      let same = share_of_the_file chunks budget bytes in
      let k = share_bounds file budget in
      rw (same.0, same.1) (k.2, omega (arith, k.1), stop.counts, written_is file budget, stop.passes)

  -- What is written fits in the budget. Where the share stops before the end of the file a record stands at that place, with which it would not.
  pub stops_exactly :
      let file = joined_up chunks in
      let s = shared_by budget (parts chunks) in
      let behind = drop s.resume file in
      (s.written ≤ budget)
      × (s.resume < length file → (packet_length behind ≡ 0 → ⊥) × (budget < s.written + length (written (rewritten (entry_in behind)))))
  stops_exactly =
      let file = joined_up chunks in
      let place = (share_of file budget).resume in
      rw (share_of_the_file chunks budget bytes).0 (
        (share_bounds file budget).0,
        λ h. let n = stop.next (omega (arith, length-drop place file)) in (n.0, omega (arith, n.1, size-written (entry_in (drop place file)))),
      )
