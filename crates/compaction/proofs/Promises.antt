-- What a buyer may count on when a capture is compacted by shares (document 02, M-103).
-- Assumes nothing.
use Prim.Native.Nat.{ℕ, ◌+◌, ◌<◌, ◌≤◌}
use native.Mathlib.Omega.{arith}
use mathlib.Core.Path.{◌≡◌, refl, ap, ◌∙◌}
use mathlib.Core.List.{List, ◌∷◌, ◌++◌, map}
use lib.ListN.{length, take, drop, length-map}
use lib.Seq.{sets}
use Rattle.laws.specs.Bytes.{Bytes}
use Rattle.blocks.proofs.Sets.{take-sets, drop-sets_past}
use Rattle.opus_defines.specs.declared.Refusal.{Refusal}
use Rattle.opus_defines.specs.declared.Refusal.TheVariants.{BadArg, BufferTooSmall, OverBudget}
use Rattle.std.specs.Prelude.{Err, Ok}
use Rattle.capture.specs.Records.{HoldAll}
use Rattle.capture.specs.Finding.{next_record}
use Rattle.capture.specs.Reading.{readings, answers_for, entry_of, entries, records_in}
use Rattle.capture.specs.declared.NextRecord.{NextRecord}
use Rattle.capture.proofs.Promises.{records_read_back}
use Rattle.compaction.specs.Account.{rewritten, size, output, Account, account}
use Rattle.compaction.specs.Share.{refuses, does, night, accounted, share, leaves}
use Rattle.compaction.specs.declared.Share.{Share}
use Rattle.compaction.specs.Nights.{Nights}
use Rattle.compaction.specs.Lossless.{StandAll, Faithful}
use Rattle.compaction.specs.Shortest.{Shortest}
use Rattle.compaction.proofs.Nights.{night_past, night-short, account_records}
use Rattle.compaction.proofs.Joining.{does_is, does_splits, nights_start, nights_write, nights_account, one_share, one_left}
use Rattle.compaction.proofs.Exactly.{account-written, spans, past_only, short_only, over_only, over-said, refusals_are}
use Rattle.compaction.proofs.Faithful.{stand_done, stand_all, hold_all, all_same, entries_back}
use Rattle.compaction.proofs.Least.{all_least}
use Rattle.compaction.proofs.Again.{settled, file_again}

module _ (s : List ℕ) (start room budget : ℕ) where
  -- 1. A call is refused by -1 exactly where the start lies past the end, by -2 exactly where it does not and the destination is shorter than the budget,
  -- by -21 exactly where neither holds and the next record, rewritten, alone exceeds the budget, and by nothing else.
  pub refused_exactly :
      ((night s start room budget ≡ refuses BadArg → length s < start) × (length s < start → night s start room budget ≡ refuses BadArg))
      × ((night s start room budget ≡ refuses BufferTooSmall → (start ≤ length s) × (room < budget))
      × (start ≤ length s → room < budget → night s start room budget ≡ refuses BufferTooSmall))
      × ((night s start room budget ≡ refuses OverBudget
      → (start ≤ length s) × (budget ≤ room) × ((next_record s start).length ≡ 0 → ⊥) × (budget < size s (next_record s start)))
      × (start ≤ length s → budget ≤ room → ((next_record s start).length ≡ 0 → ⊥) → budget < size s (next_record s start)
      → night s start room budget ≡ refuses OverBudget))
      × ((e : Refusal) → night s start room budget ≡ refuses e → (e ≡ BadArg → ⊥) → (e ≡ BufferTooSmall → ⊥) → e ≡ OverBudget)
  refused_exactly = (
    (past_only s start room budget, night_past s start room budget),
    (short_only s start room budget, night-short s start room budget),
    (over_only s start room budget, over-said s start room budget),
    refusals_are s start room budget,
  )

  -- a call that is not refused does the records ds, and stops at the answer a
  module _ (ds : List NextRecord) (a : NextRecord) (e : night s start room budget ≡ does ds a) where
    -- 2. The records done are the first of the capture's from the start on, in order, and the call stops at the next answer. They fit in the budget, and
    -- with the record at which the call stops, where it is one, they would not.
    pub stops_exactly : ((more : List NextRecord) × (readings s start ≡ ds ++ (a ∷ more)))
        × (length (output s ds) ≤ budget)
        × ((a.length ≡ 0 → ⊥) → budget < length (output s ds) + size s a)
    stops_exactly =
        let d = does_is s start room budget ds a e in
        let k = spans s start d.inside budget in
        (does_splits s start room budget ds a e, rw d.dones k.within, rw (d.dones, d.stops) k.before)

    -- 3. It resumes at that answer's place. Records, and bytes written, are those of the account, and from the start to the resume place every byte was
    -- written, reclaimed or passed over.
    pub account-adds_up : (r : Share) × (share s (night s start room budget) ≡ Ok r) × (r.resume ≡ a.place) × (r.records ≡ length ds)
        × (r.written ≡ length (output s ds)) × (r.resume ≡ start + (r.written + r.reclaimed + r.passed))
    account-adds_up =
        let d = does_is s start room budget ds a e in
        let k = spans s start d.inside budget in
        let sum : a.place ≡ start + ((account s a ds).written + (account s a ds).reclaimed + (account s a ds).passed) =
        rw (d.dones, d.stops) k.reached in
        rw e (accounted a (account s a ds), refl, refl, account_records s a ds, account-written s a ds, sum)

    -- So what is written is never longer than what was read.
    pub never_longer : start + length (output s ds) ≤ a.place
    never_longer = let k = account-adds_up in omega (arith, k.2, k.4, k.5)

    -- 4. What is written stands at the front of the destination, and no byte behind it changes.
    pub written_in_front : (dst : List ℕ) → length dst ≡ room → let n = night s start room budget in (r : Share)
        × (share s n ≡ Ok r) × (take r.written (leaves s dst n) ≡ output s ds) × (drop r.written (leaves s dst n) ≡ drop r.written dst)
    written_in_front dst l =
        let d = does_is s start room budget ds a e in
        let fit : length (output s ds) ≤ length dst = omega (arith, stops_exactly.1, d.roomy) in
        let w = account-written s a ds in
        rw e (
          accounted a (account s a ds),
          refl,
          rw w (take-sets dst (output s ds) fit),
          rw w (drop-sets_past dst 0 (output s ds) (length (output s ds)) (omega arith)),
        )

    -- 5. Nothing is lost. The records done are those that stand in the capture, byte for byte. What is written, read from its front, passes nothing over
    -- and gives as many records, in the same order and with the same lines; the packet of each has the frames and the upper six TOC bits of the one it was
    -- made of, or its very bytes, where that cannot be read.
    module _ (bytes : Bytes s) where
      stand : StandAll s ds
      stand = let d = does_is s start room budget ds a e in rw d.dones (stand_done s bytes start d.inside budget)

      holds : HoldAll (map rewritten (entries s ds))
      holds = hold_all s bytes ds stand

      pub nothing_is_lost : let out = output s ds in
          StandAll s ds
          × (readings out 0 ≡ answers_for 0 (entries out (records_in (readings out 0))))
          × Faithful (entries s ds) (entries out (records_in (readings out 0)))
      nothing_is_lost =
          let es = map rewritten (entries s ds) in
          rw (entries_back es holds) (stand, records_read_back es holds, all_same s bytes ds stand)

      -- 6. Nor could it be shorter: no packet that says what the packet of a record done says is shorter than the one that is read back for it.
      pub shortest_written : let out = output s ds in Shortest (entries s ds) (entries out (records_in (readings out 0)))
      shortest_written = rw (entries_back (map rewritten (entries s ds)) holds) (all_least s bytes ds stand)

      -- 7. Compacting it again, with a budget that holds it, writes the same bytes, and reclaims and passes over nothing.
      pub again_changes_nothing : let out = output s ds in
          (room' budget' : ℕ) → length out ≤ budget' → budget' ≤ room' → let n = night out 0 room' budget' in
          (share out n
          ≡ Ok (record { resume = length out; records = length ds; written = length out; reclaimed = 0; passed = 0 }))
          × ((dst : List ℕ) → leaves out dst n ≡ sets dst 0 out)
      again_changes_nothing room' budget' fits roomy =
          let k = file_again (map rewritten (entries s ds)) holds (settled s bytes ds) room' budget' fits roomy in
          let count : length (map rewritten (entries s ds)) ≡ length ds = length-map (entries s ds) rewritten ∙ length-map ds (entry_of s) in
          (k.0 ∙ rw count, k.1)

  -- 8. A refusal is answered, and changes nothing.
  pub refused_changes_nothing : (e : Refusal) → night s start room budget ≡ refuses e
      → (share s (night s start room budget) ≡ Err e)
      × ((dst : List ℕ) → leaves s dst (night s start room budget) ≡ dst)
  refused_changes_nothing e q = rw q (refl, λ dst. refl)

-- 9. Calls resumed until the end, none of them refused, write, joined, what one call with ample budget writes, and their accounts together are its account.
-- Each has a budget and a destination of its own.
module _ (s : List ℕ) (start : ℕ) (out : List ℕ) (k : Account) (nights : Nights s start out k) where
  pub nights_are_one : (room budget : ℕ) → length out ≤ budget → budget ≤ room → let n = night s start room budget in
      (share s n
      ≡ Ok (record {
        resume = length s;
        records = k.records;
        written = k.written;
        reclaimed = k.reclaimed;
        passed = k.passed;
      }))
      × ((dst : List ℕ) → leaves s dst n ≡ sets dst 0 out)
  nights_are_one room budget fits roomy =
      let h = nights_start nights in
      let w = nights_write nights in
      let m : length (output s (records_in (readings s start))) ≤ budget = rw w fits in (
        one_share s start room budget h roomy m k (nights_account nights),
        λ dst. one_left s start room budget h roomy m dst ∙ ap (sets dst 0) w,
      )

  -- So nothing is lost over all of them: every record of the capture from the start on is among those that are read back.
  pub nights_lose_nothing : Bytes s → StandAll s (records_in (readings s start))
      × (readings out 0 ≡ answers_for 0 (entries out (records_in (readings out 0))))
      × Faithful (entries s (records_in (readings s start))) (entries out (records_in (readings out 0)))
  nights_lose_nothing bytes =
      let h = nights_start nights in
      let ds = records_in (readings s start) in
      let stand = stand_all s bytes start h in
      let holds = hold_all s bytes ds stand in
      let es = map rewritten (entries s ds) in
      rw (← nights_write nights, entries_back es holds) (stand, records_read_back es holds, all_same s bytes ds stand)
