-- What may be counted on when a capture of any size is surveyed (beyond document 02).
-- Assumes nothing.
use Prim.Native.Nat.{ℕ, ◌+◌, ◌*◌, ◌≤◌}
use native.Mathlib.Nat.{add-zero}
use native.Mathlib.Omega.{arith}
use mathlib.Core.Path.{◌≡◌, refl, sym, ap, ◌∙◌}
use mathlib.Core.List.{List, map}
use mathlib.Core.Bool.{false}
use lib.ListN.{length, length-map}
use Rattle.laws.specs.Bytes.{Bytes}
use Rattle.std.specs.Prelude.{Ok}
use Rattle.capture.specs.Records.{Entry}
use Rattle.capture.specs.Reading.{readings, records_in, records_of, passed_of}
use Rattle.capture.proofs.Held.{all-counted, records_are}
use Rattle.capture_window.specs.Parts.{joined_up, parts}
use Rattle.capture_window.proofs.Promises.{parts-read_as_the_file}
use Rattle.packet_judge.specs.Judging.{judged}
use Rattle.packet_judge.specs.Tallies.{tally_of, sum_of}
use Rattle.compaction.specs.Share.{night, share}
use Rattle.compaction.specs.declared.Share.{Share}
use Rattle.compaction.proofs.Faithful.{records_stand}
use Rattle.compaction.proofs.Whole.{whole}
use Rattle.compaction.proofs.Joining.{one_share, all_fit}
use Rattle.capture_survey.specs.Survey.{survey_of, survey_of_all, bytes_in}
use Rattle.capture_survey.proofs.Counting.{rest_most}
use Rattle.capture_survey.proofs.Summing.{verdict_on, by_records, by_parts, entries_many, entries_verdicts, verdicts_all, reclaimed_whole}

-- ---- 1. What the program counts part by part, whatever the chunks are in which the file comes, is what is counted of the readings of the whole file.
pub survey_counts_the_file : (chunks : List (List ℕ)) → Bytes (joined_up chunks) → survey_of_all (parts chunks) ≡ survey_of (joined_up chunks)
survey_counts_the_file chunks h =
    let k = parts-read_as_the_file chunks h in
    by_parts (parts chunks) ∙ (rw (k.0, k.1) (sym (by_records (joined_up chunks))))

module _ (s : List ℕ) where
  abbrev es : List Entry
  es = records_of s

  -- ---- 2. It counts the records, and every byte once: of a head, of a packet, or passed over.
  pub every_byte_once : ((survey_of s).records ≡ length es) × ((survey_of s).passed ≡ passed_of s)
      × (length s ≡ 5 * (survey_of s).records + (survey_of s).packets + (survey_of s).passed)
  every_byte_once =
      let k = entries_many es in
      rw (by_records s) (omega (arith, k.0), omega (arith, k.1), omega (arith, k.0, k.1, k.2, all-counted s))

  -- ---- 3. The verdicts are those of M-110's judge on the packet of each record, and each record has one.
  pub each_record_judged : ((survey_of s).verdicts ≡ tally_of (map (λ (e : Entry). judged false e.packet) es))
      × (Bytes s → sum_of (survey_of s).verdicts ≡ (survey_of s).records)
  each_record_judged =
      let is : (survey_of s).verdicts ≡ tally_of (map verdict_on es) = rw (by_records s, ← entries_verdicts es) (simp add-zero) in (
        is,
        λ bytes.
            let n = length-map es verdict_on in
            let all = rw (← records_are s) at (verdicts_all s bytes (records_in (readings s 0)) (records_stand s bytes)) in
            omega (arith, ap sum_of is, all, n, every_byte_once.0),
      )

  -- ---- 4. What it calls reclaimable is what compacting the capture reclaims (document 02, M-103), with any budget that holds it.
  pub reclaimable_is_reclaimed : (room budget : ℕ) → length s ≤ budget → budget ≤ room
      → (r : Share) × (share s (night s 0 room budget) ≡ Ok r) × (r.reclaimed ≡ (survey_of s).reclaimable)
  unfolding survey_of
  reclaimable_is_reclaimed room budget h k = (
    _,
    one_share s 0 room budget (omega arith) k (omega (arith, all_fit s 0 (omega arith))) (whole s (readings s 0)) refl,
    reclaimed_whole s 0 (omega arith),
  )

-- ---- 5. No count is larger than three times the bytes.
pub counts_within : (s : List ℕ) → bytes_in (survey_of s) ≤ 3 * length s
unfolding survey_of
counts_within s = omega (arith, rest_most s 0 (omega arith))
