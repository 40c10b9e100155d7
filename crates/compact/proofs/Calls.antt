-- The share of a capture from its front, and the call of M-103 on it.
--     call_does                      what a call that is not refused does
--     over_none, none_over           it is refused, by OverBudget, exactly where no record is done and the share stops before the end; then nothing is written
-- Assumes nothing.
use Prim.Native.Nat.{ℕ, ◌<◌}
use native.Mathlib.Omega.{arith}
use mathlib.Core.Path.{◌≡◌, sym, ap, ◌∙◌}
use mathlib.Core.List.{List, []}
use lib.ListN.{length}
use Rattle.opus_defines.specs.declared.Refusal.{Refusal}
use Rattle.opus_defines.specs.declared.Refusal.TheVariants.{OverBudget}
use Rattle.std.specs.Prelude.{Ok}
use Rattle.capture.specs.Finding.{next_record}
use Rattle.capture.specs.Reading.{readings}
use Rattle.capture.specs.declared.NextRecord.{NextRecord}
use Rattle.capture.proofs.Answers.{found}
use Rattle.compaction.specs.Account.{output}
use Rattle.compaction.specs.Share.{done, stop, refuses, does, night, share}
use Rattle.compaction.proofs.Steps.{over-fits, stops}
use Rattle.compaction.proofs.Going.{output-none}
use Rattle.compaction.proofs.Nights.{night-within, stopping-over, stop_is_end, account_records}
use Rattle.compaction.proofs.Joining.{does_is}
use Rattle.compaction.proofs.Exactly.{past_only, short_only, over_only, refusals_are}
use Rattle.compact.specs.Stream.{share_of, written_of}

module _ (s : List ℕ) (b : ℕ) where
  pub call_does : (ds : List NextRecord) (a : NextRecord) → night s 0 b b ≡ does ds a
      → (share s (night s 0 b b) ≡ Ok (share_of s b)) × (written_of s b ≡ output s ds)
  unfolding share_of written_of
  call_does ds a e =
      let d = does_is s 0 b b ds a e in
      (rw (e, d.dones, d.stops), rw d.dones)

  -- the front is not past the end, and the destination is as long as the budget
  by_budget : (r : Refusal) → night s 0 b b ≡ refuses r → r ≡ OverBudget
  by_budget r e =
      refusals_are s 0 b b r e (λ q. omega (arith, past_only s 0 b b (e ∙ ap refuses q))) (λ q. omega (arith, (short_only s 0 b b (e ∙ ap refuses q)).1))

  pub over_none : (r : Refusal) → night s 0 b b ≡ refuses r
      → (r ≡ OverBudget) × ((share_of s b).records ≡ 0) × ((share_of s b).resume < length s) × (written_of s b ≡ [])
  unfolding share_of written_of
  over_none r e =
      let is = by_budget r e in
      let o = over_only s 0 b b (e ∙ ap refuses is) in
      let k = stops s 0 b (omega arith) (over-fits s b (next_record s 0) o.3) in
      let f = found s 0 o.2 in
      let count = account_records s (stop s b (readings s 0)) (done s b (readings s 0)) in
      (is, count ∙ ap length k.0, rw k.1 (omega (arith, f.some, f.inside, f.next)), rw k.0 (output-none s))

  pub none_over : (share_of s b).records ≡ 0 → (share_of s b).resume < length s → night s 0 b b ≡ refuses OverBudget
  unfolding share_of
  none_over z h =
      let a = stop s b (readings s 0) in
      let ds = done s b (readings s 0) in
      night-within s 0 b b (omega arith) (omega arith)
      ∙ stopping-over ds a (sym (account_records s a ds) ∙ z) (λ e. omega (arith, stop_is_end s 0 b (omega arith) e))
