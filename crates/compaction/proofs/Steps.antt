-- Which records are done, step by step: the next answer ends the share, or is done and what is left of the budget goes on behind it.
-- Assumes nothing.
use Prim.Native.Nat.{ℕ, ◌-◌, ◌<◌, ◌≤◌}
use native.Mathlib.Omega.{arith}
use mathlib.Core.Path.{◌≡◌, refl}
use mathlib.Core.List.{List, [], ◌∷◌}
use mathlib.Core.Bool.{Bool, true, false, ◌&&◌}
use lib.Dec.{ltb}
use lib.ListN.{length}
use borrow.Author.Tests.{lt-ltb, le-leb, lt-leb}
use Rattle.capture.specs.Finding.{next_record}
use Rattle.capture.specs.Reading.{behind, readings}
use Rattle.capture.specs.declared.NextRecord.{NextRecord}
use Rattle.capture.proofs.Steps.{readings_end, readings_on}
use Rattle.laws.proofs.Never.{by_test}
use lib.Dec.{eqb}
use borrow.Author.Tests.{eqb-true, eqb-false}
use Rattle.compaction.specs.Account.{size, account, counting}
use Rattle.compaction.specs.Share.{fits, done, stop}

-- ---- an answer at the front
and_false : (b : Bool) → (b && false) ≡ false
and_false true = refl
and_false false = refl

module _ (s : List ℕ) (left : ℕ) (a : NextRecord) where
  pub none-fits : a.length ≡ 0 → fits s left a ≡ false
  none-fits z = rw z

  pub over-fits : left < size s a → fits s left a ≡ false
  over-fits h = rw (lt-leb (size s a) left h) (and_false (ltb 0 a.length))

  pub some_fits : (a.length ≡ 0 → ⊥) → size s a ≤ left → fits s left a ≡ true
  some_fits f h = let some : 0 < a.length = omega arith in rw (lt-ltb 0 a.length some, le-leb (size s a) left h)

  module _ (more : List NextRecord) where
    pub stops_here : fits s left a ≡ false → (done s left (a ∷ more) ≡ []) × (stop s left (a ∷ more) ≡ a)
    unfolding done stop
    stops_here e = (rw e, rw e)

    pub goes_on : fits s left a ≡ true → (done s left (a ∷ more) ≡ a ∷ done s (left - size s a) more)
        × (stop s left (a ∷ more) ≡ stop s (left - size s a) more)
    unfolding done stop
    goes_on e = (rw e, rw e)

-- the account of one record more
pub account_one : (s : List ℕ) (stop a : NextRecord) (done : List NextRecord) → account s stop (a ∷ done) ≡ counting s a (account s stop done)
unfolding account
account_one s stop a done = refl

-- ---- the answer at a place
module _ (s : List ℕ) (at left : ℕ) (inside : at ≤ length s) where
  -- what is asked for behind it, if anything
  pub begin_with : (more : List NextRecord) × (readings s at ≡ next_record s at ∷ more)
  begin_with =
      by_test (eqb (next_record s at).length 0)
      (λ t. ([], readings_end s at (eqb-true (next_record s at).length 0 t)))
      (λ t. (readings s (behind (next_record s at)), readings_on s at inside (eqb-false (next_record s at).length 0 t)))

  pub stops : fits s left (next_record s at) ≡ false → (done s left (readings s at) ≡ []) × (stop s left (readings s at) ≡ next_record s at)
  stops e = rw begin_with.1 (stops_here s left (next_record s at) begin_with.0 e)

  pub goes : ((next_record s at).length ≡ 0 → ⊥) → size s (next_record s at) ≤ left
      → let rest = readings s (behind (next_record s at)) in
      (done s left (readings s at) ≡ next_record s at ∷ done s (left - size s (next_record s at)) rest)
      × (stop s left (readings s at) ≡ stop s (left - size s (next_record s at)) rest)
  goes f h =
      rw (readings_on s at inside f)
      (goes_on s left (next_record s at) (readings s (behind (next_record s at))) (some_fits s left (next_record s at) f h))
