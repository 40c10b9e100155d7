-- The share of a part: how far it goes, what it counts, and when the budget is ample.
--     share_bounds              what is counted is within the part and the budget
--     share_ample, share-min    a budget that holds the part does all of it, and a larger one does the same
--     Shares, shares_none, shares_on     shares joined, of parts that were done to their ends
-- Assumes nothing.
use Prim.Native.Nat.{ℕ, ◌+◌, ◌≤◌, min}
use native.Mathlib.Omega.{arith}
use mathlib.Core.Path.{◌≡◌, refl, sym, ap, ◌∙◌}
use mathlib.Core.List.{List, [], ◌∷◌}
use lib.ListN.{length}
use lib.Dec.{ltb}
use borrow.Author.Tests.{ltb-true, ltb-false}
use Rattle.laws.proofs.Never.{by_test}
use Rattle.std.specs.Prelude.{Ok}
use Rattle.capture.specs.Reading.{begins, readings}
use Rattle.capture.specs.declared.NextRecord.{NextRecord}
use Rattle.capture.proofs.Answers.{next_place_le}
use Rattle.compaction.specs.Account.{output, account}
use Rattle.compaction.specs.Share.{done, stop, accounted}
use Rattle.compaction.specs.declared.Share.{Share}
use Rattle.compaction.proofs.Nights.{account_records, stop_is_end, stop_splits}
use Rattle.compaction.proofs.Whole.{output-size, whole, Ample, ample}
use Rattle.compaction.proofs.Joining.{all_fit}
use Rattle.compaction.proofs.Exactly.{account-written, Spans, spans}
use Rattle.compact.specs.Stream.{share_of, written_of, none, joined}

-- each record that is written has more bytes than one
more_bytes : (s : List ℕ) (ds : List NextRecord) → length ds ≤ length (output s ds)
more_bytes s [] = omega arith
more_bytes s (d ∷ ds) = omega (arith, output-size s d ds, more_bytes s ds)

module _ (s : List ℕ) (b : ℕ) where
  abbrev stops : NextRecord
  stops = stop s b (readings s 0)

  abbrev ds : List NextRecord
  ds = done s b (readings s 0)

  spanned : Spans s 0 b (readings s 0)
  spanned = spans s 0 (omega arith) b

  pub share_is : share_of s b ≡ accounted stops (account s stops ds)
  unfolding share_of
  share_is = refl

  pub written_is : (share_of s b).written ≡ length (written_of s b)
  unfolding share_of written_of
  written_is = account-written s stops ds

  stop_inside : stops.place ≤ length s
  stop_inside =
      let p = (stop_splits s 0 b (omega arith)).answer in
      omega (arith, ap (λ (x : NextRecord). x.place) p.is, next_place_le s (begins stops) p.inside)

  pub share_bounds : let r = share_of s b in
      (r.written ≤ b) × (r.resume ≡ r.written + r.reclaimed + r.passed) × (r.resume ≤ length s) × (r.records ≤ r.written)
  unfolding share_of
  share_bounds =
      let w = account-written s stops ds in (
        omega (arith, w, spanned.within),
        omega (arith, spanned.reached),
        stop_inside,
        omega (arith, w, account_records s stops ds, more_bytes s ds),
      )

-- ---- an ample budget
-- what is said where all is done
abbrev pub done_all : List ℕ → Share
done_all s = accounted (record { verdict = Ok tt; line = 0; place = length s; length = 0; passed = 0 }) (whole s (readings s 0))

pub share_ample : (s : List ℕ) (b : ℕ) → length s ≤ b → share_of s b ≡ done_all s
unfolding share_of
share_ample s b h =
    let a : Ample s b (readings s 0) = ample s 0 (omega arith) b (omega (arith, all_fit s 0 (omega arith))) in
    rw (a.accounts, stop_is_end s 0 b (omega arith) a.stopped)

pub share-min : (s : List ℕ) (b room : ℕ) → length s ≤ room → share_of s (min b room) ≡ share_of s b
share-min s b room h =
    by_test (ltb b room)
    (λ t. let e : min b room ≡ b = omega (arith, ltb-true b room t) in ap (share_of s) e)
    (λ t. let e : min b room ≡ room = omega (arith, ltb-false b room t) in
    ap (share_of s) e ∙ (share_ample s room h ∙ sym (share_ample s b (omega (arith, ltb-false b room t)))))

-- ---- shares joined
pub record Shares (all : Share) (bytes : ℕ) : Type 0 where
  pub resume : all.resume ≡ bytes
  pub sum : all.written + all.reclaimed + all.passed ≡ bytes
  pub few : all.records ≤ all.written

pub shares_none : {all : Share} → all ≡ none → Shares all 0
shares_none e = rw e (record { resume = refl; sum = omega arith; few = omega arith })

-- what the share of n bytes counts, with a budget
pub record Within (n b : ℕ) (a : Share) : Type 0 where
  pub budget : a.written ≤ b
  pub sum : a.resume ≡ a.written + a.reclaimed + a.passed
  pub ends : a.resume ≤ n
  pub few : a.records ≤ a.written

pub within : (s : List ℕ) (b : ℕ) {a : Share} → a ≡ share_of s b → {n : ℕ} → length s ≡ n → Within n b a
within s b e h = let k = share_bounds s b in rw (e, ← h) (record { budget = k.0; sum = k.1; ends = k.2; few = k.3 })

module _ {all : Share} {bytes : ℕ} (w : Shares all bytes) {n b : ℕ} {a : Share} (k : Within n b a) where
  pub shares_on : n ≤ a.resume → {r : Share} → r ≡ joined all a → Shares r (bytes + n)
  shares_on h e =
      rw e (record {
        resume = omega (arith, w.resume, k.ends);
        sum = omega (arith, w.sum, k.ends, k.sum);
        few = omega (arith, w.few, k.few);
      })
