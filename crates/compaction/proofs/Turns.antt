-- A turn of the share: the next record as `capture::next_record` and `put_record` answer it.
--     advanced                 what is passed over, and where the record stands
--     last_one                 no record is left
--     nothing_put              the next record does not fit
--     one_put, on_move         it is done
-- Assumes nothing.
use Prim.Native.Nat.{ℕ, ◌+◌, ◌-◌, ◌<◌, ◌≤◌}
use native.Mathlib.Omega.{arith}
use mathlib.Core.Path.{◌≡◌, sym, ap, ◌∙◌}
use mathlib.Core.List.{List, []}
use lib.Dec.{ltb}
use lib.ListN.{length, drop}
use lib.Seq.{sets}
use borrow.Author.Tests.{ltb-true, ltb-false}
use Rattle.laws.proofs.Never.{by_test}
use Rattle.capture.specs.Records.{Entry, written}
use Rattle.capture.specs.Finding.{packet_length, next_record}
use Rattle.capture.specs.Reading.{behind, readings, entry_of}
use Rattle.capture.specs.declared.NextRecord.{NextRecord}
use Rattle.capture.proofs.Answers.{found, next_place, next_passed, next_place_le, next_stands}
use Rattle.compaction.specs.Account.{rewritten, size, output, account}
use Rattle.compaction.specs.Share.{done, stop, accounted}
use Rattle.compaction.specs.Parts.{entry_at, put_of, stops_at}
use Rattle.compaction.proofs.Entries.{size-written, answer_entry}
use Rattle.compaction.proofs.Steps.{none-fits, over-fits}
use Rattle.compaction.proofs.Putting.{put_all, put_none}
use Rattle.compaction.proofs.Going.{Going, taken, ended}

module _ {s : List ℕ} {start budget : ℕ} {d x : List ℕ} {at records put passed : ℕ} (g : Going s start budget d x at records put passed) where
  -- the share stops at the place of an answer b
  abbrev pub Stops : NextRecord → List ℕ → Type 0
  Stops b y =
      (stops_at start b.place records put (passed + b.passed)
      ≡ accounted (stop s budget (readings s start)) (account s (stop s budget (readings s start)) (done s budget (readings s start))))
      × (y ≡ sets d 0 (output s (done s budget (readings s start))))

  abbrev a : NextRecord
  a = next_record s at

  one : List ℕ
  one = put_of (budget - put) (entry_at s a.place)

  long : length (written (rewritten (entry_at s a.place))) ≡ size s a
  long = size-written (entry_at s a.place)

  one_all : size s a ≤ budget - put → one ≡ written (rewritten (entry_of s a))
  unfolding one
  one_all h =
      put_all (budget - put) (entry_at s a.place) (omega (arith, long))
      ∙ ap (λ (e : Entry). written (rewritten e)) (sym (answer_entry s at g.inside))

  one_none : budget - put < size s a → one ≡ []
  unfolding one
  one_none h = put_none (budget - put) (entry_at s a.place) (omega (arith, long))

  ends : a.length ≡ 0 → Stops a x
  ends z = ended g (none-fits s (budget - put) a z)

  module _ (k : ℕ) (n : k ≡ length one) (y : List ℕ) (b : y ≡ sets x put one) where
    none_put : k ≡ 0 → Stops a y
    none_put z =
        by_test (ltb (budget - put) (size s a))
        (λ t. let over = ltb-true (budget - put) (size s a) t in
        let same : y ≡ x = b ∙ rw (one_none over) in
        rw same (ended g (over-fits s (budget - put) a over)))
        (λ t. let h = ltb-false (budget - put) (size s a) t in
        absurd (omega (arith, n, ap length (one_all h), size-written (entry_of s a))))

    put_one : (a.length ≡ 0 → ⊥) → (k ≡ 0 → ⊥)
        → Going s start budget d y (a.place + 5 + a.length) (records + 1) (put + k) (passed + a.passed)
    put_one f some =
        by_test (ltb (budget - put) (size s a))
        (λ t. absurd (some (n ∙ ap length (one_none (ltb-true (budget - put) (size s a) t)))))
        (λ t. let h = ltb-false (budget - put) (size s a) t in
        let is : k ≡ size s a = omega (arith, n, ap length (one_all h), size-written (entry_of s a)) in
        let next : behind a ≡ a.place + 5 + a.length = (found s at f).next in
        rw (is, ← next) (taken g f h (b ∙ rw (one_all h))))

  -- ---- of the answer that the code has
  module _ (r : NextRecord) (is : r ≡ a) where
    pub advanced : (passed + r.passed ≤ length s) × (start + put + (passed + r.passed) ≤ r.place) × (r.place ≤ length s)
    advanced =
        let h = g.inside in
        rw is (
          omega (arith, g.spans, next_place s at h, next_passed s at h, next_place_le s at h),
          omega (arith, g.spans, next_place s at h, next_passed s at h),
          next_place_le s at h,
        )

    pub last_one : r.length ≡ 0 → Stops r x
    last_one = rw is ends

    pub stands_there : (r.length ≡ 0 → ⊥) → (r.length ≡ packet_length (drop r.place s)) × (1 ≤ r.length)
    stands_there f = (rw is (next_stands s at g.inside), omega arith)

    pub on_move : (r.length ≡ 0 → ⊥) → at < r.place + 5 + r.length
    on_move f = rw is (omega (arith, next_place s at g.inside))

    module _ (k : ℕ) (n : k ≡ length (put_of (budget - put) (entry_at s r.place))) (y : List ℕ)
        (b : y ≡ sets x put (put_of (budget - put) (entry_at s r.place))) where
      count : k ≡ length one
      unfolding one
      count = rw is at n

      laid : y ≡ sets x put one
      unfolding one
      laid = rw is at b

      pub nothing_put : k ≡ 0 → Stops r y
      nothing_put = rw is (none_put k count y laid)

      pub one_put : (r.length ≡ 0 → ⊥) → (k ≡ 0 → ⊥)
          → Going s start budget d y (r.place + 5 + r.length) (records + 1) (put + k) (passed + r.passed)
      one_put = rw is (put_one k count y laid)
