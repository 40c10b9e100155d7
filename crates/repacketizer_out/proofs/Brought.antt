-- The frames of the accepted packet with a number (document 02, M-107).
--     brought_at                              among frames with numbers in blocks, those with number k are the frames of packet k
--     Split, split_at, came_at                an accepted packet by its place
--     number_held, number_past, ..            output by number, of a collector whose frames came in these packets
-- Assumes nothing.
use Prim.Native.Nat.{ℕ, zero, suc, ◌+◌, ◌≤◌, ◌<◌}
use native.Mathlib.Nat.{zero-add, add-zero}
use native.Mathlib.Omega.{arith}
use mathlib.Core.Path.{◌≡◌, refl, ap, ◌∙◌}
use mathlib.Core.List.{List, [], ◌∷◌, ◌++◌, append-nil}
use mathlib.Core.Bool.{true, false}
use lib.Dec.{ltb}
use lib.IntN.{ℤ, pos, negsuc}
use lib.ListN.{length, replicate}
use borrow.Author.Tests.{eq-eqb, ne_eqb, le-ltb, ltb-false}
use Rattle.laws.proofs.Never.{by_test}
use Rattle.opus_defines.specs.Bounds.{most_packet}
use Rattle.opus_defines.specs.Outcome.{leaves, refuses}
use Rattle.opus_defines.specs.declared.Refusal.TheVariants.{BadArg}
use Rattle.opus_toc.specs.Toc.{upper_six}
use Rattle.opus_format.proofs.Facts.{facts, frames_counted}
use Rattle.collector.specs.Collector.{held, held_numbers, least_store}
use Rattle.repacketizer.specs.Runs.{State, Ready, Arrival, frames_in, frames_of_all, blocks}
use Rattle.repacketizer.proofs.Runs.{Came, AllCame}
use Rattle.repacketizer_out.specs.Output.{output}
use Rattle.repacketizer_out.specs.Numbered.{brought_by, output_of, out_numbered}
use Rattle.repacketizer_out.proofs.Numbered.{some_output}

-- ---- a block
block_same : (k : ℕ) (f fs : List (List ℕ)) (ns : List ℕ) → brought_by k (replicate (length f) k ++ ns) (f ++ fs) ≡ f ++ brought_by k ns fs
unfolding brought_by
block_same k [] fs ns = refl
block_same k (x ∷ f) fs ns = rw (eq-eqb k k refl, block_same k f fs ns)

block_other : (k j : ℕ) → (j ≡ k → ⊥) → (f fs : List (List ℕ)) (ns : List ℕ)
    → brought_by k (replicate (length f) j ++ ns) (f ++ fs) ≡ brought_by k ns fs
unfolding brought_by
block_other k j d [] fs ns = refl
block_other k j d (x ∷ f) fs ns = rw (ne_eqb j k d, block_other k j d f fs ns)

-- ---- blocks, the first with number j
brought_before : (k j : ℕ) → k < j → (l : List Arrival) → brought_by k (blocks j l) (frames_of_all l) ≡ []
unfolding brought_by
brought_before k j h [] = refl
brought_before k j h (a ∷ l) =
    block_other k j (λ e. omega arith) (frames_in a) (frames_of_all l) (blocks (j + 1) l) ∙ brought_before k (j + 1) (omega arith) l

brought_behind : (k j : ℕ) (l : List Arrival) → j + length l ≤ k → brought_by k (blocks j l) (frames_of_all l) ≡ []
unfolding brought_by
brought_behind k j [] h = refl
brought_behind k j (a ∷ l) h =
    block_other k j (λ e. omega arith) (frames_in a) (frames_of_all l) (blocks (j + 1) l) ∙ brought_behind k (j + 1) l (omega arith)

brought_at : (j : ℕ) (before : List Arrival) (a : Arrival) (after : List Arrival)
    → let l = before ++ (a ∷ after) in brought_by (j + length before) (blocks j l) (frames_of_all l) ≡ frames_in a
brought_at j [] a after =
    rw (add-zero j)
    (block_same j (frames_in a) (frames_of_all after) (blocks (j + 1) after)
    ∙ rw (brought_before j (j + 1) (omega arith) after) (append-nil (frames_in a)))
brought_at j (b ∷ before) a after =
    let e : j + suc (length before) ≡ j + 1 + length before = omega arith in
    rw e
    (block_other (j + 1 + length before) j (λ z. omega arith) (frames_in b) (frames_of_all (before ++ (a ∷ after))) (blocks (j + 1) (before ++ (a ∷ after)))
    ∙ brought_at (j + 1) before a after)

-- ---- a place of a list
pub record Split (k : ℕ) (l : List Arrival) : Type 0 where
  pub before : List Arrival
  pub one : Arrival
  pub after : List Arrival
  pub whole : l ≡ before ++ (one ∷ after)
  pub place : length before ≡ k

pub split_at : (k : ℕ) (l : List Arrival) → k < length l → Split k l
split_at k [] h = absurd (omega arith)
split_at zero (a ∷ l) h = record { before = []; one = a; after = l; whole = refl; place = refl }
split_at (suc k) (a ∷ l) h =
    let s = split_at k l (omega arith) in
    record { before = a ∷ s.before; one = s.one; after = s.after; whole = ap (λ (m : List Arrival). a ∷ m) s.whole; place = ap suc s.place }

pub came_at : (six : ℕ) (before : List Arrival) (a : Arrival) (after : List Arrival) → AllCame six (before ++ (a ∷ after)) → Came six a
came_at six [] a after c = c.0
came_at six (b ∷ before) a after c = came_at six before a after c.1

-- an accepted packet has a frame
came_some : (six : ℕ) (a : Arrival) → Came six a → 1 ≤ length (frames_in a)
came_some six a c =
    let f = facts a.sd a.packet c.toc c.ns c.first c.end c.bytes c.reads in
    rw (frames_counted a.sd a.packet c.toc c.ns c.first c.end c.reads c.bytes) f.some

-- ---- the output, of a collector whose frames came in the packets l
module _ (s : State) (r : Ready s) (l : List Arrival) (numbers : held_numbers s.rp ≡ blocks 0 l) (frames : held s.rp s.store ≡ frames_of_all l)
    (dst : List ℕ) where
  reached : length dst ≤ 65535 → (number : ℤ)
      → out_numbered s.rp s.store number dst ≡ leaves dst (output_of (upper_six s.rp.toc) (blocks 0 l) (frames_of_all l) number (length dst))
  unfolding out_numbered
  reached h number = rw (r.soundly, le-ltb (length s.store) least_store r.roomy, le-ltb most_packet (length dst) h, numbers, frames)

  pub number_held : length dst ≤ 65535 → (six : ℕ) → upper_six s.rp.toc ≡ six → (before : List Arrival) (a : Arrival) (after : List Arrival)
      → l ≡ before ++ (a ∷ after) → Came six a
      → out_numbered s.rp s.store (pos (length before)) dst ≡ leaves dst (output false false six (frames_in a) (length dst))
  number_held h six e before a after q c =
      let at : brought_by (length before) (blocks 0 (before ++ (a ∷ after))) (frames_of_all (before ++ (a ∷ after))) ≡ frames_in a =
      rw (zero-add (length before)) at (brought_at 0 before a after) in
      reached h (pos (length before))
      ∙ rw (e, q, at) (ap (leaves dst) (some_output six (frames_in a) (length dst) (came_some six a c)))

  -- where the destination is too long, nothing else is asked
  too_long : (number : ℤ) → ltb most_packet (length dst) ≡ true → out_numbered s.rp s.store number dst ≡ refuses BadArg dst
  unfolding out_numbered
  too_long number t = rw (r.soundly, le-ltb (length s.store) least_store r.roomy, t)

  pub number_past : (k : ℕ) → length l ≤ k → out_numbered s.rp s.store (pos k) dst ≡ refuses BadArg dst
  number_past k h =
      by_test (ltb most_packet (length dst)) (too_long (pos k))
      (λ t. reached (ltb-false most_packet (length dst) t) (pos k) ∙ rw (brought_behind k 0 l (omega arith)))

  pub number_negative : (k : ℕ) → out_numbered s.rp s.store (negsuc k) dst ≡ refuses BadArg dst
  number_negative k =
      by_test (ltb most_packet (length dst)) (too_long (negsuc k)) (λ t. reached (ltb-false most_packet (length dst) t) (negsuc k))
