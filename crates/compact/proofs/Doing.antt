-- A share that comes to the end of a capture has done every record of it, and nothing is lost.
--     compacted                      records one right behind another, each rewritten
--     All, all_done                  what such a share writes, and what it counts
--     by_the_rule                    what is written, as one rule for each record
--     loses_nothing, none-shorter    what is written reads back as the records of the capture, and could not be shorter
-- Assumes nothing.
use Prim.Native.Nat.{ℕ, ◌+◌, ◌-◌, ◌<◌, ◌≤◌}
use native.Mathlib.Omega.{arith}
use mathlib.Core.Path.{◌≡◌, ap, ◌∙◌}
use mathlib.Core.List.{List, [], ◌∷◌, ◌++◌, map}
use lib.ListN.{length, drop, length-drop}
use Rattle.laws.specs.Bytes.{Bytes}
use Rattle.capture.specs.Records.{Entry, written, file_of}
use Rattle.capture.specs.Finding.{packet_length}
use Rattle.capture.specs.Reading.{readings, answers_for, records_in, records_of, passed_of}
use Rattle.capture.proofs.Laws.{length-fits}
use Rattle.capture.proofs.Files.{file_none, file_one}
use Rattle.capture.proofs.Written.{entry_in}
use Rattle.capture.proofs.Held.{records_of_nil, records_of_here, records_of_over, passed_of_nil, passed_of_here, passed_of_over, front_induction}
use Rattle.capture.proofs.Promises.{records_read_back}
use Rattle.capture_window.specs.Parts.{written_by}
use Rattle.capture_window.proofs.Places.{by_order}
use Rattle.compaction.specs.Account.{rewritten}
use Rattle.compaction.specs.Lossless.{StandAll, Faithful}
use Rattle.compaction.specs.Shortest.{Shortest}
use Rattle.compaction.proofs.Faithful.{records_back, records_stand, records_hold, records_same}
use Rattle.compaction.proofs.Least.{records_least}
use Rattle.compact.specs.Stream.{share_of, written_of}
use Rattle.compact.proofs.Fronts.{share_nil, written_nil, size_in, share_taken, written_taken, share-full, share_byte, written_byte}

abbrev pub compacted : List Entry → List ℕ
compacted es = file_of (map rewritten es)

pub record All (s : List ℕ) (b : ℕ) : Type 0 where
  pub writes : written_of s b ≡ compacted (records_of s)
  pub counts : (share_of s b).records ≡ length (records_of s)
  pub passes : (share_of s b).passed ≡ passed_of s

all_nil : (b : ℕ) → All [] b
all_nil b =
    record {
      writes = written_nil b ∙ rw (records_of_nil, file_none);
      counts = rw (share_nil b, records_of_nil);
      passes = rw (share_nil b, passed_of_nil);
    }

all_byte : (x : ℕ) (l : List ℕ) → packet_length (x ∷ l) ≡ 0 → (b : ℕ) → All l b → All (x ∷ l) b
all_byte x l z b k =
    record {
      writes = written_byte x l z b ∙ (k.writes ∙ rw (records_of_over x l z));
      counts = rw (share_byte x l z b, records_of_over x l z) (omega (arith, k.counts));
      passes = rw (share_byte x l z b, passed_of_over x l z) (omega (arith, k.passes));
    }

all_record : (l : List ℕ) (f : packet_length l ≡ 0 → ⊥) (b : ℕ) → size_in l ≤ b → All (drop (5 + packet_length l) l) (b - size_in l) → All l b
all_record l f b h k =
    let more = records_of (drop (5 + packet_length l) l) in
    record {
      writes = written_taken l f b h ∙ rw (k.writes, records_of_here l f, file_one (rewritten (entry_in l)) (map rewritten more));
      counts = rw (share_taken l f b h, records_of_here l f) (omega (arith, k.counts));
      passes = rw (share_taken l f b h, passed_of_here l f) (omega (arith, k.passes));
    }

abbrev Ends : List ℕ → ℕ → Type 0
Ends s b = length s ≤ (share_of s b).resume

ends_byte : (x : ℕ) (l : List ℕ) → packet_length (x ∷ l) ≡ 0 → (b : ℕ) → Ends (x ∷ l) b → Ends l b
ends_byte x l z b h = omega (arith, rw (share_byte x l z b) at h)

ends_record : (l : List ℕ) → (packet_length l ≡ 0 → ⊥) → (b : ℕ) → size_in l ≤ b → Ends l b
    → Ends (drop (5 + packet_length l) l) (b - size_in l)
ends_record l f b k h = omega (arith, rw (share_taken l f b k) at h, length-drop (5 + packet_length l) l, length-fits l f)

ends_not : (l : List ℕ) → (packet_length l ≡ 0 → ⊥) → (b : ℕ) → b < size_in l → Ends l b → ⊥
ends_not l f b k h = omega (arith, rw (share-full l f b k) at h, length-fits l f)

pub all_done : (s : List ℕ) (b : ℕ) → length s ≤ (share_of s b).resume → All s b
all_done =
    front_induction (λ s. (b : ℕ) → Ends s b → All s b)
    (λ b h. all_nil b)
    (λ x l z on b h. all_byte x l z b (on b (ends_byte x l z b h)))
    (λ l f on b h. by_order b (size_in l) (λ k. absurd (ends_not l f b k h)) (λ k. all_record l f b k (on (b - size_in l) (ends_record l f b k h))))

-- ---- as one rule for each record
abbrev pub the_rule : Entry → List ℕ
the_rule e = written (rewritten e)

pub by_the_rule : (es : List Entry) → compacted es ≡ written_by the_rule es
unfolding written_by
by_the_rule [] = file_none
by_the_rule (e ∷ es) = file_one (rewritten e) (map rewritten es) ∙ ap (λ (l : List ℕ). the_rule e ++ l) (by_the_rule es)

-- ---- nothing is lost
module _ (s : List ℕ) (bytes : Bytes s) where
  -- the records of what is written
  back : records_of (compacted (records_of s)) ≡ map rewritten (records_of s)
  back = records_back (map rewritten (records_of s)) (records_hold s bytes)

  pub loses_nothing : let out = compacted (records_of s) in
      StandAll s (records_in (readings s 0)) × (readings out 0 ≡ answers_for 0 (records_of out)) × Faithful (records_of s) (records_of out)
  loses_nothing =
      rw back (records_stand s bytes, records_read_back (map rewritten (records_of s)) (records_hold s bytes), records_same s bytes)

  pub none-shorter : Shortest (records_of s) (records_of (compacted (records_of s)))
  none-shorter = rw back (records_least s bytes)
