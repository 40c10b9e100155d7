-- The records of a capture looked for in a new file, one by one.
--     left, left_end, left_on                    the records of a capture from a place on
--     length_most                                the packet of a record
--     Meets                                      what is answered
--     Looking, looking_start                     where the loop stands
--     ends, no_record, other_line, other_packet  the answers: no record is left, or one is not found
--     Placed, behind_both                        where both have a record, the places behind them
--     short, new_short                           and packets that can be held against each other
--     turn                                       a record that is found
-- Assumes nothing.
use Prim.Native.Nat.{ℕ, ◌+◌, ◌≤◌}
use native.Mathlib.Omega.{arith}
use mathlib.Core.Path.{◌≡◌, refl, sym, ap, ◌∙◌}
use mathlib.Core.List.{List, [], ◌∷◌, ◌++◌, append_assoc, append-nil}
use mathlib.Core.Bool.{Bool, true, false}
use lib.ListN.{length, get_or, take, drop, length-append}
use lib.Seq.{take_at, get_or-drop, drop-drop}
use Rattle.laws.specs.Bytes.{Bytes}
use Rattle.laws.proofs.Bytes.{bytes_drop}
use Rattle.laws.proofs.Never.{never}
use Rattle.capture.specs.Records.{Entry}
use Rattle.capture.specs.Finding.{packet_length, packet_at, next_record}
use Rattle.capture.specs.Reading.{behind, readings, entry_of, entries, records_in, records_of}
use Rattle.capture.specs.declared.NextRecord.{NextRecord}
use Rattle.capture.proofs.Laws.{within}
use Rattle.capture.proofs.Packets.{packet_front}
use Rattle.capture.proofs.Written.{found_holds}
use Rattle.capture.proofs.Answers.{next_line, next_stands, found}
use Rattle.capture.proofs.Steps.{readings_end, readings_on}
use Rattle.capture.proofs.Held.{records_none, records_one, records_end, records_are}
use Rattle.compaction.specs.Lossless.{Same}
use Rattle.sameness.specs.Sameness.{Tells, Begins}
use Rattle.sameness.proofs.Beginning.{begins-none, begins_more, heads}

-- ---- the records of a capture from a place on
abbrev pub left : List ℕ → ℕ → List Entry
left s at = entries s (records_in (readings s at))

module _ (s : List ℕ) (at : ℕ) where
  left_end : (next_record s at).length ≡ 0 → left s at ≡ []
  left_end z = rw (readings_end s at z, records_none (next_record s at) [] z, records_end)

  left_on : at ≤ length s → ((next_record s at).length ≡ 0 → ⊥) → let a = next_record s at in left s at ≡ entry_of s a ∷ left s (behind a)
  left_on h f = let a = next_record s at in rw (readings_on s at h f, records_one a (readings s (behind a)) f)

-- its packet
pub length_most : (s : List ℕ) (at : ℕ) → Bytes s → (packet_length (drop at s) ≡ 0 → ⊥) → length (packet_at s at) ≤ 65535
length_most s at bytes f = rw (packet_front s at) (found_holds (drop at s) (bytes_drop at s bytes) f).most

-- ---- what is answered: whether all were found, how many were, and the bytes that these take
abbrev pub Meets : List ℕ → List ℕ → Bool → ℕ → ℕ → Type 0
Meets s new all records bytes =
    Begins (take records (records_of s)) new bytes
    × ((all ≡ true → records ≡ length (records_of s)) × ((n : ℕ) → Begins (records_of s) new n → all ≡ true))

-- ---- where the loop stands: the records of s before `at` are found in the first `to` bytes of the new file
pub record Looking (s new : List ℕ) (at to records : ℕ) : Type 0 where
  pub inside : at ≤ length s
  pub few : records ≤ at
  pub done : List Entry
  pub whole : records_of s ≡ done ++ left s at
  pub count : length done ≡ records
  pub begun : Begins done new to
  pub only : (n : ℕ) → Begins (records_of s) new n → (m : ℕ) × Begins (left s at) (drop to new) m

pub looking_start : (s new : List ℕ) → Looking s new 0 0 0
looking_start s new =
    record {
      inside = omega arith;
      few = omega arith;
      done = [];
      whole = records_are s;
      count = refl;
      begun = begins-none new;
      only = λ n b. (n, rw (records_are s) at b);
    }

-- where both have a record, of which the packet in the new file has k bytes
pub record Placed (s new : List ℕ) (at to records : ℕ) (a : NextRecord) (k : ℕ) : Type 0 where
  pub some : 1 ≤ a.length
  pub from : at ≤ a.place
  pub within : a.place + 5 + a.length ≤ length s
  pub room : to + 5 + k ≤ length new
  pub few : records ≤ at

module _ {s new : List ℕ} {at to records : ℕ} (g : Looking s new at to records) {a : NextRecord} (e : a ≡ next_record s at) where
  answered : take records (records_of s) ≡ g.done
  answered = rw g.whole (take_at g.done (left s at) records g.count)

  -- ---- no record is left
  pub ends : a.length ≡ 0 → Meets s new true records to
  ends z =
      let over : left s at ≡ [] = left_end s at (ap (λ (x : NextRecord). x.length) (sym e) ∙ z) in
      let all : records_of s ≡ g.done = g.whole ∙ rw (over, append-nil g.done) in
      (rw answered g.begun, (λ t. sym (ap length all ∙ g.count), λ n b. refl))

  -- ---- a record
  module _ (f : a.length ≡ 0 → ⊥) where
    is_record : (next_record s at).length ≡ 0 → ⊥
    is_record z = f (ap (λ (x : NextRecord). x.length) e ∙ z)

    there : (1 ≤ a.length) × (a.place + 5 + a.length ≤ length s) × (at ≤ a.place)
    there = let k = found s at is_record in rw e (k.some, omega (arith, k.inside, k.next), k.from)

    next : left s at ≡ entry_of s a ∷ left s (a.place + 5 + a.length)
    next = rw (e, ← (found s at is_record).next) (left_on s at g.inside is_record)

    stands : packet_length (drop a.place s) ≡ a.length
    stands = rw e (sym (next_stands s at g.inside))

    line_is : (entry_of s a).line ≡ get_or s (a.place + 2) 0
    line_is = rw e (next_line s at g.inside)

    -- where the file does not go on with that record, not all records begin it
    stops : ((m : ℕ) → Begins (entry_of s a ∷ left s (a.place + 5 + a.length)) (drop to new) m → ⊥) → Meets s new false records to
    stops never-goes-on =
        (rw answered g.begun, (λ t. never (cc), λ n b. absurd (let o = g.only n b in never-goes-on o.0 (rw next at o.1))))

    -- its packet is not too long to be read
    pub short : Bytes s → {x : List ℕ} → x ≡ packet_at s a.place → length x ≤ 65535
    short bytes p = rw p (length_most s a.place bytes (λ z. f (sym stands ∙ z)))

    -- ---- what stands in the new file
    module _ {k : ℕ} (is : k ≡ packet_length (drop to new)) where
      pub no_record : k ≡ 0 → Meets s new false records to
      no_record z = stops (λ m b. (heads b).stands (sym is ∙ z))

      pub other_line : (get_or s (a.place + 2) 0 ≡ get_or new (to + 2) 0 → ⊥) → Meets s new false records to
      other_line d = stops (λ m b. d (sym line_is ∙ (sym (heads b).line ∙ get_or-drop to new 2 0)))

      packet_same : {x y : List ℕ} → x ≡ packet_at s a.place → y ≡ packet_at new to → Same (entry_of s a).packet (packet_at (drop to new) 0)
          → Same x y
      packet_same p q b = rw (p, q, packet_front new to) b

      pub other_packet : {x y : List ℕ} {r : Bool} → x ≡ packet_at s a.place → y ≡ packet_at new to → Tells r (Same x y) → r ≡ false
          → Meets s new false records to
      other_packet p q t z = stops (λ m b. never (let o = t.only (packet_same p q (heads b).same) in cc))

      module _ (n : k ≡ 0 → ⊥) where
        pub behind_both : Placed s new at to records a k
        behind_both =
            let t = there in
            record { some = t.0; from = t.2; within = t.1; room = within new to k is n; few = g.few }

        stands_there : packet_length (drop to new) ≡ 0 → ⊥
        stands_there z = n (is ∙ z)

        pub new_short : Bytes new → {y : List ℕ} → y ≡ packet_at new to → length y ≤ 65535
        new_short bytes q = rw q (length_most new to bytes stands_there)

        pub turn : Bytes new → get_or s (a.place + 2) 0 ≡ get_or new (to + 2) 0 → {x y : List ℕ} {r : Bool} → x ≡ packet_at s a.place
            → y ≡ packet_at new to → Tells r (Same x y) → r ≡ true → Looking s new (a.place + 5 + a.length) (to + (5 + k)) (records + 1)
        turn bytes line p q t z =
            let l = drop to new in
            let d = entry_of s a in
            let more = left s (a.place + 5 + a.length) in
            let same : Same d.packet (packet_at l 0) = rw (← p, ← packet_front new to, ← q) (t.so z) in
            let same_line : get_or l 2 0 ≡ d.line = get_or-drop to new 2 0 ∙ (sym line ∙ sym line_is) in
            record {
              inside = there.1;
              few = omega (arith, g.few, there);
              done = g.done ++ (d ∷ []);
              whole = g.whole ∙ (ap (λ (i : List Entry). g.done ++ i) next ∙ sym (append_assoc g.done (d ∷ []) more));
              count = length-append g.done (d ∷ []) ∙ omega (arith, g.count);
              begun = rw is (begins_more g.begun d (bytes_drop to new bytes) stands_there same_line same);
              only = λ i b.
                  let h = heads (rw next at (g.only i b).1) in
                  rw (is, ← drop-drop (5 + packet_length l) to new) (h.size, h.rest);
            }
