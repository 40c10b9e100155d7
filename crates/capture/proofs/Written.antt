-- The bytes of a record are found as that record, and where a record is found the bytes are those of one.
--     written-length, written_found, written_line, written_packet     what is found at the front of a record's bytes
--     found_length, found_holds, found_written     the record that is found, and its bytes
-- Assumes nothing.
use mathlib.Core.Path.{◌≡◌, refl}
use mathlib.Core.List.{List, [], ◌∷◌, ◌++◌}
use Prim.Native.Nat.{ℕ, suc, ◌+◌, ◌*◌, ◌/◌, ◌%◌, ◌<◌, ◌≤◌}
use native.Mathlib.Omega.{arith}
use lib.ListN.{length, get_or, take, drop, length-append, length-drop, take-append-drop}
use lib.Seq.{take-append_seam, length-take-le}
use borrow.Author.Tests.{le-leb}
use Rattle.laws.specs.Bytes.{Bytes}
use Rattle.capture.specs.Records.{Entry, Holds, written}
use Rattle.capture.specs.Finding.{packet_length, packet_at}
use Rattle.capture.proofs.Laws.{head_stands, length-fits}

-- ---- what is written is found
pub written-length : (e : Entry) → length (written e) ≡ 5 + length e.packet
unfolding written
written-length e = omega arith

two_bytes : (n : ℕ) → 256 * (n / 256) + n % 256 ≡ n
two_bytes n = omega arith

pub written_found : (e : Entry) (rest : List ℕ) → packet_length (written e ++ rest) ≡ length e.packet
unfolding packet_length written
written_found e rest =
    let n = length e.packet in
    let room : 5 + n ≤ suc (suc (suc (suc (suc (length (e.packet ++ rest)))))) = omega (arith, length-append e.packet rest) in
    simp (two_bytes, le-leb (5 + n) (suc (suc (suc (suc (suc (length (e.packet ++ rest))))))) room)

pub written_line : (e : Entry) (rest : List ℕ) → get_or (written e ++ rest) 2 0 ≡ e.line
unfolding written
written_line e rest = refl

written-behind_head : (e : Entry) (rest : List ℕ) → take (length e.packet) (drop 5 (written e ++ rest)) ≡ e.packet
unfolding written
written-behind_head e rest = take-append_seam e.packet rest

pub written_packet : (e : Entry) (rest : List ℕ) → packet_at (written e ++ rest) 0 ≡ e.packet
unfolding packet_at
written_packet e rest = rw (written_found e rest) (written-behind_head e rest)

-- ---- what is found is written
-- the record that is found at the front of a list
abbrev pub entry_in : List ℕ → Entry
entry_in l = record { line = get_or l 2 0; packet = packet_at l 0 }

-- its packet is as long as was found, and lies behind the head
pub found_length : (l : List ℕ) → (packet_length l ≡ 0 → ⊥) → length (packet_at l 0) ≡ packet_length l
unfolding packet_at
found_length l f = length-take-le (packet_length l) (drop 5 l) (omega (arith, length-fits l f, length-drop 5 l))

pub found_holds : (l : List ℕ) → Bytes l → (packet_length l ≡ 0 → ⊥) → Holds (entry_in l)
found_holds l h f =
    record {
      some = omega (arith, found_length l f);
      most = omega (arith, found_length l f, (head_stands l f).long, h.byte 3, h.byte 4);
    }

head_and_packet : (a b c x y n : ℕ) (rest : List ℕ) → a ≡ 0x4B → b ≡ 0x9D → n ≡ 256 * x + y → y < 256 → length (take n rest) ≡ n
    → a ∷ b ∷ c ∷ x ∷ y ∷ rest ≡ 0x4B ∷ 0x9D ∷ c ∷ (length (take n rest) / 256) ∷ (length (take n rest) % 256) ∷
    (take n rest ++ drop (length (take n rest)) rest)
head_and_packet a b c x y n rest ea eb is h long =
    let high : n / 256 ≡ x = omega arith in
    let low : n % 256 ≡ y = omega arith in
    simp (ea, eb, long, high, low, take-append-drop)

pub found_written : (l : List ℕ) → Bytes l → (packet_length l ≡ 0 → ⊥) → l ≡ written (entry_in l) ++ drop (length (written (entry_in l))) l
unfolding written packet_at
found_written [] h f = absurd (omega (arith, length-fits [] f))
found_written (a ∷ []) h f = absurd (omega (arith, length-fits (a ∷ []) f))
found_written (a ∷ b ∷ []) h f = absurd (omega (arith, length-fits (a ∷ b ∷ []) f))
found_written (a ∷ b ∷ c ∷ []) h f = absurd (omega (arith, length-fits (a ∷ b ∷ c ∷ []) f))
found_written (a ∷ b ∷ c ∷ x ∷ []) h f = absurd (omega (arith, length-fits (a ∷ b ∷ c ∷ x ∷ []) f))
found_written (a ∷ b ∷ c ∷ x ∷ y ∷ rest) h f =
    let l = a ∷ b ∷ c ∷ x ∷ y ∷ rest in
    let head = head_stands l f in
    head_and_packet a b c x y (packet_length l) rest head.first head.second head.long (h.byte 4) (found_length l f)
