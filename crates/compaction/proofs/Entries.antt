-- The record that stands at a place of a capture, and the record of an answer.
--     stands_length, stands_holds, stands_written     its packet, and its bytes
--     size-written, size_most                         how long it is when it is rewritten
--     answer_entry, next-length, next-size            the same of an answer of reading
-- Assumes nothing.
use Prim.Native.Nat.{ℕ, ◌+◌, ◌≤◌}
use native.Mathlib.Omega.{arith}
use mathlib.Core.Path.{◌≡◌, sym, ap, ◌∙◌}
use mathlib.Core.List.{List}
use lib.ListN.{length, drop}
use lib.Seq.{get_or-drop, take-append_seam}
use Rattle.laws.specs.Bytes.{Bytes}
use Rattle.laws.proofs.Bytes.{bytes_drop}
use Rattle.blocks.specs.Blocks.{part}
use Rattle.capture.specs.Reading.{entry_of}
use Rattle.capture.specs.Records.{Entry, Holds, written}
use Rattle.capture.specs.Finding.{packet_length, packet_at, next_record}
use Rattle.capture.proofs.Packets.{packet_front}
use Rattle.capture.proofs.Written.{entry_in, written-length, found_length, found_holds, found_written}
use Rattle.capture.proofs.Answers.{next_line, next_stands}
use Rattle.spelling.proofs.Laws.{no_longer}
use Rattle.compaction.specs.Account.{rewritten, size}
use Rattle.compaction.specs.Parts.{entry_at}

entry_in_lem : (s : List ℕ) (at : ℕ) → entry_at s at ≡ entry_in (drop at s)
entry_in_lem s at = rw (get_or-drop, packet_front s at)

-- the bytes of a record, rewritten
pub size-written : (e : Entry) → length (written (rewritten e)) ≡ 5 + length (rewritten e).packet
size-written e = written-length (rewritten e)

size_most : (e : Entry) → length (rewritten e).packet ≤ length e.packet
size_most e = no_longer e.packet 65535

-- ---- where a record stands
module _ (s : List ℕ) (at : ℕ) (f : packet_length (drop at s) ≡ 0 → ⊥) where
  pub stands_length : length (packet_at s at) ≡ packet_length (drop at s)
  stands_length = rw (packet_front s at) (found_length (drop at s) f)

  module _ (bytes : Bytes s) where
    pub stands_holds : Holds (entry_at s at)
    stands_holds = rw (entry_in_lem s at) (found_holds (drop at s) (bytes_drop at s bytes) f)

    pub stands_written : written (entry_at s at) ≡ part s at (5 + packet_length (drop at s))
    stands_written =
        let e = entry_in (drop at s) in
        let long : length (written e) ≡ 5 + packet_length (drop at s) = written-length e ∙ ap (λ (n : ℕ). 5 + n) (found_length (drop at s) f) in
        rw (entry_in_lem s at, ← long)
        (sym (rw (← found_written (drop at s) (bytes_drop at s bytes) f) at (take-append_seam (written e) (drop (length (written e)) (drop at s)))))

-- ---- the record of an answer
module _ (s : List ℕ) (at : ℕ) (inside : at ≤ length s) where
  pub answer_entry : entry_of s (next_record s at) ≡ entry_at s (next_record s at).place
  answer_entry = rw (next_line s at inside)

  pub next-length : ((next_record s at).length ≡ 0 → ⊥) → length (packet_at s (next_record s at).place) ≡ (next_record s at).length
  next-length f = stands_length s (next_record s at).place (λ z. f (next_stands s at inside ∙ z)) ∙ sym (next_stands s at inside)

  pub next-size : ((next_record s at).length ≡ 0 → ⊥) → size s (next_record s at) ≤ 5 + (next_record s at).length
  next-size f = omega (arith, next-length f, size_most (entry_of s (next_record s at)))
