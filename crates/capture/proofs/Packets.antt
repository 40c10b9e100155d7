-- The packet of the record at a place, as a list of bytes.
--     packet_front      it is that of the record at the front of what stands from there on
--     packet_bytes      its numbers are bytes
-- Assumes nothing.
use mathlib.Core.Path.{◌≡◌}
use mathlib.Core.List.{List}
use Prim.Native.Nat.{ℕ, ◌+◌}
use native.Mathlib.Nat.{zero-add}
use lib.ListN.{drop}
use lib.Seq.{drop-drop}
use Rattle.laws.specs.Bytes.{Bytes}
use Rattle.laws.proofs.Bytes.{bytes_take, bytes_drop}
use Rattle.capture.specs.Finding.{packet_length, packet_at}

module _ (s : List ℕ) (at : ℕ) where
  pub packet_front : packet_at s at ≡ packet_at (drop at s) 0
  unfolding packet_at
  packet_front = rw (zero-add, drop-drop 5 at s)

  pub packet_bytes : Bytes s → Bytes (packet_at s at)
  unfolding packet_at
  packet_bytes bytes = bytes_take (packet_length (drop at s)) (drop (at + 5) s) (bytes_drop (at + 5) s bytes)
