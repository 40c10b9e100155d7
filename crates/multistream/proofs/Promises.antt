-- What a buyer may count on when a multistream packet is padded or stripped of padding where it lies.
-- Assumes nothing.
use Prim.Native.Nat.{ℕ, suc, ◌≤◌, ◌<◌}
use native.Mathlib.Omega.{arith}
use mathlib.Core.Path.{◌≡◌}
use mathlib.Core.List.{List}
use lib.Dec.{eqb}
use lib.IntN.{ℤ, pos, negsuc}
use lib.ListN.{length, take}
use borrow.Author.Tests.{eqb-true, eqb-false}
use Rattle.laws.specs.Bytes.{Bytes}
use Rattle.laws.proofs.Bytes.{bytes_take}
use Rattle.laws.proofs.Never.{by_test}
use Rattle.opus_defines.specs.Outcome.{writes}
use Rattle.opus_defines.proofs.Outcomes.{refusal-keeps}
use Rattle.opus.specs.Named.{Named}
use Rattle.packet_pad.specs.Lengths.{length_of, Outside, lengths_of, bounded, by_lengths}
use Rattle.packet_pad.proofs.Given.{length_outside, first_outside, new_outside}
use Rattle.packet_pad.specs.Pad.{pads_to}
use Rattle.multistream.specs.Streams.{streams_of}
use Rattle.multistream.specs.Pad.{pad_streams, streams_padded}
use Rattle.multistream.specs.Unpad.{unpad_streams, streams_unpadded}
use Rattle.multistream.specs.Reading.{Stream, streams, read_streams, compact_streams}
use Rattle.multistream.proofs.Calls.{pad_refuses, unpad_refuses}
use Rattle.multistream.proofs.Written.{compact-within, unpad_compact, readable_some_bytes, pad_equal, pad_holds, pad_unpad}
use Rattle.multistream.proofs.Holding.{compact_holds}
use Rattle.multistream.proofs.Naming.{pad_named, unpad_named}
use Rattle.multistream.proofs.Stages.{pad_stages, unpad_again}
use Rattle.multistream.proofs.Roomy.{unpad_roomy}

-- a multistream packet of k + 1 streams that can be read, in the first len bytes of a buffer
module _ (s : List ℕ) (bytes : Bytes s) (len : ℕ) (fits : len ≤ length s) (most : len ≤ 65535) (k : ℕ) (few : suc k ≤ 255) (xs : List Stream)
    (r : read_streams k (take len s) ≡ streams xs) where
  -- Unpad never refuses it: it writes the compact packets of its streams one behind another (each the shortest of its kind: `compact_is_shortest`,
  -- repacketizer_out/proofs/Promises.antt),
  pub unpad_is_compact : streams_unpadded s (pos len) (pos (suc k)) ≡ writes (compact_streams k xs) s
  unpad_is_compact = unpad_compact s len (readable_some_bytes s bytes len fits most k few xs r) fits most k few xs r

  -- which hold stream by stream the same frames and upper six TOC bits,
  pub unpad_keeps_the_streams : read_streams k (compact_streams k xs) ≡ streams xs
  unpad_keeps_the_streams = compact_holds k (take len s) (bytes_take len s bytes) xs r

  -- and are no longer than any packet that holds them.
  pub unpad_is_shortest : (p : List ℕ) → Bytes p → read_streams k p ≡ streams xs → length (compact_streams k xs) ≤ length p
  unpad_is_shortest p b e = compact-within k p b xs e

  -- Pad never refuses it: what it writes has the new length and holds the same.
  pub pad_keeps_the_streams : (new : ℕ) → len < new → new ≤ length s → new ≤ 65535
      → (q : List ℕ) × (streams_padded s (pos len) (pos new) (pos (suc k)) ≡ pads_to q s) × (read_streams k q ≡ streams xs) × (length q ≡ new)
  pad_keeps_the_streams new more room short =
      pad_holds s bytes len fits most k few xs r new more room short

  -- Padded, to a longer length or to its own, and then unpadded, it is what unpadding alone gives.
  pub pad_then_unpad : (new : ℕ) → len ≤ new → new ≤ length s → new ≤ 65535
      → let after = (streams_padded s (pos len) (pos new) (pos (suc k))).bytes in
      streams_unpadded after (pos new) (pos (suc k)) ≡ writes (compact_streams k xs) after
  pad_then_unpad new more room short =
      by_test (eqb len new)
      (λ e. rw (← eqb-true len new e, pad_equal s bytes len fits most k few xs r) unpad_is_compact)
      (λ e. pad_unpad s bytes len fits most k few xs r new (omega (arith, eqb-false len new e)) room short)

  -- M-112. Padded to n and then to m, it is what padding straight to m leaves: the number, and every byte of the buffer.
  pub pad_by_stages : (n m : ℕ) → len ≤ n → n ≤ m → m ≤ length s → m ≤ 65535
      → let after = (streams_padded s (pos len) (pos n) (pos (suc k))).bytes in
      streams_padded after (pos n) (pos m) (pos (suc k)) ≡ streams_padded s (pos len) (pos m) (pos (suc k))
  pad_by_stages = pad_stages s bytes len fits most k few xs r

  -- Unpadded twice, it is what unpadding once gives, in number and bytes.
  pub unpad_twice : let once = streams_unpadded s (pos len) (pos (suc k)) in streams_unpadded once.bytes once.report.number (pos (suc k)) ≡ once
  unpad_twice = unpad_again s bytes len fits most k few xs r

-- Unpad never lacks room: whatever the buffer, the length and the number of streams, it does not answer -2.
pub unpad_never_lacks_room : (s : List ℕ) (len nb : ℤ) → (streams_unpadded s len nb).report.number ≡ negsuc 1 → ⊥
unpad_never_lacks_room = unpad_roomy

-- A refusal leaves every byte.
pub refused_pad_changes_nothing : (s : List ℕ) (len new nb : ℤ) (n : ℕ) → (streams_padded s len new nb).report.number ≡ negsuc n
    → (streams_padded s len new nb).bytes ≡ s
unfolding streams_padded
refused_pad_changes_nothing s len new nb n e =
    refusal-keeps s (bounded (λ k. by_lengths (λ n m. pad_streams k (take n s) m) (lengths_of s len new)) (streams_of nb)) n e

pub refused_unpad_changes_nothing : (s : List ℕ) (len nb : ℤ) (n : ℕ) → (streams_unpadded s len nb).report.number ≡ negsuc n
    → (streams_unpadded s len nb).bytes ≡ s
unfolding streams_unpadded
refused_unpad_changes_nothing s len nb n e =
    refusal-keeps s (bounded (λ k. bounded (λ n. unpad_streams k (take n s)) (length_of s len)) (streams_of nb)) n e

-- A length that is negative, 0, above the buffer or above 65,535 is refused by -1, whatever else is wrong.
pub pad_length_outside : (s : List ℕ) (len new nb : ℤ) → Outside s len → (streams_padded s len new nb).report.number ≡ negsuc 0
pad_length_outside s len new nb o = rw (pad_refuses s len new nb (first_outside s len new o))

pub pad_new_length_outside : (s : List ℕ) (len new nb : ℤ) → Outside s new → (streams_padded s len new nb).report.number ≡ negsuc 0
pad_new_length_outside s len new nb o = rw (pad_refuses s len new nb (new_outside s len new o))

pub unpad_length_outside : (s : List ℕ) (len nb : ℤ) → Outside s len → (streams_unpadded s len nb).report.number ≡ negsuc 0
unpad_length_outside s len nb o = rw (unpad_refuses s len nb (length_outside s len o))

-- M-100. Rule and place are those of the reader's refusal of a stream, the place counted from the packet's front, and 0 in every other answer.
pub pad_names : (s : List ℕ) → Bytes s → (len new nb : ℤ) → Named (take (length_of s len) s) (streams_padded s len new nb).report
pad_names = pad_named

pub unpad_names : (s : List ℕ) (len nb : ℤ) → Named (take (length_of s len) s) (streams_unpadded s len nb).report
unpad_names = unpad_named
