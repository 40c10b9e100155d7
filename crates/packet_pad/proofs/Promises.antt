-- What a buyer may count on when a packet is padded or stripped of padding where it lies (demand 3).
-- Assumes nothing.
use Prim.Native.Nat.{ℕ, ◌≤◌, ◌<◌}
use native.Mathlib.Omega.{arith}
use mathlib.Core.Path.{◌≡◌, refl, sym, ◌∙◌}
use mathlib.Core.List.{List}
use mathlib.Core.Bool.{false}
use lib.Dec.{eqb}
use lib.IntN.{ℤ, pos, negsuc}
use lib.ListN.{length, get_or, take, drop}
use lib.Seq.{length-take-le}
use borrow.Author.Tests.{eqb-true, eqb-false}
use Rattle.laws.specs.Bytes.{Bytes}
use Rattle.laws.proofs.Bytes.{bytes_take}
use Rattle.laws.proofs.Never.{by_test}
use Rattle.opus_defines.specs.Outcome.{writes}
use Rattle.opus_defines.proofs.Outcomes.{refusal-keeps}
use Rattle.opus_toc.specs.Toc.{upper_six}
use Rattle.opus_format.specs.Frames.{cut}
use Rattle.opus_format.specs.Format.{Spells}
use Rattle.opus_format.specs.Reading.{accepted, read, frames_of}
use Rattle.opus.specs.Named.{Named}
use Rattle.opus_header.specs.Compact.{compact, filling}
use Rattle.opus_header.proofs.Filling.{filling-length}
use Rattle.opus_header.proofs.Rebuilt.{spelled_some, compact_of_lem, never_longer}
use Rattle.packet_pad.specs.Lengths.{length_of, Outside, lengths_of, bounded, by_lengths}
use Rattle.packet_pad.specs.Pad.{pads_to, pad_packet, padded}
use Rattle.packet_pad.specs.Unpad.{unpad_packet, unpadded}
use Rattle.packet_pad.proofs.Given.{length_outside, first_outside, new_outside}
use Rattle.packet_pad.proofs.Calls.{pad_bad, unpad_none}
use Rattle.packet_pad.proofs.Spelled.{read_whole, reads_back, filling_of, pad_spelled, pad_equal, unpad_spelled, unpad_written}
use Rattle.packet_pad.proofs.Naming.{pad_named, unpad_named}
use Rattle.packet_pad.proofs.Stages.{pad_stages, pad_front, unpad_again}

-- a packet that the reader accepts, in the first len bytes of a buffer
module _ (s : List ℕ) (bytes : Bytes s) (len : ℕ) (fits : len ≤ length s) (most : len ≤ 65535) (toc : ℕ) (ns : List ℕ) (first taken : ℕ)
    (r : read false (take len s) ≡ accepted toc ns first taken) where
  abbrev six : ℕ
  six = upper_six toc

  abbrev frames : List (List ℕ)
  frames = cut ns (drop first (take len s))

  packet : Spells false six (take len s) frames
  packet = read_whole (take len s) toc ns first taken (bytes_take len s bytes) r

  -- 2. Unpad gives the compact packet of the reader's frames, and never refuses,
  pub unpad_is_compact : unpadded s (pos len) ≡ writes (compact false six frames) s
  unpad_is_compact = unpad_spelled s len fits most packet

  -- which has a byte and is no longer than the packet was (so that the crate's assertion holds, too),
  pub unpad_never_grows : (1 ≤ length (compact false six frames)) × (length (compact false six frames) ≤ len)
  unpad_never_grows = (spelled_some (compact_of_lem packet), omega (arith, never_longer packet, length-take-le len s fits))

  -- and reads back as the same frames with the same upper six TOC bits.
  pub unpadded_reads_back : (frames_of (compact false six frames) (read false (compact false six frames)) ≡ frames)
      × (upper_six (get_or (compact false six frames) 0 0) ≡ six)
  unpadded_reads_back = reads_back (compact_of_lem packet)

  module _ (new : ℕ) (more : len < new) (room : new ≤ length s) (short : new ≤ 65535) where
    -- Pad gives the packet of exactly the new length with those frames, and never refuses,
    pub pad_is_filling : padded s (pos len) (pos new) ≡ pads_to (filling false six frames new) s
    pad_is_filling = pad_spelled s len fits most packet new more room short

    pub padded_has_the_length : length (filling false six frames new) ≡ new
    padded_has_the_length = filling-length false six frames new (omega (arith, unpad_never_grows))

    -- and it reads back as the same frames with the same upper six TOC bits.
    pub padded_reads_back : (frames_of (filling false six frames new) (read false (filling false six frames new)) ≡ frames)
        × (upper_six (get_or (filling false six frames new) 0 0) ≡ six)
    padded_reads_back = reads_back (filling_of packet new)

    pad_more_then_unpad : unpadded (padded s (pos len) (pos new)).bytes (pos new) ≡ writes (compact false six frames) (padded s (pos len) (pos new)).bytes
    pad_more_then_unpad = rw pad_is_filling (unpad_written s new padded_has_the_length room short (filling_of packet new))

  -- 1. Padded, to a longer length or to its own, and then unpadded, it is what unpadding alone gives: the same packet and the same length.
  pub pad_then_unpad : (new : ℕ) → len ≤ new → new ≤ length s → new ≤ 65535
      → let after = (padded s (pos len) (pos new)).bytes in unpadded after (pos new) ≡ writes (compact false six frames) after
  pad_then_unpad new more room short =
      by_test (eqb len new)
      (λ e. rw (← eqb-true len new e, pad_equal s len fits most packet) unpad_is_compact)
      (λ e. pad_more_then_unpad new (omega (arith, eqb-false len new e)) room short)

  -- M-112. Padded to n and then to m, it is what padding straight to m leaves: the number, and every byte of the buffer.
  pub pad_by_stages : (n m : ℕ) → len ≤ n → n ≤ m → m ≤ length s → m ≤ 65535
      → padded (padded s (pos len) (pos n)).bytes (pos n) (pos m) ≡ padded s (pos len) (pos m)
  pad_by_stages = pad_stages s len fits most packet

  -- Unpadded twice, it is what unpadding once gives, in number and bytes.
  pub unpad_twice : let once = unpadded s (pos len) in unpadded once.bytes once.report.number ≡ once
  unpad_twice = unpad_again s len fits most packet

-- M-112. Two packets with the same frames and upper six TOC bits, both shorter than m, pad to the same m bytes.
module _ (s : List ℕ) (bytes : Bytes s) (len : ℕ) (toc : ℕ) (ns : List ℕ) (first taken : ℕ)
    (r : read false (take len s) ≡ accepted toc ns first taken)
    (t : List ℕ) (other : Bytes t) (long : ℕ) (mark : ℕ) (ks : List ℕ) (from used : ℕ)
    (q : read false (take long t) ≡ accepted mark ks from used) where
  pub same_frames_pad_alike : upper_six toc ≡ upper_six mark → cut ns (drop first (take len s)) ≡ cut ks (drop from (take long t))
      → (m : ℕ) → len < m → long < m → m ≤ length s → m ≤ length t → m ≤ 65535
      → take m (padded s (pos len) (pos m)).bytes ≡ take m (padded t (pos long) (pos m)).bytes
  same_frames_pad_alike six frames m less fewer room space short =
      let w = read_whole (take len s) toc ns first taken (bytes_take len s bytes) r in
      let v = read_whole (take long t) mark ks from used (bytes_take long t other) q in
      pad_front s len (omega arith) (omega arith) w m less room short
      ∙ (rw (six, frames) (sym (pad_front t long (omega arith) (omega arith) v m fewer space short)))

-- 7. A refusal leaves every byte.
pub refused_pad_changes_nothing : (s : List ℕ) (len new : ℤ) (n : ℕ) → (padded s len new).report.number ≡ negsuc n → (padded s len new).bytes ≡ s
unfolding padded
refused_pad_changes_nothing s len new n e = refusal-keeps s (by_lengths (λ n m. pad_packet (take n s) m) (lengths_of s len new)) n e

pub refused_unpad_changes_nothing : (s : List ℕ) (len : ℤ) (n : ℕ) → (unpadded s len).report.number ≡ negsuc n → (unpadded s len).bytes ≡ s
unfolding unpadded
refused_unpad_changes_nothing s len n e = refusal-keeps s (bounded (λ n. unpad_packet (take n s)) (length_of s len)) n e

-- 8. A length that is negative, 0, above the buffer or above 65,535 is refused by -1, whatever else is wrong.
pub pad_length_outside : (s : List ℕ) (len new : ℤ) → Outside s len → (padded s len new).report.number ≡ negsuc 0
pad_length_outside s len new o = rw (pad_bad s len new (first_outside s len new o))

pub pad_new_length_outside : (s : List ℕ) (len new : ℤ) → Outside s new → (padded s len new).report.number ≡ negsuc 0
pad_new_length_outside s len new o = rw (pad_bad s len new (new_outside s len new o))

pub unpad_length_outside : (s : List ℕ) (len : ℤ) → Outside s len → (unpadded s len).report.number ≡ negsuc 0
unpad_length_outside s len o = rw (unpad_none s len 0 (length_outside s len o) refl)

-- M-100. Rule and place are those of the reader's refusal of the packet, and 0 in every other answer.
pub pad_names : (s : List ℕ) (len new : ℤ) → Named (take (length_of s len) s) (padded s len new).report
pad_names = pad_named

pub unpad_names : (s : List ℕ) (len : ℤ) → Named (take (length_of s len) s) (unpadded s len).report
unpad_names = unpad_named
