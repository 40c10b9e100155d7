-- A packet that RFC 6716 spells, in the first bytes of a buffer: what pad and unpad make of it.
--     read_whole                      what the ordinary reader accepts is spelled, whole
--     reading, cuts_back, reads_back  what is spelled reads as its frames and upper six TOC bits
--     filling_of                      the padded packet of its frames is spelled too
--     pads, unpads                    pad and unpad write those packets,
--     pad_spelled, unpad_spelled      in the first bytes of a buffer too,
--     pad_equal                       where pad to its own length leaves it
--     unpad_written                   and so does unpad of a packet that was written into the buffer
-- Assumes nothing.
use Prim.Native.Nat.{ℕ, ◌≤◌, ◌<◌}
use native.Mathlib.Omega.{arith}
use mathlib.Core.Path.{◌≡◌, refl, ap, ◌∙◌, sym}
use mathlib.Core.List.{List, [], append-nil}
use mathlib.Core.Bool.{Bool, true, false}
use lib.IntN.{pos}
use lib.ListN.{length, get_or, take, drop}
use lib.Seq.{sets, length-take-le, take_all, length-sets}
use Rattle.laws.specs.Bytes.{Bytes}
use Rattle.blocks.proofs.Sets.{take-sets}
use Rattle.opus_defines.specs.Outcome.{wrote, written, leaves, writes}
use Rattle.opus_toc.specs.Toc.{upper_six}
use Rattle.opus_format.specs.Frames.{lengths, cut}
use Rattle.opus_format.specs.Format.{Spells, Behind}
use Rattle.opus_format.specs.Reading.{accepted, read, frames_of}
use Rattle.opus_format.proofs.Complete.{spelled_read, spelled_six, spelled_frames}
use Rattle.opus_format.proofs.Sound.{read_spelled, ordinary_whole}
use Rattle.opus_format.proofs.Facts.{frames_read}
use Rattle.opus_header.specs.Compact.{compact, filling}
use Rattle.opus_header.proofs.Rebuilt.{spelled_lasts, spelled_some}
use Rattle.opus_header.proofs.Filling.{filling_spelled}
use Rattle.packet_pad.specs.Pad.{pads_to, pad_packet, padded}
use Rattle.packet_pad.specs.Unpad.{unpad_packet, unpadded}
use Rattle.packet_pad.proofs.Given.{length_own, lengths_own, lengths-equal}
use Rattle.packet_pad.proofs.Calls.{pad_same, pad_more, unpad_some}

pub read_whole : (p : List ℕ) (toc : ℕ) (ns : List ℕ) (first taken : ℕ) → Bytes p → read false p ≡ accepted toc ns first taken
    → Spells false (upper_six toc) p (cut ns (drop first p))
read_whole p toc ns first taken bytes r =
    let all : take taken p ≡ p = take_all taken p (omega (arith, ordinary_whole p toc ns first taken bytes r)) in
    rw all at (read_spelled false p toc ns first taken bytes r).packet

-- nothing stands behind it
alone : (sd : Bool) → Behind sd []
alone false = refl
alone true = tt

module _ {sd : Bool} {six : ℕ} {p : List ℕ} {frames : List (List ℕ)} (w : Spells sd six p frames) where
  pub reading : read sd p ≡ accepted (get_or p 0 0) (lengths frames) (length w.head) (length p)
  reading = rw (append-nil p) at (spelled_read w [] (alone sd))

  pub reads_back : (frames_of p (read sd p) ≡ frames) × (upper_six (get_or p 0 0) ≡ six)
  reads_back = (rw (append-nil p) at (spelled_frames w [] (alone sd)), spelled_six w)

  pub cuts_back : cut (lengths frames) (drop (length w.head) p) ≡ frames
  cuts_back = sym (frames_read sd p _ _ _ _ reading) ∙ reads_back.0

  pub filling_of : (m : ℕ) → Spells sd six (filling sd six frames m) frames
  filling_of m = filling_spelled sd six frames m (spelled_lasts w) w.small

-- ---- pad and unpad
module _ {six : ℕ} {p : List ℕ} {frames : List (List ℕ)} (w : Spells false six p frames) where
  pub pads : (new : ℕ) → pad_packet p new ≡ wrote 0 (filling false six frames new)
  unfolding pad_packet
  pads new = rw (reading w, cuts_back w, spelled_six w)

  pub unpads : unpad_packet p ≡ written (compact false six frames)
  unfolding unpad_packet
  unpads = rw (reading w, cuts_back w, spelled_six w)

module _ {six : ℕ} {frames : List (List ℕ)} (s : List ℕ) (len : ℕ) (fits : len ≤ length s) (most : len ≤ 65535)
    (w : Spells false six (take len s) frames) where
  some : 1 ≤ len
  some = omega (arith, length-take-le len s fits, spelled_some w)

  pub unpad_spelled : unpadded s (pos len) ≡ writes (compact false six frames) s
  unpad_spelled = unpad_some s (pos len) len (length_own s len fits most) (λ z. omega (arith, some)) ∙ ap (leaves s) (unpads w)

  pub pad_spelled : (new : ℕ) → len < new → new ≤ length s → new ≤ 65535
      → padded s (pos len) (pos new) ≡ pads_to (filling false six frames new) s
  pad_spelled new more room short =
      pad_more s (pos len) (pos new) len new (lengths_own s len new some more room short) ∙ ap (leaves s) (pads w new)

  pub pad_equal : (padded s (pos len) (pos len)).bytes ≡ s
  pad_equal = rw (pad_same s (pos len) (pos len) (lengths-equal s len some fits most))

-- a packet q that was written into the buffer
pub unpad_written : {six : ℕ} {q : List ℕ} {frames : List (List ℕ)} (s : List ℕ) (n : ℕ) → length q ≡ n → n ≤ length s → n ≤ 65535
    → Spells false six q frames → unpadded (sets s 0 q) (pos n) ≡ writes (compact false six frames) (sets s 0 q)
unpad_written {q = q} s n e fits most w =
    let back : take n (sets s 0 q) ≡ q = rw e at (take-sets s q (omega arith)) in
    unpad_spelled (sets s 0 q) n (omega (arith, length-sets s 0 q)) most (rw back w)
