-- What pad and unpad answer, by the lengths and by the reader's answer.
--     pad_bad, pad_same, pad_more      pad, by its lengths
--     unpad_none, unpad_some           unpad, by its length
--     pad_passed, unpad_passed         a call is passed the bits of its numbers
--     pad_read, pad_refused            pad, by the reader's answer
--     unpad_read, unpad_refused        unpad, by the reader's answer
--     report_answered, pad_place       what pad answers, with the place of a refusal
-- Assumes nothing.
use Prim.Native.Nat.{ℕ, ◌≤◌}
use native.Mathlib.Omega.{arith}
use mathlib.Core.Path.{◌≡◌, refl, sym, ap}
use mathlib.Core.List.{List, []}
use mathlib.Core.Bool.{false}
use lib.IntN.{ℤ}
use lib.ListN.{length, take, drop, length-take}
use mir.Syntax.{w32}
use mir.Val.{to_z, of_z, SFits}
use mir.ValLaws.{to_z-of_z}
use borrow.Author.Tests.{ne_eqb}
use Rattle.opus_defines.specs.Numbers.{report_of}
use Rattle.opus_defines.specs.Outcome.{Effect, refusal, wrote, written, leaves, refuses}
use Rattle.opus_defines.specs.declared.Refusal.{Refusal}
use Rattle.opus_defines.specs.declared.Refusal.TheVariants.{BadArg}
use Rattle.std.specs.Prelude.{Err}
use Rattle.opus_defines.proofs.Outcomes.{rule_report}
use Rattle.opus_toc.specs.Toc.{upper_six}
use Rattle.opus_format.specs.Frames.{cut}
use Rattle.opus_format.specs.Reading.{Reading, refused, accepted, read}
use Rattle.opus_format.proofs.Within.{refused_within}
use Rattle.opus.specs.Answers.{parsed}
use Rattle.opus.specs.declared.Packet.{Packet}
use Rattle.opus_header.specs.Compact.{compact, filling}
use Rattle.packet_pad.specs.Lengths.{length_of, lengths_of}
use Rattle.packet_pad.specs.Pad.{answered, pad_reading, pad_packet, padded}
use Rattle.packet_pad.specs.Unpad.{unpad_packet, unpadded}
use Rattle.packet_pad.specs.declared.lengths.Lengths.TheVariants.{Bad, Same, More}
use Rattle.opus.proofs.Parsed.{lengths_of as read_lengths, parsed_refused}
use Rattle.packet_pad.proofs.Framed.{Lies}

-- ---- the lengths
module _ (s : List ℕ) (len new : ℤ) where
  pub pad_bad : lengths_of s len new ≡ Bad → padded s len new ≡ refuses BadArg s
  unfolding padded
  pad_bad e = rw e

  pub pad_same : lengths_of s len new ≡ Same → padded s len new ≡ leaves s (wrote 0 [])
  unfolding padded
  pad_same e = rw e

  pub pad_more : (n m : ℕ) → lengths_of s len new ≡ More n m → padded s len new ≡ leaves s (pad_packet (take n s) m)
  unfolding padded
  pad_more n m e = rw e

  pub pad_passed : SFits w32 len → SFits w32 new → padded s len new ≡ padded s (to_z w32 (of_z w32 len)) (to_z w32 (of_z w32 new))
  pad_passed f g = rw (to_z-of_z w32 len f, to_z-of_z w32 new g)

module _ (s : List ℕ) (len : ℤ) where
  module _ (n : ℕ) (e : length_of s len ≡ n) where
    pub unpad_none : n ≡ 0 → unpadded s len ≡ refuses BadArg s
    unfolding unpadded
    unpad_none z = rw (e, z)

    pub unpad_some : (n ≡ 0 → ⊥) → unpadded s len ≡ leaves s (unpad_packet (take n s))
    unfolding unpadded
    unpad_some z = rw (e, ne_eqb n 0 z)

  pub unpad_passed : SFits w32 len → unpadded s len ≡ unpadded s (to_z w32 (of_z w32 len))
  unpad_passed f = rw (to_z-of_z w32 len f)

-- ---- what the reader answered
module _ (s : List ℕ) (len : ℕ) where
  module _ (r : Packet) (l : Lies false s len r) where
    abbrev frames : List (List ℕ)
    frames = cut (read_lengths r) (drop r.first s)

    pub pad_read : (new : ℕ) → pad_packet (take len s) new ≡ wrote 0 (filling false (upper_six r.toc) frames new)
    unfolding pad_packet
    pad_read new = rw (l.means, l.frames)

    pub unpad_read : unpad_packet (take len s) ≡ written (compact false (upper_six r.toc) frames)
    unfolding unpad_packet
    unpad_read = rw (l.means, l.frames)

  module _ (e : Refusal) (p : Err e ≡ parsed false (take len s)) (short : len ≤ 65535) where
    few : length (take len s) ≤ 65535
    few = rw (length-take len s) (omega arith)

    pub pad_refused : (new : ℕ) → pad_packet (take len s) new ≡ refusal e
    unfolding pad_packet
    pad_refused new = let q = parsed_refused false (take len s) e p few in rw q.3 (ap refusal (sym q.2))

    pub unpad_refused : unpad_packet (take len s) ≡ refusal e
    unfolding unpad_packet
    unpad_refused = let q = parsed_refused false (take len s) e p few in rw q.3 (ap refusal (sym q.2))

-- ---- what pad answers
pub report_answered : (s : List ℕ) (x : Effect) → report_of (answered x) ≡ (leaves s x).report
report_answered s (refusal e) = refl
report_answered s (wrote n vs) = refl

-- the place of a refusal is within the packet
pub pad_place : (p : List ℕ) (new : ℕ) → (report_of (answered (pad_packet p new))).place ≤ length p
unfolding pad_packet
pad_place p new = go (read false p) refl
  where
    go : (x : Reading) → read false p ≡ x → (report_of (answered (pad_reading p new x))).place ≤ length p
    go (refused rule place) r = rw (rule_report rule place) (refused_within false p rule place r)
    go (accepted toc ns first taken) r = omega arith
