-- Rule and place in the answers of pad and unpad (document 02, M-100).
-- Assumes nothing.
use Prim.Native.Nat.{ℕ}
use mathlib.Core.Path.{◌≡◌, refl}
use mathlib.Core.List.{List}
use mathlib.Core.Bool.{false}
use lib.Dec.{eqb}
use lib.IntN.{ℤ}
use lib.ListN.{take}
use Rattle.laws.proofs.Never.{by_test}
use Rattle.opus_defines.specs.Outcome.{leaves}
use Rattle.opus_format.specs.Reading.{Reading, refused, accepted, read}
use Rattle.opus.specs.Named.{Named, unnamed}
use Rattle.opus.proofs.Naming.{front_named}
use Rattle.packet_pad.specs.Lengths.{length_of, lengths_of, by_lengths}
use Rattle.packet_pad.specs.Pad.{pad_reading, pad_packet, padded}
use Rattle.packet_pad.specs.Unpad.{unpad_reading, unpad_packet, unpadded}
use Rattle.packet_pad.specs.declared.lengths.Lengths.{Lengths}
use Rattle.packet_pad.specs.declared.lengths.Lengths.TheVariants.{Bad, Same, More}
use Rattle.packet_pad.proofs.Given.{more_is}

-- what is read of p, in a buffer s
pad_packet_named : (s p : List ℕ) (m : ℕ) → Named p (leaves s (pad_packet p m)).report
unfolding pad_packet
pad_packet_named s p m = go (read false p) refl
  where
    go : (x : Reading) → read false p ≡ x → Named p (leaves s (pad_reading p m x)).report
    go (refused rule place) r = front_named p false rule place r
    go (accepted toc ns first taken) r = unnamed refl refl

unpad_packet_named : (s p : List ℕ) → Named p (leaves s (unpad_packet p)).report
unfolding unpad_packet
unpad_packet_named s p = go (read false p) refl
  where
    go : (x : Reading) → read false p ≡ x → Named p (leaves s (unpad_reading p x)).report
    go (refused rule place) r = front_named p false rule place r
    go (accepted toc ns first taken) r = unnamed refl refl

pub pad_named : (s : List ℕ) (len new : ℤ) → Named (take (length_of s len) s) (padded s len new).report
unfolding padded
pad_named s len new = go (lengths_of s len new) refl
  where
    go : (l : Lengths) → lengths_of s len new ≡ l → Named (take (length_of s len) s) (leaves s (by_lengths (λ n m. pad_packet (take n s) m) l)).report
    go Bad e = unnamed refl refl
    go Same e = unnamed refl refl
    go (More n m) e = rw (more_is s len new n m e) (pad_packet_named s (take n s) m)

pub unpad_named : (s : List ℕ) (len : ℤ) → Named (take (length_of s len) s) (unpadded s len).report
unfolding unpadded
unpad_named s len =
    by_test (eqb (length_of s len) 0) (λ t. rw t (unnamed refl refl)) (λ t. rw t (unpad_packet_named s (take (length_of s len) s)))
