-- What unpadding a packet gives, by the reader's answer.
--     unpad_unread, unpad_taken     the packet is refused, or the compact packet is written
--     by_unpad                      a fact from the fact at either
-- Assumes nothing.
use Prim.Native.Nat.{ℕ}
use mathlib.Core.Path.{◌≡◌, refl}
use mathlib.Core.List.{List}
use mathlib.Core.Bool.{false}
use lib.ListN.{drop}
use Rattle.opus_defines.specs.Rules.{rule_refusal}
use Rattle.opus_defines.specs.Outcome.{refusal, written}
use Rattle.opus_defines.specs.declared.Rule.{Rule}
use Rattle.opus_toc.specs.Toc.{upper_six}
use Rattle.opus_format.specs.Frames.{cut}
use Rattle.opus_format.specs.Reading.{Reading, refused, accepted, read}
use Rattle.opus_header.specs.Compact.{compact}
use Rattle.packet_pad.specs.Unpad.{unpad_packet}

module _ (p : List ℕ) where
  pub unpad_unread : (rule : Rule) (place : ℕ) → read false p ≡ refused rule place → unpad_packet p ≡ refusal (rule_refusal rule place)
  unfolding unpad_packet
  unpad_unread rule place r = rw r

  pub unpad_taken : (toc : ℕ) (ns : List ℕ) (first taken : ℕ) → read false p ≡ accepted toc ns first taken
      → unpad_packet p ≡ written (compact false (upper_six toc) (cut ns (drop first p)))
  unfolding unpad_packet
  unpad_taken toc ns first taken r = rw r

  pub by_unpad : {P : Type 0}
      → ((rule : Rule) (place : ℕ) → read false p ≡ refused rule place → unpad_packet p ≡ refusal (rule_refusal rule place) → P)
      → ((toc : ℕ) (ns : List ℕ) (first taken : ℕ) → read false p ≡ accepted toc ns first taken
      → unpad_packet p ≡ written (compact false (upper_six toc) (cut ns (drop first p))) → P)
      → P
  by_unpad {P} f g = go (read false p) refl
    where
      go : (x : Reading) → read false p ≡ x → P
      go (refused rule place) r = f rule place r (unpad_unread rule place r)
      go (accepted toc ns first taken) r = g toc ns first taken r (unpad_taken toc ns first taken r)
