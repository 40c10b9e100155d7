-- The bytes by which the shorter spelling of a packet is shorter, by the packet's least length (document 02, M-110).
--     saved_most                                      never more than the packet has
--     saved_least                                     by the least length
--     never_refused                                   a packet of a capture is looked at
-- Assumes nothing.
use Prim.Native.Nat.{ℕ, ◌-◌, ◌≤◌}
use native.Mathlib.Omega.{arith}
use mathlib.Core.Path.{◌≡◌, refl}
use mathlib.Core.List.{List}
use mathlib.Core.Bool.{false}
use lib.ListN.{length}
use Rattle.laws.specs.Bytes.{Bytes}
use Rattle.opus_defines.specs.Bounds.{most_packet}
use Rattle.opus_defines.specs.declared.Refusal.{Refusal}
use Rattle.packet_judge.specs.Judging.{judged, least_length}
use Rattle.packet_judge.specs.declared.Judged.TheVariants.{Refused}
use Rattle.packet_judge.proofs.Verdicts.{long_only}
use Rattle.spelling.specs.Spelling.{shorter}
use Rattle.spelling.proofs.Laws.{no_longer}
use Rattle.spelling.proofs.Verdicts.{shorter_least}
use Rattle.capture_survey.specs.Survey.{saved}

pub saved_is : (p : List ℕ) → saved p ≡ length p - length (shorter p most_packet)
unfolding saved
saved_is p = refl

pub saved_most : (p : List ℕ) → saved p ≤ length p
saved_most p = omega (arith, saved_is p)

module _ (p : List ℕ) (short : length p ≤ 65535) (bytes : Bytes p) where
  pub saved_least : (n : ℕ) → n ≡ least_length false p → (n ≤ length p) × (length p - n ≡ saved p)
  saved_least n e =
      let same = shorter_least p short bytes in
      (omega (arith, e, same, no_longer p most_packet), omega (arith, e, same, saved_is p))

  pub never_refused : (c : Refusal) → judged false p ≡ Refused c → ⊥
  never_refused c j = omega (arith, (long_only false p c j).1)
