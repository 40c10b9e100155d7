-- An answer whose lengths stand in a lent array (`read_into`).
--     none-answered     a refusal, whatever the array holds
--     lent_accepted     an accepted packet: what was said of it, and the array
--     lent_refused      a refused one
-- Assumes nothing.
use Prim.Native.Nat.{ℕ}
use mathlib.Core.Path.{◌≡◌}
use mathlib.Core.List.{List}
use mathlib.Core.Bool.{Bool}
use Rattle.opus_defines.specs.declared.Refusal.{Refusal}
use Rattle.std.specs.Prelude.{Result, Ok, Err}
use Rattle.opus.specs.Answers.{parsed, packet_with, answer_of}
use Rattle.opus.specs.declared.PacketHead.{PacketHead}

pub none-answered : (r : Result PacketHead Refusal) (e : Refusal) (l : List ℕ) → r ≡ Err e → answer_of r l ≡ Err e
none-answered r e l q = rw q

module _ (sd : Bool) (p : List ℕ) (r : Result PacketHead Refusal) (l : List ℕ) (e : answer_of r l ≡ parsed sd p) where
  pub lent_accepted : (h : PacketHead) → r ≡ Ok h → Ok (packet_with h l) ≡ parsed sd p
  lent_accepted h v = rw v at e

  pub lent_refused : (c : Refusal) → r ≡ Err c → Err c ≡ parsed sd p
  lent_refused c v = rw v at e
