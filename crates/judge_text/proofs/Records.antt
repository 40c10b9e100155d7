-- The packets of a capture's records, and the verdicts on them.
--     packet_short, packet_bytes     a packet within the capture
--     never_refused, verdict_small   the verdict on it is no refusal, and its numbers have at most 5 digits
-- Assumes nothing.
use Prim.Native.Nat.{ℕ, ◌+◌, ◌-◌, ◌≤◌}
use native.Mathlib.Omega.{arith}
use mathlib.Core.Path.{◌≡◌, refl}
use mathlib.Core.List.{List}
use mathlib.Core.Bool.{false}
use lib.ListN.{length, drop, length-take, length-drop}
use Rattle.laws.specs.Bytes.{Bytes}
use Rattle.laws.proofs.Bytes.{bytes_take, bytes_drop}
use Rattle.opus_defines.specs.declared.Refusal.{Refusal}
use Rattle.packet_judge.specs.Judging.{judged}
use Rattle.packet_judge.specs.declared.Judged.{Judged}
use Rattle.packet_judge.specs.declared.Judged.TheVariants.{Refused, Unreadable, Dirty, Longer, Clean}
use Rattle.packet_judge.proofs.Verdicts.{long_only}
use Rattle.packet_judge.proofs.Within.{unreadable-within, longer_within}
use Rattle.capture.specs.Finding.{packet_length, packet_at}
use Rattle.capture.proofs.Laws.{packet_part}
use Rattle.captures_text.specs.Lines.{most_capture}
use Rattle.judge_text.proofs.Line.{Small}

module _ (s : List ℕ) (at : ℕ) (short : length s ≤ most_capture) where
  pub packet_short : length (packet_at s at) ≤ 65535
  packet_short = rw (packet_part s at (packet_length (drop at s)) refl) (simp (length-take, length-drop) (omega arith))

  pub never_refused : (e : Refusal) → judged false (packet_at s at) ≡ Refused e → ⊥
  never_refused e q = omega (arith, packet_short, (long_only false (packet_at s at) e q).1)

  module _ (bytes : Bytes s) where
    packet_bytes : Bytes (packet_at s at)
    packet_bytes =
        let n = packet_length (drop at s) in
        rw (packet_part s at n refl) (bytes_take (at + 5 + n - (at + 5)) (drop (at + 5) s) (bytes_drop (at + 5) s bytes))

    small_as : (j : Judged) → judged false (packet_at s at) ≡ j → Small j
    small_as (Refused e) q = tt
    small_as (Unreadable rule place) q = omega (arith, packet_short, unreadable-within false (packet_at s at) packet_short rule place q)
    small_as Dirty q = tt
    small_as (Longer n) q = omega (arith, packet_short, longer_within false (packet_at s at) packet_short packet_bytes n q)
    small_as Clean q = tt

    pub verdict_small : Small (judged false (packet_at s at))
    verdict_small = small_as (judged false (packet_at s at)) refl
