-- Multistream unpad refuses by -1 or -4 alone: streams that cannot be repacked are unreadable, since there is always room.
-- Assumes nothing.
use Prim.Native.Nat.{ℕ, zero, suc, ◌+◌, ◌-◌}
use native.Mathlib.Omega.{arith}
use mathlib.Core.Path.{◌≡◌, refl, ap, sym, ◌∙◌}
use mathlib.Core.List.{List, []}
use mathlib.Core.Bool.{Bool, true, false}
use lib.Dec.{eqb}
use lib.IntN.{ℤ, negsuc}
use lib.ListN.{take, drop}
use Rattle.laws.proofs.Never.{never, cond_elim}
use Rattle.opus_defines.specs.Numbers.{refusal_number}
use Rattle.opus_defines.specs.Rules.{rule_refusal, shifted}
use Rattle.opus_defines.specs.Outcome.{Effect, refusal, leaves}
use Rattle.opus_defines.specs.declared.Refusal.TheVariants.{BadArg}
use Rattle.opus_defines.specs.declared.Rule.{Rule}
use Rattle.opus_defines.proofs.Outcomes.{rule_number_lem, shifted_rule}
use Rattle.opus_format.specs.Reading.{Reading, refused, accepted, read}
use Rattle.packet_pad.specs.Lengths.{length_of}
use Rattle.multistream.specs.Streams.{streams_of}
use Rattle.multistream.specs.Unpad.{Repacked, unread, repacked, ahead, repack_reading, repack_streams, repacks, unpad_streams, streams_unpadded}

abbrev Unreadable : Repacked → Type 0
Unreadable (unread e) = (rule : Rule) × (place : ℕ) × (e ≡ rule_refusal rule place)
Unreadable (repacked q) = Unit {0}

ahead-unreadable : (q : List ℕ) (n : ℕ) (x : Repacked) → Unreadable x → Unreadable (ahead q n x)
ahead-unreadable q n (unread e) (rule, place, h) = (rule, n + place, ap (shifted n) h ∙ shifted_rule n rule place)
ahead-unreadable q n (repacked v) h = tt

reading-unreadable : (sd : Bool) (next : List ℕ → Repacked) (p : List ℕ) → ((t : List ℕ) → Unreadable (next t)) → (x : Reading)
    → Unreadable (repack_reading sd next p x)
reading-unreadable sd next p h (refused rule place) = (rule, place, refl)
reading-unreadable sd next p h (accepted toc ns first taken) = ahead-unreadable _ taken (next (drop taken p)) (h (drop taken p))

streams_unreadable : (k : ℕ) (p : List ℕ) → Unreadable (repack_streams k p)
streams_unreadable zero p = reading-unreadable false (λ t. repacked []) p (λ t. tt) (read false p)
streams_unreadable (suc k) p = reading-unreadable true (repack_streams k) p (streams_unreadable k) (read true p)

-- whatever is done, the number is not -2
abbrev Roomy : List ℕ → Effect → Type 0
Roomy s x = (leaves s x).report.number ≡ negsuc 1 → ⊥

bad_roomy : (s : List ℕ) → Roomy s (refusal BadArg)
bad_roomy s e = never (cc)

repacks_roomy : (s : List ℕ) (x : Repacked) → Unreadable x → Roomy s (repacks x)
repacks_roomy s (unread e) (rule, place, f) n =
    let four : ◌≡◌ {A = ℕ} 3 1 = let q = sym (rule_number_lem rule place) ∙ (ap refusal_number (sym f) ∙ n) in cc in
    omega arith
repacks_roomy s (repacked q) h n = never (cc)

pub unpad_roomy : (s : List ℕ) (len nb : ℤ) → (streams_unpadded s len nb).report.number ≡ negsuc 1 → ⊥
unfolding streams_unpadded unpad_streams
unpad_roomy s len nb =
    let k = streams_of nb in
    let n = length_of s len in
    cond_elim (Roomy s) (eqb k 0) (refusal BadArg) _ (λ t. bad_roomy s)
    (λ t. cond_elim (Roomy s) (eqb n 0) (refusal BadArg) _ (λ u. bad_roomy s)
    (λ u. repacks_roomy s (repack_streams (k - 1) (take n s)) (streams_unreadable (k - 1) (take n s))))
