-- How large the numbers of a verdict are.
--     unreadable-within     a place is within the packet, or its end
--     longer_within         a least length is less than the packet's
-- Assumes nothing.
use Prim.Native.Nat.{ℕ, ◌≤◌, ◌<◌}
use native.Mathlib.Omega.{arith}
use mathlib.Core.Path.{◌≡◌, refl}
use mathlib.Core.List.{List}
use mathlib.Core.Bool.{Bool}
use lib.ListN.{length}
use Rattle.laws.specs.Bytes.{Bytes}
use Rattle.laws.proofs.Never.{never}
use Rattle.opus_defines.specs.declared.Rule.{Rule}
use Rattle.opus_format.specs.Reading.{Reading, refused, accepted, read}
use Rattle.opus_format.proofs.Facts.{facts}
use Rattle.opus_format.proofs.Within.{refused_within}
use Rattle.packet_judge.specs.Judging.{judged}
use Rattle.packet_judge.specs.declared.Judged.TheVariants.{Unreadable, Longer}
use Rattle.packet_judge.proofs.Verdicts.{unreadable_only, unreadable-said}
use Rattle.packet_judge.proofs.Taken.{longer_told}

module _ (sd : Bool) (p : List ℕ) (short : length p ≤ 65535) where
  pub unreadable-within : (rule : Rule) (place : ℕ) → judged sd p ≡ Unreadable rule place → place ≤ length p
  unreadable-within rule place e = refused_within sd p rule place (unreadable_only sd p short rule place e)

  pub longer_within : Bytes p → (n : ℕ) → judged sd p ≡ Longer n → n < length p
  longer_within bytes n e = go (read sd p) refl
    where
      go : (x : Reading) → read sd p ≡ x → n < length p
      go (refused rule place) r = never (let u = unreadable-said sd p short rule place r in cc)
      go (accepted toc ns first taken) r =
          omega (arith, (longer_told sd p toc ns first taken bytes r short n e).1, (facts sd p toc ns first taken bytes r).within)
