-- The line for a refusal: its length.
-- Assumes nothing.
use Prim.Native.Nat.{ℕ, suc, ◌≤◌, ◌<◌}
use native.Mathlib.Omega.{arith}
use mathlib.Core.List.{[], ◌∷◌, ◌++◌}
use lib.ListN.{length, length-append}
use Rattle.opus_defines.specs.Numbers.{refusal_number}
use Rattle.opus_defines.specs.declared.Refusal.{Refusal}
use Rattle.opus_defines.proofs.Others.{refusal_few}
use Rattle.show.specs.Text.{decimal, integer, refused_label, refusal}
use Rattle.show.proofs.Digits.{decimal_most}

-- a refusal's number has one digit or two
negative_most : (n : ℕ) → n < 100 → length (refused_label ++ (45 ∷ decimal n ++ (10 ∷ []))) ≤ 12
unfolding refused_label
negative_most n h = simp length-append (omega (arith, decimal_most n 1 h))

pub refusal_most : (e : Refusal) → length (refusal (refusal_number e)) ≤ 12
unfolding refusal integer
refusal_most e = let k = refusal_few e in rw k.2 (negative_most (suc k.0) (omega (arith, k.1)))
