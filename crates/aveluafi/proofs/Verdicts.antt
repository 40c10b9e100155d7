-- A verdict as the record that C sees.
-- Assumes nothing.
use mathlib.Core.Path.{◌≡◌, refl}
use mathlib.Core.List.{[], ◌∷◌, map}
use Prim.Native.Nat.{ℕ}
use lib.IntN.{ℤ, pos, negsuc}
use Rattle.opus_defines.specs.Numbers.{rule_number, refusal_number}
use Rattle.opus_defines.specs.declared.Refusal.{Refusal}
use Rattle.packet_judge.specs.declared.Judged.{Judged}
use Rattle.packet_judge.specs.declared.Judged.TheVariants.{Refused, Unreadable, Dirty, Longer, Clean}
use Rattle.opus_defines.specs.declared.Rule.{Rule}
use Rattle.opus_defines.specs.declared.Rule.TheVariants.{R7}
use Rattle.opus_defines.specs.declared.Refusal.TheVariants.{BadArg}
use Rattle.aveluafi.specs.Verdicts.{verdict_record}

-- one that is a refusal
pub refused_verdict : {j : Judged} {e : Refusal} {n : ℤ} → j ≡ Refused e → n ≡ refusal_number e
    → record { number = n; verdict = 0; rule = 0; place = 0; least = 0 } ≡ verdict_record j
refused_verdict p q = rw (p, q)

-- one that names a rule, and a place
pub unreadable_verdict : {j : Judged} {rule : Rule} {place n : ℕ} → j ≡ Unreadable rule place → n ≡ rule_number rule
    → record { number = pos 0; verdict = 1; rule = n; place = place; least = 0 } ≡ verdict_record j
unreadable_verdict p q = rw (p, q)

-- and the others
pub dirty_verdict : {j : Judged} → j ≡ Dirty → record { number = pos 0; verdict = 2; rule = 0; place = 0; least = 0 } ≡ verdict_record j
dirty_verdict p = rw p

pub longer_verdict : {j : Judged} {n : ℕ} → j ≡ Longer n → record { number = pos 0; verdict = 3; rule = 0; place = 0; least = n } ≡ verdict_record j
longer_verdict p = rw p

pub clean_verdict : {j : Judged} → j ≡ Clean → record { number = pos 0; verdict = 4; rule = 0; place = 0; least = 0 } ≡ verdict_record j
clean_verdict p = rw p

-- every field of each kind, by computation
pub verdicts-in-c :
    map verdict_record (Refused BadArg ∷ Unreadable R7 5 ∷ Dirty ∷ Longer 9 ∷ Clean ∷ [])
    ≡ record { number = negsuc 0; verdict = 0; rule = 0; place = 0; least = 0 }
    ∷ record { number = pos 0; verdict = 1; rule = 7; place = 5; least = 0 }
    ∷ record { number = pos 0; verdict = 2; rule = 0; place = 0; least = 0 }
    ∷ record { number = pos 0; verdict = 3; rule = 0; place = 0; least = 9 }
    ∷ record { number = pos 0; verdict = 4; rule = 0; place = 0; least = 0 } ∷ []
verdicts-in-c = refl
