-- Numbers and refusals as text, by computation. 48 is the digit 0, 45 the minus sign.
-- Assumes nothing.
use Prim.Native.Nat.{ℕ}
use mathlib.Core.Path.{◌≡◌, refl}
use mathlib.Core.List.{List, [], ◌∷◌, ◌++◌, map}
use lib.IntN.{ℤ, pos, negsuc}
use Rattle.opus_defines.specs.Numbers.{refusal_number}
use Rattle.opus_defines.specs.declared.Refusal.{Refusal}
use Rattle.opus_defines.specs.declared.Refusal.TheVariants.{BadArg, BufferTooSmall, InvalidPacket, InvalidState}
use Rattle.opus_defines.specs.declared.Refusal.TheVariants.{Unreadable, CutShort, DirtyPadding, OverBudget}
use Rattle.opus_defines.specs.declared.Rule.TheVariants.{R4, R7}
use Rattle.show.specs.Text.{places, decimal, integer, refused_label, refusal}

-- 0, 9, 10, 99, 100 and 5760: no leading zero, and no digit lost
pub decimals : map (λ (n : ℕ). decimal n) (0 ∷ 9 ∷ 10 ∷ 99 ∷ 100 ∷ 5760 ∷ [])
    ≡ (48 ∷ []) ∷ (57 ∷ []) ∷ (49 ∷ 48 ∷ []) ∷ (57 ∷ 57 ∷ []) ∷ (49 ∷ 48 ∷ 48 ∷ []) ∷ (53 ∷ 55 ∷ 54 ∷ 48 ∷ []) ∷ []
unfolding decimal places
decimals = refl

pub integers : map (λ (x : ℤ). integer x) (pos 0 ∷ pos 10 ∷ negsuc 0 ∷ negsuc 9 ∷ [])
    ≡ (48 ∷ []) ∷ (49 ∷ 48 ∷ []) ∷ (45 ∷ 49 ∷ []) ∷ (45 ∷ 49 ∷ 48 ∷ []) ∷ []
unfolding integer decimal places
integers = refl

-- "refused ", a negative number of these digits, and the end of the line
abbrev refused_by : List ℕ → List ℕ
refused_by digits = 114 ∷ 101 ∷ 102 ∷ 117 ∷ 115 ∷ 101 ∷ 100 ∷ 32 ∷ 45 ∷ (digits ++ (10 ∷ []))

-- -1, -2, -4, -6, -20 and -21; rule and place are not told here
pub refusals : map (λ (e : Refusal). refusal (refusal_number e))
    (BadArg ∷ BufferTooSmall ∷ InvalidPacket ∷ InvalidState ∷ Unreadable R7 5 ∷ CutShort R4 ∷ DirtyPadding ∷ OverBudget ∷ [])
    ≡ refused_by (49 ∷ []) ∷ refused_by (50 ∷ []) ∷ refused_by (52 ∷ []) ∷ refused_by (54 ∷ []) ∷ refused_by (52 ∷ []) ∷ refused_by (49 ∷ [])
    ∷ refused_by (50 ∷ 48 ∷ []) ∷ refused_by (50 ∷ 49 ∷ []) ∷ []
unfolding refusal refused_label integer decimal places
refusals = refl
