-- What a caller of `count_of` knows of the signed number that it passed.
-- Assumes nothing.
use Prim.Native.Nat.{ℕ}
use mathlib.Core.Path.{◌≡◌, ap, sym, ◌∙◌}
use lib.IntN.{ℤ, pos, negsuc}
use mir.Syntax.{w32}
use mir.Val.{to_z, of_z, SFits}
use mir.ValLaws.{to_z-of_z}
use Rattle.laws.proofs.Never.{never}
use Rattle.opus_defines.specs.Numbers.{count_of}
use Rattle.std.specs.Prelude.{Option, Some}

-- the call is passed the bits of the number
pub counted : (x : ℤ) → SFits w32 x → {r k : Option ℕ} → r ≡ count_of (to_z w32 (of_z w32 x)) → r ≡ k → count_of x ≡ k
counted x f e t = ap count_of (sym (to_z-of_z w32 x f)) ∙ (sym e ∙ t)

pub is_natural : (x : ℤ) (n : ℕ) → count_of x ≡ Some n → x ≡ pos n
is_natural (pos m) n e = cc
is_natural (negsuc m) n e = never (cc)
