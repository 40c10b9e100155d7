-- The gain of a header as a number to be put. A call is passed the bits of a signed number.
--     wider, gain_cast                      the gain, in 16 bits and in 32
-- Assumes nothing.
use native.Mathlib.Omega.{arith}
use lib.IntN.{ℤ, pos, negsuc}
use mir.Syntax.{w16, w32}
use mir.Val.{to_z, of_z, SFits}
use mir.ValLaws.{to_z-of_z}

-- ---- the gain, in 16 bits and in 32
abbrev pub passed : ℤ → ℤ
passed x = to_z w16 (of_z w16 x)

pub wider : (x : ℤ) → SFits w16 x → SFits w32 x
wider (pos n) f = record { sfits = omega (arith, f.sfits) }
wider (negsuc n) f = record { sfits = omega (arith, f.sfits) }

module _ (x : ℤ) (f : SFits w16 x) where
  pub gain_cast : SFits w32 (passed x)
  gain_cast = rw (to_z-of_z w16 x f) (wider x f)

-- what the goals of `put_gain` need
pub ruleset gains = (gain_cast, wider)
