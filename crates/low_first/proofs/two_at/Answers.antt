-- `low_first::two_at` meets its contract.
use Prim.Native.Nat.{◌+◌}
use native.Mathlib.Omega.{arith}
use Rattle.low_first.proofs.Numbers.{number_one, halves}
use Rattle.low_first.proofs.two_at.Goals as goal

pub returns : goal.returns
returns c = (
  halves c.args.«data».now c.args.at 1 (omega arith) (number_one c.args.«data».now c.args.at (omega arith) c.wide_byte.ensures.0)
      (number_one c.args.«data».now (c.args.at + 1) (omega arith) c.wide_byte-2.ensures.0),
  omega (arith, c.wide_byte.ensures, c.wide_byte-2.ensures),
)
