-- `low_first::four_at` meets its contract.
use native.Mathlib.Omega.{arith}
use Rattle.low_first.proofs.Numbers.{halves}
use Rattle.low_first.proofs.four_at.Goals as goal

pub returns : goal.returns
returns c =
    (halves c.args.«data».now c.args.at 2 (omega arith) c.two_at.ensures.0 c.two_at-2.ensures.0, omega (arith, c.two_at.ensures, c.two_at-2.ensures))
