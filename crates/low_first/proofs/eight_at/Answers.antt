-- `low_first::eight_at` meets its contract.
use native.Mathlib.Omega.{arith}
use Rattle.low_first.proofs.Numbers.{halves}
use Rattle.low_first.proofs.eight_at.Goals as goal

pub returns : goal.returns
returns c =
    halves c.args.«data».now c.args.at 4 (omega arith) c.four_at.ensures.0 c.four_at-2.ensures.0
