-- `padding::asks_padding` meets its contract.
use native.Mathlib.Omega.{arith}
use Rattle.padding.proofs.Asking.{asks_short, asks_not_3, asks_flag}
use Rattle.padding.proofs.asks_padding.Goals as goal

pub returns-then-data-lt2 : goal.returns-then-data-lt2
returns-then-data-lt2 c =
    asks_short c.args.«data».now (omega arith)

pub returns-then-data-ne3 : goal.returns-then-data-ne3
returns-then-data-ne3 c =
    asks_not_3 c.args.«data».now (λ e. omega arith)

pub returns : goal.returns
returns c =
    asks_flag c.args.«data».now (omega arith) (omega arith)
