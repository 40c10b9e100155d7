-- `spelling::stays` meets its contract.
use native.Mathlib.Omega.{arith}
use borrow.Author.Rules.{rules}
use Rattle.spelling.proofs.Kept.{plain_stays, equal_stays}
use Rattle.spelling.proofs.stays.Goals as goal

pub returns-then-c-lt2 : goal.returns-then-c-lt2
returns-then-c-lt2 c =
    λ e. plain_stays c.args.packet.now _ (record { byte = λ i. search rules }) c.if-c-lt2.true

-- code 3: it is not 0, 1 or 2
pub returns-in-3-to-48 : goal.returns-in-3-to-48
returns-in-3-to-48 c =
    λ e. equal_stays c.args.packet.now _ (record { byte = λ i. search rules }) (omega arith) (omega arith) (omega arith)
