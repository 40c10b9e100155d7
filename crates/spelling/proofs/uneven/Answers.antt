-- `spelling::uneven` meets its contract.
use native.Mathlib.Omega.{arith}
use borrow.Author.Rules.{rules}
use Rattle.spelling.proofs.Kept.{uneven_stays}
use Rattle.spelling.proofs.uneven.Goals as goal

pub returns : goal.returns
returns c =
    λ e. uneven_stays c.args.packet.now _ (record { byte = λ i. search rules }) c.requires.1 c.if-n-ge252.false
    (λ i. c.if-wide_byte-packet.false (omega (arith, i, c.wide_byte.ensures.0)))
