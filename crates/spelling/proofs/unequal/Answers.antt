-- `spelling::unequal` meets its contract.
use borrow.Author.Rules.{rules}
use Rattle.spelling.proofs.Kept.{unequal_stays}
use Rattle.spelling.proofs.unequal.Goals as goal

pub returns : goal.returns
returns c =
    λ e. unequal_stays c.args.packet.now _ (record { byte = λ i. search rules }) c.requires.coded.1 c.requires.counted.0 c.requires.counted.1
    c.if-n-ge252.false c.if-n-packet.false
