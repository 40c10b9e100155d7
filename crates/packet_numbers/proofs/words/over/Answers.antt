-- `packet_numbers::words::over` meets its contract.
use Rattle.std.proofs.Common.{eqb, eqb-true}
use borrow.Author.Tests.{not-false}
use lib.Bits.{bit_and}
use Rattle.packet_numbers.proofs.words.over.Goals as goal

pub returns : goal.returns
returns c =
    let a = bit_and c.args.a 0xFC00FC00FC00FC00 in
    λ e. eqb-true a 0 (not-false (eqb a 0) e)
