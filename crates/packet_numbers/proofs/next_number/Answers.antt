-- `packet_numbers::next_number` meets its contract.
use Rattle.std.proofs.Common.{arith}
use Rattle.packet_numbers.proofs.Numbering.{after_zero, after_more}
use Rattle.packet_numbers.proofs.next_number.Goals as goal

pub returns-then-n-eq0 : goal.returns-then-n-eq0
returns-then-n-eq0 c =
    after_zero c.args.packet.now c.args.n c.if-n-eq0.true

pub overflow_add-result : goal.overflow_add-result
overflow_add-result c =
    omega (arith, c.requires.1 (omega (arith, c.if-n-eq0.false)))

pub returns : goal.returns
returns c =
    after_more c.args.packet.now c.args.n c.if-n-eq0.false
