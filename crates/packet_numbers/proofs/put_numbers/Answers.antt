-- `packet_numbers::put_numbers` meets its contract: by how many places there are.
use Rattle.std.proofs.Common.{◌∙◌, arith, length-set}
use Rattle.packet_numbers.specs.Numbers.{number_after}
use Rattle.packet_numbers.proofs.Numbering.{numbers_none, numbers_one, numbers_many, numbers_length, numbers_as}
use Rattle.packet_numbers.proofs.put_numbers.Goals as goal

pub fill-requires : goal.fill-requires
fill-requires c =
    omega (arith, length-set c.args.packet.now c.args.at c.next_number-k.result, c.requires.1, c.if-next-end.true)

pub shape_of-packet-then-next-end : goal.shape_of-packet-then-next-end
shape_of-packet-then-next-end c =
    let a = c.args in
    numbers_length a.packet.now a.at a.end c.next_number-k.result c.fill.ensures

pub returns-then-next-end : goal.returns-then-next-end
returns-then-next-end c =
    let a = c.args in
    numbers_as a.packet.now a.at a.end c.next_number-k.result c.next_number-k.ensures
    (c.fill.ensures ∙ numbers_many a.packet.now a.at a.end c.next_number-k.result c.if-at-end.true)

pub shape_of-packet-else-next-end : goal.shape_of-packet-else-next-end
shape_of-packet-else-next-end c =
    let a = c.args in
    length-set a.packet.now a.at c.next_number-k.result

pub returns-else-next-end : goal.returns-else-next-end
returns-else-next-end c =
    let a = c.args in
    numbers_as a.packet.now a.at a.end c.next_number-k.result c.next_number-k.ensures
    (numbers_one a.packet.now a.at a.end c.next_number-k.result c.if-at-end.true c.if-next-end.false)

pub returns-else-at-end : goal.returns-else-at-end
returns-else-at-end c =
    numbers_none c.args.packet.now c.args.at c.args.end (number_after c.args.packet.now c.args.at) c.if-at-end.false
