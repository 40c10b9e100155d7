-- `packet_numbers::words::steps_wrong` meets its contract.
use Rattle.packet_numbers.proofs.Lanes.{eight_go}
use Rattle.packet_numbers.proofs.words.steps_wrong.Goals as goal

pub returns : goal.returns
returns c =
    eight_go c.args.ks.now (λ i. (c.type_inv.ks i).fits) c.args.at c.wrapping_sub_usize.result c.requires.0 c.requires.1
    c.eight_at.ensures c.eight_at-2.ensures c.wrapping_sub_usize.ensures.value
