-- `aveluafi::collecting::aveluafi_repacketizer_out_packet` meets its contract: it is the output of the range where the frames stand.
use Rattle.std.proofs.Common.{◌<◌, ◌≡◌, ◌∙◌, length}
use borrow.Author.Rules.{rules}
use mir.Syntax.{w32}
use mir.Val.{to_z, of_z}
use Rattle.opus_defines.proofs.Outcomes.{meets_number}
use Rattle.repacketizer_out.proofs.Numbered.{numbered_as}
use Rattle.aveluafi.proofs.collecting.aveluafi_repacketizer_out_packet.Goals as goal

pub returns : goal.returns
returns c =
    let byte : c.args.rp.now.toc < 256 = search rules in
    let lengths : length c.args.rp.now.len ≡ 48 = search rules in
    let numbers : length c.args.rp.now.packet ≡ 48 = search rules in
    let back : to_z w32 (of_z w32 c.aveluafi_repacketizer_out_range_impl.result) ≡ c.aveluafi_repacketizer_out_range_impl.result = search rules in
    let is = numbered_as c.args.rp.now byte lengths numbers c.args.store.now c.args.number c.args.«data».now c.ranges.number c.range_of-r.ensures in
    let n = meets_number is c.aveluafi_repacketizer_out_range_impl.ensures.0 c.aveluafi_repacketizer_out_range_impl.ensures.1 in
    (back ∙ n.0, n.1)
