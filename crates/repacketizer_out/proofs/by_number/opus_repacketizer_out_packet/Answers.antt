-- `repacketizer_out::by_number::opus_repacketizer_out_packet` meets its contract: it is the output of the range where the frames stand.
use Prim.Native.Nat.{◌<◌}
use mathlib.Core.Path.{◌≡◌, ◌∙◌}
use lib.ListN.{length}
use borrow.Author.Rules.{rules}
use mir.Syntax.{w32}
use mir.Val.{to_z, of_z}
use Rattle.opus_defines.proofs.Outcomes.{meets_number}
use Rattle.repacketizer_out.proofs.Numbered.{numbered_as}
use Rattle.repacketizer_out.proofs.by_number.opus_repacketizer_out_packet.Goals as goal
use Rattle.repacketizer_out.proofs.by_number.opus_repacketizer_out_packet.Goals.{Start}

-- the collector is as the code can have it
byte : (c : Start) → c.args.rp.toc < 256
byte c = search rules

lengths : (c : Start) → length c.args.rp.len ≡ 48
lengths c = search rules

numbers : (c : Start) → length c.args.rp.packet ≡ 48
numbers c = search rules

pub returns : goal.returns
returns c =
    let back : to_z w32 (of_z w32 c.opus_repacketizer_out_range.result) ≡ c.opus_repacketizer_out_range.result = search rules in
    let is = numbered_as c.args.rp (byte (goal.at.returns c).Start) (lengths (goal.at.returns c).Start) (numbers (goal.at.returns c).Start)
    c.args.store.now c.args.number c.args.«data».now c.ranges.number c.range_of-r.ensures in
    let n = meets_number is c.opus_repacketizer_out_range.ensures.number c.opus_repacketizer_out_range.ensures.bytes in record {
      number = back ∙ n.0;
      bytes = n.1;
    }
