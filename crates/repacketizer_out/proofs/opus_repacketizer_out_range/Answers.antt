-- `repacketizer_out::opus_repacketizer_out_range` meets its contract: it is the ordinary output without padding.
use mathlib.Core.Path.{◌≡◌, ◌∙◌}
use mathlib.Core.Bool.{false}
use borrow.Author.Rules.{rules}
use mir.Syntax.{w32}
use mir.Val.{to_z, of_z}
use Rattle.opus_defines.proofs.Outcomes.{meets_number}
use Rattle.repacketizer_out.proofs.Outputs.{out_passed}
use Rattle.repacketizer_out.proofs.opus_repacketizer_out_range.Goals as goal

pub returns : goal.returns
returns c =
    let back : to_z w32 (of_z w32 c.opus_repacketizer_out_range_impl.result) ≡ c.opus_repacketizer_out_range_impl.result = search rules in
    let o =
    meets_number (out_passed false false c.args.rp c.args.store.now c.args.begin c.args.end c.args.«data».now c.ranges.begin c.ranges.end)
    c.opus_repacketizer_out_range_impl.ensures.number
    c.opus_repacketizer_out_range_impl.ensures.bytes in record {
      number = back ∙ o.0;
      bytes = o.1;
    }
