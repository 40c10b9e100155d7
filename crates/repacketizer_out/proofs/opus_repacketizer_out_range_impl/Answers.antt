-- `repacketizer_out::opus_repacketizer_out_range_impl` meets its contract: the collector is taken apart.
use mathlib.Core.Path.{◌≡◌, ◌∙◌}
use borrow.Author.Rules.{rules}
use mir.Syntax.{w32}
use mir.Val.{to_z, of_z}
use Rattle.opus_defines.proofs.Outcomes.{meets_number}
use Rattle.collector.proofs.Checks.{headed}
use Rattle.repacketizer_out.proofs.Outputs.{out_passed}
use Rattle.repacketizer_out.proofs.opus_repacketizer_out_range_impl.Goals as goal

pub returns : goal.returns
returns c =
    let back : to_z w32 (of_z w32 c.out_lent.result) ≡ c.out_lent.result = search rules in
    let passed = out_passed c.args.self_delimited c.args.pad c.args.rp c.args.store.now c.args.begin c.args.end c.args.«data».now c.ranges.begin c.ranges.end in
    let e = rw (headed c.args.rp c.head_of-h.result c.head_of-h.ensures) at c.out_lent.ensures in
    let o = meets_number passed e.number e.bytes in record {
      number = back ∙ o.0;
      bytes = o.1;
    }
