-- `repacketizer_out::out_lent` meets its contract: it is the number of what `out_answer` answers.
use mathlib.Core.Path.{◌≡◌, ◌∙◌}
use borrow.Author.Rules.{rules}
use mir.Syntax.{w32}
use mir.Val.{to_z, of_z}
use Rattle.collector.specs.Parts.{collector_of}
use Rattle.opus_defines.proofs.Outcomes.{meets_number}
use Rattle.repacketizer_out.proofs.Outputs.{out_passed}
use Rattle.repacketizer_out.proofs.out_lent.Goals as goal

pub returns : goal.returns
returns c =
    let back : to_z w32 (of_z w32 c.number_of.result) ≡ c.number_of.result = search rules in
    let rp = collector_of c.args.h c.args.len.now c.args.packet.now in
    let passed = out_passed c.args.self_delimited c.args.pad rp c.args.store.now c.args.begin c.args.end c.args.«data».now c.ranges.begin c.ranges.end in
    let o = meets_number passed c.out_answer.ensures.number c.out_answer.ensures.bytes in record {
      number = back ∙ (c.number_of.ensures ∙ o.0);
      bytes = o.1;
    }
