-- `opus_head::write_fields` meets its contract: the number of what `write_answer` answers.
use borrow.Author.Rules.{rules}
use mathlib.Core.Path.{◌≡◌}
use mir.Syntax.{w32}
use mir.Val.{to_z, of_z}
use Rattle.opus_head.specs.Parts.{fields_of}
use Rattle.opus_head.proofs.Answered.{told_report}
use Rattle.opus_head.proofs.write_fields.Goals as goal

pub returns : goal.returns
returns c =
    let back : to_z w32 (of_z w32 c.number_of.result) ≡ c.number_of.result = search rules in
    let whole = told_report (fields_of c.args.version c.args.channels c.args.pre_skip c.args.rate c.args.gain c.args.family c.args.streams
    c.args.coupled c.args.mapping.now)
    c.args.dst.now c.ranges.gain back c.number_of.ensures c.write_answer.ensures.says c.write_answer.ensures.bytes in
    record { number = whole.0; bytes = whole.1 }
