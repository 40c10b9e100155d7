-- `opus_head::head_write` meets its contract: the fields are passed one by one.
use borrow.Author.Rules.{rules, sfits_of}
use mathlib.Core.Path.{◌≡◌}
use mir.Syntax.{w32}
use mir.Val.{to_z, of_z}
use Rattle.opus_head.proofs.Answered.{told}
use Rattle.opus_head.proofs.head_write.Goals as goal

pub returns : goal.returns
returns c =
    let back : to_z w32 (of_z w32 c.write_fields.result) ≡ c.write_fields.result = search rules in
    let whole = told c.args.head c.args.dst.now (sfits_of c.struct_told-1.given.1.1.1.1.0.1) back c.write_fields.ensures.number
    c.write_fields.ensures.bytes in record { number = whole.0; bytes = whole.1 }
