-- `aveluafi_next_record` meets its contract: the record's number is the verdict's, and the other fields are the same.
use mathlib.Core.Path.{◌≡◌, ◌∙◌}
use borrow.Author.Rules.{rules}
use mir.Syntax.{w32}
use mir.Val.{to_z, of_z}
use Rattle.aveluafi.proofs.Records.{record_found}
use Rattle.aveluafi.proofs.captures.aveluafi_next_record.Goals as goal

pub returns : goal.returns
returns c =
    let back : to_z w32 (of_z w32 c.verdict_number.result) ≡ c.verdict_number.result = search rules in
    record_found c.next_record-r.result c.next_record-r.ensures (back ∙ c.verdict_number.ensures)
