-- `aveluafi::reading::aveluafi_encode_size` meets its contract: it is the core's length writer.
use mathlib.Core.Path.{◌≡◌, ◌∙◌}
use borrow.Author.Rules.{rules}
use mir.Syntax.{w32}
use mir.Val.{to_z, of_z}
use Rattle.aveluafi.proofs.Records.{size_passed}
use Rattle.aveluafi.proofs.reading.aveluafi_encode_size.Goals as goal

pub returns : goal.returns
returns c =
    let back : to_z w32 (of_z w32 c.encode_size.result) ≡ c.encode_size.result = search rules in
    let whole = size_passed c.args.size c.args.«data».now c.ranges.size (back ∙ c.encode_size.ensures.number) c.encode_size.ensures.bytes in
    record { number = whole.0; bytes = whole.1 }
