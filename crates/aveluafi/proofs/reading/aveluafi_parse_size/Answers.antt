-- `aveluafi::reading::aveluafi_parse_size` meets its contract: it is the core's answer, as a record.
use mathlib.Core.Path.{◌∙◌, ap}
use Rattle.aveluafi.specs.Records.{size_record}
use Rattle.aveluafi.proofs.Records.{size_few}
use Rattle.aveluafi.proofs.reading.aveluafi_parse_size.Goals as goal

pub size_record-requires : goal.size_record-requires
size_record-requires c =
    rw c.parse_size.ensures (size_few c.args.rule c.args.«data».now (record { byte = λ i. (c.shared_slice_known-1.given i).fits }))

pub returns : goal.returns
returns c =
    c.size_record.ensures ∙ ap size_record c.parse_size.ensures
