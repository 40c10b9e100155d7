-- `marks::marks_at` meets its contract.
use Rattle.laws.proofs.Bytes.{bytes_take, bytes_drop}
use Rattle.marks.proofs.Finding.{word_long}
use Rattle.marks.proofs.marks_at.Goals as goal

pub returns : goal.returns
returns c =
    c.marks_in.ensures _ (word_long c.args.«data».now c.args.at c.requires)
    (bytes_take 8 _ (bytes_drop c.args.at c.args.«data».now (record { byte = λ i. (c.shared_slice_known-1.given i).fits }))) c.eight_at.ensures
