-- `marks::marks_in` meets its contract.
use Rattle.marks.proofs.Flags.{no_carry, no_borrow, flags_told}
use Rattle.marks.proofs.marks_in.Goals as goal

pub overflow_add-y : goal.overflow_add-y
overflow_add-y c =
    record { fits = no_carry c.args.w }

pub overflow_sub-result : goal.overflow_sub-result
overflow_sub-result c =
    no_borrow c.args.w

pub returns : goal.returns
returns c =
    flags_told c.args.w
