-- `marks::first_in` meets its contract.
use native.Mathlib.Omega.{arith}
use Rattle.marks.proofs.Flags.{first_told, first_most}
use Rattle.marks.proofs.first_in.Goals as goal

pub overflow_cast-result : goal.overflow_cast-result
overflow_cast-result c =
    record { fits = omega (arith, first_most c.args.t) }

pub returns : goal.returns
returns c =
    record {
      first = first_told c.args.t;
      most = omega (arith, first_most c.args.t);
    }
