-- There is room for twenty digits.
use Rattle.std.proofs.Common.{arith, rules, ap}
use lib.ListN.{length}
use Rattle.show.proofs.Digits.{decimal_most}
use Rattle.show.proofs.decimal_text.Goals as goal

pub put_decimal-requires : goal.put_decimal-requires
put_decimal-requires c = (search rules, omega (arith, ap length c.new-digits.ensures, decimal_most c.args.n 19 (omega arith)))
