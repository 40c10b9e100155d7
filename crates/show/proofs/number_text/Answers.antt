-- There is room for a sign and ten digits.
use Rattle.std.proofs.Common.{arith, rules, ap}
use lib.ListN.{length}
use mir.Syntax.{w32}
use mir.ValLaws.{to_z-of_z}
use Rattle.show.proofs.Signed.{integer_most}
use Rattle.show.proofs.number_text.Goals as goal

pub put_number-requires : goal.put_number-requires
put_number-requires c =
    let most = integer_most c.args.x c.ranges.x in
    (search rules, rw (to_z-of_z w32 c.args.x c.ranges.x) (omega (arith, ap length c.new-digits.ensures, most)))
