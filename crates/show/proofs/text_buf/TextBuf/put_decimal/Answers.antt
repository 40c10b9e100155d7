use mathlib.Core.Path.{◌≡◌}
use lib.ListN.{take}
use Rattle.std.proofs.Common.{rules}
use Rattle.show.specs.Text.{decimal}
use Rattle.show.proofs.Digits.{decimal_is}
use Rattle.show.proofs.text_buf.TextBuf.put_decimal.Goals as goal

pub put-requires : goal.put-requires
put-requires g c =
    let d = c.decimal-k in
    let is : take d.result d.new.out ≡ decimal c.args.n = decimal_is _ _ _ d.ensures.len d.ensures.digits in
    rw is (search rules)

pub returns : goal.returns
returns g c =
    let d = c.decimal-k in
    let is : take d.result d.new.out ≡ decimal c.args.n = decimal_is _ _ _ d.ensures.len d.ensures.digits in
    rw is at c.put.ensures
