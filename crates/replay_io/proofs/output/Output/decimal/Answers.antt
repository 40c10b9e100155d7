-- The digits that io writes are the number's text.
use mathlib.Core.Path.{◌≡◌}
use lib.ListN.{take}
use Rattle.show.specs.Text.{decimal}
use Rattle.show.proofs.Digits.{decimal_is}
use Rattle.replay_io.proofs.output.Output.decimal.Goals as goal

pub returns : goal.returns
returns c =
    let d = c.decimal-k in
    let is : take d.result d.new.out ≡ decimal c.args.n = decimal_is _ _ _ d.ensures.len d.ensures.digits in
    rw is at c.text.ensures
