-- `aveluafi_head_read` meets its contract: the head with the number 0, or the refusal's number and zeros.
use mathlib.Core.Path.{◌≡◌, refl, sym, ◌∙◌}
use borrow.Author.Rules.{rules}
use mir.Syntax.{w32}
use mir.Val.{to_z, of_z}
use Rattle.aveluafi.proofs.Records.{head_made, head_refused}
use Rattle.aveluafi.proofs.identification.aveluafi_head_read.Goals as goal

pub returns-in-Ok : goal.returns-in-Ok
returns-in-Ok c =
    head_made c.in-Ok.head (sym c.in-Ok.is ∙ c.head_read.ensures) refl

pub returns-in-Err : goal.returns-in-Err
returns-in-Err c =
    let back : to_z w32 (of_z w32 c.refusal_number.result) ≡ c.refusal_number.result = search rules in
    head_refused c.in-Err.e (sym c.in-Err.is ∙ c.head_read.ensures) (back ∙ c.refusal_number.ensures) c.zero_head.ensures
