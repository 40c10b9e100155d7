-- `sameness::equal_bytes` meets its contract.
use mathlib.Core.Path.{◌∙◌, sym}
use Rattle.std.specs.Cmp.Lexicographic.{bytes_decides}
use Rattle.sameness.proofs.equal_bytes.Goals as goal

pub returns : goal.returns
returns c =
    let tells = bytes_decides c.args.a.now c.args.b.now in
    record { so = λ e. tells.0 (sym c.eq.ensures ∙ e); only = λ e. c.eq.ensures ∙ tells.1 e }
