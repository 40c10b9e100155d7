-- `sameness::equal_lengths` meets its contract.
use mathlib.Core.Path.{◌∙◌, sym}
use Rattle.std.specs.Cmp.Lexicographic.{bytes_decides}
use Rattle.sameness.proofs.equal_lengths.Goals as goal

pub returns : goal.returns
returns c =
    let tells = bytes_decides c.args.ns.now c.args.ms.now in
    record { so = λ e. tells.0 (sym c.eq.ensures ∙ e); only = λ e. c.eq.ensures ∙ tells.1 e }
