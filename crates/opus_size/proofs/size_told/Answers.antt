-- A length behind `?`: it is whole, or the rule asks for what is cut short.
use mathlib.Core.Path.{◌∙◌, sym}
use Rattle.std.proofs.lemmas.Result.{err_from_is_err_and}
use Rattle.laws.proofs.Options.{was_some, was_none}
use Rattle.opus_size.proofs.At.{front-short, front_whole}
use Rattle.opus_size.proofs.size_told.Goals as goal

pub returns-in_err-size : goal.returns-in_err-size
returns-in_err-size c =
    let no = was_none _ _ (sym c.ok_or.ensures.value ∙ c.in_err-size.was) in
    let p = err_from_is_err_and c.from_residual.result c.from_residual.ensures.1 in
    rw (p.1, p.2, ← no.1) (front-short _ c.args.rule (sym c.size_at.ensures ∙ no.0))

pub returns : goal.returns
returns c =
    front_whole _ c.args.rule _ _ (sym c.size_at.ensures ∙ was_some _ _ (sym c.ok_or.ensures.value ∙ c.in_ok-size.was))
