-- `opus_size::parse_size` meets its contract: by the rule that it is told.
-- Assumes nothing.
use mathlib.Core.Path.{◌∙◌}
use Rattle.opus_size.proofs.At.{told_4, told_7, told_8, told_other}
use Rattle.opus_size.proofs.parse_size.Goals as goal

pub returns-in-4 : goal.returns-in-4
returns-in-4 c =
    c.size_told.ensures ∙ told_4 _ _ c.in-4.is

pub returns-in-7 : goal.returns-in-7
returns-in-7 c =
    c.size_told-in-7.ensures ∙ told_7 _ _ c.in-7.is

pub returns-in-8 : goal.returns-in-8
returns-in-8 c =
    c.size_told-in-8.ensures ∙ told_8 _ _ c.in-8.is

pub returns-in_default : goal.returns-in_default
returns-in_default c =
    told_other _ _ c.in_default.in_default-own.rest.0.0.1 c.in_default.in_default-own.rest.0.1 c.in_default.in_default-own.rest.1
