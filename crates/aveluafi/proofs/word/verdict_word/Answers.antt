-- `aveluafi::word::verdict_word` meets its contract: a packet added has the number 0, and a refusal's word is handed on.
use Rattle.aveluafi.proofs.word.verdict_word.Goals as goal

pub returns-in_default : goal.returns-in_default
returns-in_default c =
    rw c.in_default.is

pub returns : goal.returns
returns c =
    rw c.in-Err.is c.refusal_word.ensures
