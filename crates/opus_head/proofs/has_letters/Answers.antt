-- `opus_head::has_letters` meets its contract.
use mathlib.Core.Path.{◌∙◌}
use Rattle.opus_head.specs.Header.{letters}
use Rattle.opus_head.proofs.Letters.{starts_begins}
use Rattle.opus_head.proofs.has_letters.Goals as goal

pub returns : goal.returns
returns c =
    c.starts_with.ensures.value ∙ starts_begins letters c.args.«data».now
