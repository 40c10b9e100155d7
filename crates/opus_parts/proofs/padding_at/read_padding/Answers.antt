-- `opus_parts::padding_at::read_padding` meets its contract: by the padding flag.
use mathlib.Core.Path.{◌∙◌}
use Rattle.opus_parts.proofs.AtPadding.{unpadded_at, padded_at}
use Rattle.opus_parts.proofs.padding_at.read_padding.Goals as goal

pub returns-then-count_byte-eq0 : goal.returns-then-count_byte-eq0
returns-then-count_byte-eq0 c =
    unpadded_at _ c.args.s.now c.if-count_byte-eq0.true

pub returns : goal.returns
returns c =
    c.read_chain.ensures ∙ padded_at _ c.args.s.now c.if-count_byte-eq0.false
