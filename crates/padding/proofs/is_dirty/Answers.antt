-- `padding::is_dirty` meets its contract: what asks for no padding has none.
use mathlib.Core.Path.{sym, ◌∙◌}
use Rattle.padding.proofs.Asking.{clean_unasked}
use Rattle.padding.proofs.is_dirty.Goals as goal

pub returns-then-not-asks_padding : goal.returns-then-not-asks_padding
returns-then-not-asks_padding c =
    clean_unasked c.args.self_delimited c.args.«data».now (sym c.asks_padding.ensures ∙ c.if-not-asks_padding.true)
