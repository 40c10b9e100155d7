-- `spelling::shorter` meets its contract: each way out is told which spelling was taken.
use mathlib.Core.Path.{sym, ◌∙◌}
use lib.ListN.{length}
use Rattle.spelling.proofs.Choice.{handed_original}
use Rattle.spelling.proofs.Telling.{part-told, part_long}
use Rattle.spelling.proofs.shorter.Goals as goal

pub returns-in_default : goal.returns-in_default
returns-in_default c =
    sym (handed_original c.args.packet.now (length c.args.work.now) (sym c.spell.ensures.taken ∙ c.in_default.is))

pub slice_bounds-result-end : goal.slice_bounds-result-end
slice_bounds-result-end c =
    part_long c.args.packet.now c.args.work.now c.spell.new.work c.spell.result c.in-Compact.n c.in-Compact.is c.spell.ensures.taken
    c.spell.ensures.bytes c.spell.auto.work

pub returns : goal.returns
returns c =
    part-told c.args.packet.now c.args.work.now c.spell.new.work c.spell.result c.in-Compact.n c.in-Compact.is c.spell.ensures.taken
    c.spell.ensures.bytes
