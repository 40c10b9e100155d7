use Rattle.std.proofs.Common.{◌∙◌}
use Rattle.blocks.proofs.Sets.{length_part}
use Rattle.blocks.proofs.LentParts.{sets-whole, part_between}
use Rattle.blocks.proofs.copy_bytes.Goals as goal

pub returns : goal.returns
returns c =
    let a = c.args in
    sets-whole a.dst.now a.at a.n _ (c.copy_from_slice.ensures.after ∙ part_between a.src.now a.from a.n) c.requires.0
    (length_part a.src.now a.from a.n c.requires.1)
