-- `opus_head::mapping_of` meets its contract.
use native.Mathlib.Omega.{arith}
use lib.ListN.{take, drop}
use Rattle.blocks.proofs.Sets.{length-part_le}
use Rattle.opus_head.proofs.Fields.{entries_laid}
use Rattle.opus_head.proofs.mapping_of.Goals as goal

pub returns : goal.returns
returns c =
    entries_laid (take c.args.n (drop 21 c.args.«data».now)) (omega (arith, length-part_le c.args.«data».now 21 c.args.n)) c.copy_into.ensures
