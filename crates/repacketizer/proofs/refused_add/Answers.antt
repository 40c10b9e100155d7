-- `repacketizer::refused_add` meets its contract.
use Rattle.repacketizer.proofs.Adds.{refused_head_lem}
use Rattle.repacketizer.proofs.refused_add.Goals as goal

pub returns : goal.returns
returns c =
    (refused_head_lem c.args.h c.wide.result c.wide.ensures.0 c.args.e, c.wide.ensures.1)
