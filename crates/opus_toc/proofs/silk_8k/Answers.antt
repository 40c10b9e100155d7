-- `opus_toc::silk_8k` meets its contract: each arm is a place of the list, and the last one has what is left.
use Rattle.opus_toc.proofs.Samples.{silks, at_last}
use Rattle.opus_toc.proofs.silk_8k.Goals as goal

pub returns-in_default : goal.returns-in_default
returns-in_default c =
    at_last silks c.args.i c.requires c.in_default.in_default-own.rest.0.0.1 c.in_default.in_default-own.rest.0.1 c.in_default.in_default-own.rest.1
