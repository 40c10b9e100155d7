-- `opus_head::fixed_bytes` meets its contract: byte by byte.
use Rattle.opus_head.proofs.Fields.{fixed_laid}
use Rattle.opus_head.proofs.fixed_bytes.Goals as goal

pub returns : goal.returns
returns c =
    fixed_laid c.args.version c.args.channels c.args.pre_skip c.args.rate c.args.gain c.args.family c.ranges.gain c.bits_of-bits.ensures
