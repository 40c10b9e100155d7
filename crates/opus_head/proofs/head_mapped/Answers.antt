-- `opus_head::head_mapped` meets its contract.
use Rattle.opus_head.proofs.Fields.{fields_read}
use Rattle.opus_head.proofs.head_mapped.Goals as goal

pub returns : goal.returns
returns c =
    fields_read c.args.«data».now c.args.streams c.args.coupled c.args.mapping c.two_at-pre_skip.ensures.0 c.four_at-rate.ensures.0
    c.two_at.ensures.0 c.gain_of-gain.ensures (record { sfits = c.gain_of-gain.type_inv })
