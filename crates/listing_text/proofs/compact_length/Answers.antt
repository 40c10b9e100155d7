-- `listing_text::compact_length` meets its contract: the sums of the lengths, and what they say of the compact packet.
use mathlib.Core.Path.{ap, ◌∙◌}
use mathlib.Core.Bool.{false}
use lib.ListN.{length}
use Rattle.opus_header.specs.Forms.{compact_bytes}
use Rattle.opus_header.specs.declared.Sums.{Sums}
use Rattle.opus_header.proofs.Forms.{sums_few}
use Rattle.listing_text.proofs.compact_length.Goals as goal

pub compact_bytes-requires : goal.compact_bytes-requires
compact_bytes-requires c =
    sums_few c.args.ns.now c.sums_of-m.result c.sums_of-m.ensures c.requires.1 c.requires.2

pub returns : goal.returns
returns c =
    c.compact_bytes.ensures ∙ ap (λ (m : Sums). compact_bytes (length c.args.ns.now) m false) c.sums_of-m.ensures
