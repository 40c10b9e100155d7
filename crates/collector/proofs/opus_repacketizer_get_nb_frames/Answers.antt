-- `collector::opus_repacketizer_get_nb_frames` meets its contract: the collector is taken apart.
use Rattle.std.proofs.Common.{◌≡◌, ◌∙◌, w32, to_z, of_z, rules}
use Rattle.collector.proofs.Checks.{headed}
use Rattle.collector.proofs.opus_repacketizer_get_nb_frames.Goals as goal

pub returns : goal.returns
returns c =
    let back : to_z w32 (of_z w32 c.nb_frames.result) ≡ c.nb_frames.result = search rules in
    back ∙ (rw (headed c.args.rp c.head_of.result c.head_of.ensures) at c.nb_frames.ensures)
