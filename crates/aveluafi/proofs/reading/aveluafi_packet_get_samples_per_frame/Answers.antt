-- `aveluafi::reading::aveluafi_packet_get_samples_per_frame` meets its contract: it is the core's answer.
use mathlib.Core.Path.{◌≡◌, ◌∙◌}
use borrow.Author.Rules.{rules}
use mir.Syntax.{w32}
use mir.Val.{to_z, of_z}
use Rattle.aveluafi.proofs.Records.{rate_passed}
use Rattle.aveluafi.proofs.reading.aveluafi_packet_get_samples_per_frame.Goals as goal

pub returns : goal.returns
returns c =
    let back : to_z w32 (of_z w32 c.opus_packet_get_samples_per_frame.result) ≡ c.opus_packet_get_samples_per_frame.result = search rules in
    back ∙ (c.opus_packet_get_samples_per_frame.ensures ∙ rate_passed c.args.«data».now c.args.rate c.ranges.rate)
