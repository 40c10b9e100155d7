-- `collector::nb_frames` meets its contract: it is the number of what `nb_frames_held` answers.
use Rattle.std.proofs.Common.{◌≡◌, ap, ◌∙◌, w32, to_z, of_z, rules}
use Rattle.opus_defines.specs.Numbers.{number_of}
use Rattle.collector.proofs.nb_frames.Goals as goal

pub returns : goal.returns
returns c =
    let back : to_z w32 (of_z w32 c.number_of.result) ≡ c.number_of.result = search rules in
    back ∙ (c.number_of.ensures ∙ ap number_of c.nb_frames_held.ensures)
