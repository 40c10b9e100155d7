-- `opus_toc::opus_packet_get_nb_frames` meets its contract: it is the number of what `nb_frames` answers.
use mathlib.Core.Path.{◌≡◌, ap, ◌∙◌}
use borrow.Author.Rules.{rules}
use mir.Syntax.{w32}
use mir.Val.{to_z, of_z}
use Rattle.opus_defines.specs.Numbers.{number_of}
use Rattle.opus_toc.proofs.opus_packet_get_nb_frames.Goals as goal

pub returns : goal.returns
returns c =
    let back : to_z w32 (of_z w32 c.number_of.result) ≡ c.number_of.result = search rules in
    back ∙ (c.number_of.ensures ∙ ap number_of c.nb_frames.ensures)
