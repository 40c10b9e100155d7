-- The gain is passed by its bits.
use mir.Syntax.{w16}
use mir.ValLaws.{to_z-of_z}
use Rattle.show.proofs.Built.{three_put}
use Rattle.head_text.specs.Text.{sound_lines}
use Rattle.head_text.proofs.put_sound.Goals as goal

pub returns : goal.returns
unfolding sound_lines
returns g c = three_put _ _ _ _ c.put_number_line.ensures (rw (to_z-of_z w16 c.args.gain c.ranges.gain) at c.put_gain.ensures)
    (rw c.from.ensures at c.put_number_line-2.ensures)
