-- `collector::nb_frames_held` meets its contract.
use Rattle.collector.specs.Parts.{collector_of}
use Rattle.collector.proofs.Checks.{some_sound, none_unsound}
use Rattle.collector.proofs.Sound.{unsound_number, sound_number}
use Rattle.collector.proofs.nb_frames_held.Goals as goal

pub returns-in_default : goal.returns-in_default
returns-in_default c =
    unsound_number _ (none_unsound (collector_of c.args.h c.args.len.now c.args.packet.now) _ c.check.ensures c.in_default.is)

pub returns : goal.returns
returns c =
    sound_number _ (some_sound (collector_of c.args.h c.args.len.now c.args.packet.now) _ c.check.ensures c.in-Some.is).0
