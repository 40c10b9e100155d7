-- `collector::is_sound` meets its contract.
use Rattle.std.proofs.Common.{ap, ◌∙◌}
use Rattle.collector.specs.Collector.{sound}
use Rattle.collector.specs.Parts.{collector_of}
use Rattle.collector.proofs.Checks.{headed, is_some-sound}
use Rattle.collector.proofs.is_sound.Goals as goal

pub returns : goal.returns
returns c =
    c.is_some.ensures ∙ is_some-sound (collector_of c.head_of.result c.args.rp.len c.args.rp.packet) _ c.check.ensures ∙ ap sound
    (headed c.args.rp c.head_of.result c.head_of.ensures)
