-- `aveluafi::judging::aveluafi_packet_judge` meets its contract: it is the record of the verdict.
use mathlib.Core.Path.{ap, ◌∙◌}
use Rattle.aveluafi.specs.Verdicts.{verdict_record}
use Rattle.aveluafi.proofs.judging.aveluafi_packet_judge.Goals as goal

pub returns : goal.returns
returns c =
    c.verdict_record.ensures ∙ ap verdict_record c.judge_packet.ensures
