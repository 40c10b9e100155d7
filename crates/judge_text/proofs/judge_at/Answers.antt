-- `judge_text::judge_at` meets its contract: the packet is lent on to the judge.
use mathlib.Core.Path.{ap, ◌∙◌}
use mathlib.Core.Bool.{false}
use Rattle.packet_judge.specs.Judging.{judged}
use Rattle.judge_text.proofs.judge_at.Goals as goal

pub returns : goal.returns
returns c =
    c.judge_packet.ensures ∙ ap (judged false) c.packet_at.ensures
