-- `capture_survey::with_record` meets its contract.
use Prim.Native.Nat.{◌-◌, ◌≤◌}
use mathlib.Core.Path.{◌≡◌}
use lib.ListN.{length}
use borrow.Author.Rules.{rules}
use Rattle.capture_survey.specs.Survey.{saved}
use Rattle.capture_survey.proofs.Savings.{saved_least}
use Rattle.capture_survey.proofs.Counting.{one_more}
use Rattle.capture_survey.proofs.with_record.Goals as goal
use Rattle.capture_survey.proofs.with_record.Goals.{After-weigh_packet-w}

least : (c : After-weigh_packet-w)
    → (c.weigh_packet-w.result.least ≤ length c.args.packet.now) × (length c.args.packet.now - c.weigh_packet-w.result.least ≡ saved c.args.packet.now)
least c = saved_least c.args.packet.now c.requires.1 (record { byte = λ i. search rules }) _ c.weigh_packet-w.ensures.least

pub overflow_sub-result : goal.overflow_sub-result
overflow_sub-result c = (least (goal.at.overflow_sub-result c).After-weigh_packet-w).0

pub returns : goal.returns
returns c =
    one_more c.args.sum c.args.passed c.args.packet.now c.weigh_packet-w.ensures.verdict c.tallied.ensures
    (least (goal.at.returns c).After-weigh_packet-w).1
