use Rattle.stream_join.proofs.Surveyed.{Surveying}
use Rattle.stream_join.proofs.survey_packets.Given as goal

abbrev pub invariant-loop-i : goal.invariant-loop-i
invariant-loop-i l = Surveying l.data l.lengths l.t l.at l.i
