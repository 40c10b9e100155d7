use Rattle.stream_join.proofs.Surveyed.{Streaming}
use Rattle.stream_join.proofs.survey_streams.Given as goal

abbrev pub invariant-loop-i : goal.invariant-loop-i
invariant-loop-i l = Streaming l.data l.n l.t l.at l.i
