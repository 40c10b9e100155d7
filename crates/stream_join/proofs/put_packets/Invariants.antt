use Rattle.stream_join.proofs.Putting.{Putting}
use Rattle.stream_join.proofs.put_packets.Given as goal

abbrev pub invariant-loop-i : goal.invariant-loop-i
invariant-loop-i l = Putting l.data l.lengths l.initial.dst l.dst l.at l.to l.i
