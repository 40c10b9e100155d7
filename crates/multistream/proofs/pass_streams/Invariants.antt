use Rattle.multistream.proofs.Passing.{Passing}
use Rattle.multistream.proofs.pass_streams.Given as goal

abbrev pub invariant-loop : goal.invariant-loop
invariant-loop l = Passing l.data l.k l.at l.counter
