use Rattle.multistream.proofs.Repacking.{Repacking}
use Rattle.multistream.proofs.repack_streams.Given as goal

abbrev pub invariant-loop : goal.invariant-loop
invariant-loop l = Repacking l.initial.data l.len l.k l.data l.to l.from l.counter
