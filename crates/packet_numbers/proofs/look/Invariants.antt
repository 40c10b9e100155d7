use Rattle.packet_numbers.proofs.Numbering.{Looked}
use Rattle.packet_numbers.proofs.look.Given as goal

abbrev pub invariant-loop-i : goal.invariant-loop-i
invariant-loop-i l = Looked l.ns l.ks l.sum l.wrong l.i
