use Rattle.std.proofs.Common.{take}
use Rattle.replay_io.specs.Lines.{Puts, hex}
use Rattle.replay_io.proofs.output.Output.buffer.Given as goal

abbrev pub invariant-loop-b : goal.invariant-loop-b
invariant-loop-b l = Puts l.initial.self l.self (hex (take l.b-index l.s))
