use Rattle.std.proofs.Common.{take}
use Rattle.replay_io.specs.Lines.{Puts, fields}
use Rattle.replay_io.proofs.output.Output.sizes.Given as goal

abbrev pub invariant-loop-n : goal.invariant-loop-n
invariant-loop-n l = Puts l.initial.self l.self (fields (take l.n-index l.lengths))
