use Rattle.std.proofs.Common.{◌≡◌, ◌%◌, take}
use Rattle.opus_format.specs.Frames.{total}
use Rattle.collector.proofs.total_16.Given as goal

abbrev pub invariant-loop-i : goal.invariant-loop-i
invariant-loop-i l = l.sum ≡ total (take l.i l.ns) % 65536
