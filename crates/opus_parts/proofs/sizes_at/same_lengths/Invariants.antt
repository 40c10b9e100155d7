-- The lengths written so far, with what stands behind them, are the whole array.
use Rattle.std.proofs.Common.{◌≡◌, ◌++◌, drop}
use Rattle.std.specs.Prelude.{replicate}
use Rattle.opus_format.specs.Frames.{padded48}
use Rattle.opus_parts.proofs.sizes_at.same_lengths.Given as goal

abbrev pub invariant-loop-length : goal.invariant-loop-length
invariant-loop-length l = l.length-items ++ drop l.count l.fn.lengths ≡ padded48 (replicate l.length-index l.n)
