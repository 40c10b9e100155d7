use Prim.Native.Nat.{◌≤◌}
use mathlib.Core.Path.{◌≡◌}
use mathlib.Core.Bool.{◌&&◌}
use lib.ListN.{length}
use Rattle.opus_head.specs.Reading.{entries_fit}
use Rattle.opus_head.proofs.Fitting.{fit_from}
use Rattle.opus_head.proofs.entries_fit.Given as goal

abbrev pub invariant-loop-i : goal.invariant-loop-i
invariant-loop-i l = (l.i ≤ l.n) × (entries_fit l.n l.sum l.mapping ≡ fit_from l.mapping l.n l.sum l.i)

abbrev pub invariant-loop-i-2 : goal.invariant-loop-i-2
invariant-loop-i-2 l = ((l.n ≤ l.i) × (l.i ≤ length l.mapping)) × (entries_fit l.n l.sum l.mapping ≡ l.fits && fit_from l.mapping l.n l.sum l.i)
