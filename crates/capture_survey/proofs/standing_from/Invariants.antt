use Prim.Native.Nat.{◌-◌, ◌≤◌}
use mathlib.Core.Path.{◌≡◌}
use lib.ListN.{length}
use Rattle.capture.specs.Finding.{record_from}
use Rattle.capture_survey.proofs.standing_from.Given as goal

abbrev pub invariant-loop-place : goal.invariant-loop-place
invariant-loop-place l = ((l.at ≤ l.place) × (l.place ≤ length l.data)) × (record_from l.data l.at ≡ record_from l.data l.place)

abbrev pub decreases-loop-place : goal.decreases-loop-place
decreases-loop-place l = length l.data - l.place
