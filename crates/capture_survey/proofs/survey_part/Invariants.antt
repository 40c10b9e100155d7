use Prim.Native.Nat.{◌-◌}
use lib.ListN.{length}
use Rattle.capture_survey.proofs.Walking.{Walking}
use Rattle.capture_survey.proofs.survey_part.Given as goal

abbrev pub invariant-loop-n : goal.invariant-loop-n
invariant-loop-n l = Walking l.data l.last l.initial.sum l.sum l.at

abbrev pub decreases-loop-n : goal.decreases-loop-n
decreases-loop-n l = length l.data - l.at
