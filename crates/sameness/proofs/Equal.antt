-- Answers that are no and yes.
-- Assumes nothing.
use mathlib.Core.Path.{refl}
use mathlib.Core.Bool.{true, false}
use Rattle.laws.proofs.Never.{never}
use Rattle.sameness.specs.Sameness.{Tells}

pub tells_not : {P : Type 0} → (P → ⊥) → Tells false P
tells_not f = record { so = λ e. never (cc); only = λ p. absurd (f p) }

pub tells_yes : {P : Type 0} → P → Tells true P
tells_yes p = record { so = λ e. p; only = λ q. refl }
