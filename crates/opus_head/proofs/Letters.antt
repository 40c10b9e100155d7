-- The letters at the front of a list, as std looks at them.
-- Assumes nothing.
use Prim.Native.Nat.{ℕ}
use mathlib.Core.Path.{◌≡◌, refl, sym, ap, ◌∙◌}
use mathlib.Core.List.{List, [], ◌∷◌}
use mathlib.Core.Bool.{Bool, ◌&&◌}
use lib.Dec.{eqb}
use borrow.Author.Tests.{eq-eqb, ne_eqb, eqb-true, eqb-false}
use Rattle.std.specs.List.{starts_with}
use Rattle.laws.proofs.Never.{by_test}
use Rattle.opus_head.specs.Reading.{begins}

eqb_comm : (m n : ℕ) → eqb m n ≡ eqb n m
eqb_comm m n =
    by_test (eqb m n) (λ t. t ∙ sym (eq-eqb n m (sym (eqb-true m n t)))) (λ t. t ∙ sym (ne_eqb n m (λ e. eqb-false m n t (sym e))))

pub starts_begins : (cs s : List ℕ) → starts_with eqb s cs ≡ begins cs s
starts_begins [] s = refl
starts_begins (c ∷ cs) [] = refl
starts_begins (c ∷ cs) (b ∷ s) = ap (λ (t : Bool). t && starts_with eqb s cs) (eqb_comm c b) ∙ ap (λ (t : Bool). eqb b c && t) (starts_begins cs s)
