-- Verdicts counted.
--     tallied_most               one verdict more is one more in all, or none
--     how_many-append, four_sum   how many of a kind: of two lists, and of the four kinds together
--     plus-next, plus_one, plus_end, plus_start     what is counted and what is still to come
-- Assumes nothing.
use Prim.Native.Nat.{◌+◌, ◌≤◌}
use native.Mathlib.Nat.{add-zero, zero-add, add_assoc}
use native.Mathlib.Omega.{arith}
use mathlib.Core.Path.{◌≡◌, refl, sym}
use mathlib.Core.List.{List, [], ◌∷◌, ◌++◌}
use mathlib.Core.Bool.{Bool, cond}
use lib.ListN.{length}
use Rattle.opus_defines.specs.declared.Refusal.{Refusal}
use Rattle.packet_judge.specs.declared.Judged.{Judged}
use Rattle.packet_judge.specs.declared.Judged.TheVariants.{Refused, Unreadable, Dirty, Longer, Clean}
use Rattle.packet_judge.specs.Tallies.{how_many, tally_of, none, tallied, plus, sum_of}
use Rattle.packet_judge.specs.declared.Tally.{Tally}

pub tallied_most : (j : Judged) (t : Tally) → sum_of (tallied j t) ≤ sum_of t + 1
tallied_most (Refused e) t = omega arith
tallied_most (Unreadable rule place) t = omega arith
tallied_most Dirty t = omega arith
tallied_most (Longer n) t = omega arith
tallied_most Clean t = omega arith

-- ---- how many of a kind
pub how_many-append : (kind : Judged → Bool) (js ks : List Judged) → how_many kind (js ++ ks) ≡ how_many kind js + how_many kind ks
how_many-append kind [] ks = sym (zero-add (how_many kind ks))
how_many-append kind (j ∷ js) ks = rw (how_many-append kind js ks) (sym (add_assoc (cond (kind j) 1 0) (how_many kind js) (how_many kind ks)))

-- no verdict among these is a refusal
abbrev pub Unrefused : List Judged → Type 0
Unrefused [] = Unit {0}
Unrefused (j ∷ more) = ((e : Refusal) → j ≡ Refused e → ⊥) × Unrefused more

pub four_sum : (js : List Judged) → Unrefused js → sum_of (tally_of js) ≡ length js
four_sum [] u = refl
four_sum (Refused e ∷ js) u = absurd (u.0 e refl)
four_sum (Unreadable rule place ∷ js) u = omega (arith, four_sum js u.1)
four_sum (Dirty ∷ js) u = omega (arith, four_sum js u.1)
four_sum (Longer n ∷ js) u = omega (arith, four_sum js u.1)
four_sum (Clean ∷ js) u = omega (arith, four_sum js u.1)

-- ---- counted, and still to come
pub plus-next : (j : Judged) (t : Tally) (js : List Judged) → plus t (tally_of (j ∷ js)) ≡ plus (tallied j t) (tally_of js)
plus-next (Refused e) t js = simp zero-add
plus-next (Unreadable rule place) t js = simp (zero-add, add_assoc)
plus-next Dirty t js = simp (zero-add, add_assoc)
plus-next (Longer n) t js = simp (zero-add, add_assoc)
plus-next Clean t js = simp (zero-add, add_assoc)

pub plus_one : (j : Judged) (t : Tally) → tallied j t ≡ plus t (tallied j none)
plus_one (Refused e) t = simp add-zero
plus_one (Unreadable rule place) t = simp (zero-add, add-zero)
plus_one Dirty t = simp (zero-add, add-zero)
plus_one (Longer n) t = simp (zero-add, add-zero)
plus_one Clean t = simp (zero-add, add-zero)

pub plus_end : (t : Tally) → plus t (tally_of []) ≡ t
plus_end t = simp add-zero

pub plus_start : (t : Tally) → plus none t ≡ t
plus_start t = simp zero-add
