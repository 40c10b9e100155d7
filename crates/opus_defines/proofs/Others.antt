-- A refusal by its kind. The kinds are told apart here and in the definitions alone, so that a new one touches no other crate.
--     not_among, other_kinds                     a kind that a `let .. else` did not find is not among those that are left
--     unreadable-or-not, other_or                unreadable with rule and place, or not
--     other_plain                                a refusal of another kind has no rule and no place
--     refusal_few, rule_few, report_rule         its number has one digit or two, its rule one
--     refusal_passed                             its number, passed on as 32 bits, is the same
--     shifted_none, shifted_more                 a place counted from further before
-- Assumes nothing.
use Prim.Native.Nat.{ℕ, ◌+◌, ◌<◌}
use native.Mathlib.Omega.{arith}
use mathlib.Core.Path.{◌≡◌, refl, sym}
use mathlib.Core.List.{List, [], ◌∷◌}
use mathlib.Core.Bool.{false}
use mathlib.Core.Logic.{◌⊎◌, inl, inr, ⊎_elim}
use lib.Dec.{eqb}
use lib.IntN.{negsuc}
use mir.Syntax.{w32}
use mir.Val.{has_key, to_z, of_z}
use mir.ValLaws.{to_z-of_z}
use types.Run.{OneOf}
use borrow.Author.Tests.{eq-eqb}
use Rattle.laws.proofs.Never.{never, by_test}
use Rattle.opus_defines.specs.Numbers.{rule_number, refusal_report, refusal_number}
use Rattle.opus_defines.specs.Rules.{rule_refusal, unreadable_or, shifted}
use Rattle.opus_defines.specs.declared.Rule.{Rule}
use Rattle.opus_defines.specs.declared.Rule.TheVariants.{R1, R2, R3, R4, R5, R6, R7, R8}
use Rattle.opus_defines.specs.declared.Refusal.{Refusal}
use Rattle.opus_defines.specs.declared.Refusal.TheVariants.{BadArg, BufferTooSmall, InvalidPacket, InvalidState}
use Rattle.opus_defines.specs.declared.Refusal.TheVariants.{Unreadable, CutShort, DirtyPadding, OverBudget}
use Rattle.opus_defines.specs.declared.Refusal.TheVariants.{BadHeader, UnknownVersion, BadField}

-- a number that is not among the keys of an arm, by computation, is none of them
pub not_among : (ks : List ℕ) (x : ℕ) → has_key ks x ≡ false → OneOf ks x → ⊥
not_among [] x h o = absurd o
not_among (k ∷ []) x h o = never (let q = rw (eq-eqb k x (sym o)) at h in cc)
not_among (k ∷ k' ∷ ks) x h (inl e) = never (let q = rw (eq-eqb k x (sym e)) at h in cc)
not_among (k ∷ k' ∷ ks) x h (inr o) =
    by_test (eqb k x) (λ t. never (let q = rw t at h in cc)) (λ f. not_among (k' ∷ ks) x (rw f at h) o)

-- the numbers of the kinds but `Unreadable`
abbrev pub other_kinds : List ℕ
other_kinds = 0 ∷ 1 ∷ 2 ∷ 3 ∷ 5 ∷ 6 ∷ 7 ∷ 8 ∷ 9 ∷ 10 ∷ []

-- neither of the two
pub other_plain : (e : Refusal) → ((rule : Rule) (place : ℕ) → e ≡ Unreadable rule place → ⊥) → ((rule : Rule) → e ≡ CutShort rule → ⊥)
    → record { number = refusal_number e; rule = 0; place = 0 } ≡ refusal_report e
other_plain BadArg u c = refl
other_plain BufferTooSmall u c = refl
other_plain InvalidPacket u c = refl
other_plain InvalidState u c = refl
other_plain (Unreadable rule place) u c = absurd (u rule place refl)
other_plain (CutShort rule) u c = absurd (c rule refl)
other_plain DirtyPadding u c = refl
other_plain OverBudget u c = refl
other_plain BadHeader u c = refl
other_plain UnknownVersion u c = refl
other_plain BadField u c = refl

-- ---- unreadable, or not
unreadable-or-not : (e : Refusal)
    → ((rule : Rule) × ((place : ℕ) × (e ≡ Unreadable rule place))) ⊎ ((rule : Rule) (place : ℕ) → e ≡ Unreadable rule place → ⊥)
unreadable-or-not (Unreadable rule place) = inl (rule, (place, refl))
unreadable-or-not BadArg = inr (λ rule place q. never (cc))
unreadable-or-not BufferTooSmall = inr (λ rule place q. never (cc))
unreadable-or-not InvalidPacket = inr (λ rule place q. never (cc))
unreadable-or-not InvalidState = inr (λ rule place q. never (cc))
unreadable-or-not (CutShort r) = inr (λ rule place q. never (cc))
unreadable-or-not DirtyPadding = inr (λ rule place q. never (cc))
unreadable-or-not OverBudget = inr (λ rule place q. never (cc))
unreadable-or-not BadHeader = inr (λ rule place q. never (cc))
unreadable-or-not UnknownVersion = inr (λ rule place q. never (cc))
unreadable-or-not BadField = inr (λ rule place q. never (cc))

pub other_or : {A : Type 0} (f : Rule → ℕ → A) (a : A) (e : Refusal) → ((rule : Rule) (place : ℕ) → e ≡ Unreadable rule place → ⊥)
    → unreadable_or f a e ≡ a
other_or f a (Unreadable rule place) u = absurd (u rule place refl)
other_or f a BadArg u = refl
other_or f a BufferTooSmall u = refl
other_or f a InvalidPacket u = refl
other_or f a InvalidState u = refl
other_or f a (CutShort rule) u = refl
other_or f a DirtyPadding u = refl
other_or f a OverBudget u = refl
other_or f a BadHeader u = refl
other_or f a UnknownVersion u = refl
other_or f a BadField u = refl

-- ---- numbers
pub refusal_few : (e : Refusal) → (k : ℕ) × (k < 24) × (refusal_number e ≡ negsuc k)
refusal_few BadArg = (0, omega arith, refl)
refusal_few BufferTooSmall = (1, omega arith, refl)
refusal_few InvalidPacket = (3, omega arith, refl)
refusal_few InvalidState = (5, omega arith, refl)
refusal_few (Unreadable rule place) = (3, omega arith, refl)
refusal_few (CutShort rule) = (0, omega arith, refl)
refusal_few DirtyPadding = (19, omega arith, refl)
refusal_few OverBudget = (20, omega arith, refl)
refusal_few BadHeader = (21, omega arith, refl)
refusal_few UnknownVersion = (22, omega arith, refl)
refusal_few BadField = (23, omega arith, refl)

rule_few : (rule : Rule) → rule_number rule < 9
rule_few R1 = omega arith
rule_few R2 = omega arith
rule_few R3 = omega arith
rule_few R4 = omega arith
rule_few R5 = omega arith
rule_few R6 = omega arith
rule_few R7 = omega arith
rule_few R8 = omega arith

pub report_rule : (e : Refusal) → (refusal_report e).rule < 9
report_rule (Unreadable rule place) = rule_few rule
report_rule (CutShort rule) = rule_few rule
report_rule BadArg = omega arith
report_rule BufferTooSmall = omega arith
report_rule InvalidPacket = omega arith
report_rule InvalidState = omega arith
report_rule DirtyPadding = omega arith
report_rule OverBudget = omega arith
report_rule BadHeader = omega arith
report_rule UnknownVersion = omega arith
report_rule BadField = omega arith

pub refusal_passed : (e : Refusal) → to_z w32 (of_z w32 (refusal_number e)) ≡ refusal_number e
refusal_passed e = let k = refusal_few e in rw k.2 (to_z-of_z w32 (negsuc k.0) (record { sfits = omega (arith, k.1) }))

-- ---- places
pub shifted_none : (e : Refusal) → shifted 0 e ≡ e
unfolding rule_refusal
shifted_none e =
    ⊎_elim (λ (r : (rule : Rule) × ((place : ℕ) × (e ≡ Unreadable rule place))). let z : 0 + r.1.0 ≡ r.1.0 = omega arith in rw (r.1.1, z))
    (λ (n : (rule : Rule) (place : ℕ) → e ≡ Unreadable rule place → ⊥). other_or (λ rule place. rule_refusal rule (0 + place)) e e n)
    (unreadable-or-not e)

pub shifted_more : (n m : ℕ) (e : Refusal) → shifted n (shifted m e) ≡ shifted (n + m) e
unfolding rule_refusal
shifted_more n m e =
    ⊎_elim
    (λ (r : (rule : Rule) × ((place : ℕ) × (e ≡ Unreadable rule place))).
    let z : n + (m + r.1.0) ≡ n + m + r.1.0 = omega arith in rw (r.1.1, z))
    (λ (o : (rule : Rule) (place : ℕ) → e ≡ Unreadable rule place → ⊥).
    rw (other_or (λ rule place. rule_refusal rule (m + place)) e e o, other_or (λ rule place. rule_refusal rule (n + place)) e e o)
    (sym (other_or (λ rule place. rule_refusal rule (n + m + place)) e e o)))
    (unreadable-or-not e)
