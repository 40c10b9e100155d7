-- What a call leaves of a lent buffer.
--     refusal-keeps     a refusal leaves every byte: one law for every call
--     meets, meets_number     the two parts of an answer, from what the code answers, a report or its number alone, and leaves
--     rule_or, rule_report, rule_number_lem, shifted_rule     the refusal of a packet that breaks a rule: its rule and place, -4, and n bytes further on
--     refusal_negative, refusal-not     a refusal's number is negative
-- Assumes nothing.
use Prim.Native.Nat.{ℕ, ◌+◌}
use mathlib.Core.Path.{◌≡◌, refl, ap}
use mathlib.Core.List.{List}
use lib.IntN.{ℤ, pos, negsuc}
use Rattle.laws.proofs.Never.{never}
use Rattle.opus_defines.proofs.Others.{refusal_few}
use Rattle.opus_defines.specs.Numbers.{rule_number, refusal_report, refusal_number}
use Rattle.opus_defines.specs.Rules.{rule_refusal, unreadable_or, shifted}
use Rattle.opus_defines.specs.Outcome.{Effect, refusal, wrote, Outcome, leaves}
use Rattle.opus_defines.specs.declared.Refusal.{Refusal}
use Rattle.opus_defines.specs.declared.Rule.{Rule}
use Rattle.opus_defines.specs.declared.Report.{Report}

pub refusal-keeps : (s : List ℕ) (x : Effect) (n : ℕ) → (leaves s x).report.number ≡ negsuc n → (leaves s x).bytes ≡ s
refusal-keeps s (refusal e) n h = refl
refusal-keeps s (wrote k vs) n h = never (cc)

meets_by : {A : Type 0} (f : Report → A) {o q : Outcome} {a : A} {s : List ℕ} → o ≡ q → a ≡ f q.report → s ≡ q.bytes
    → (a ≡ f o.report) × (s ≡ o.bytes)
meets_by f e a b = rw e (a, b)

pub meets : {o q : Outcome} {r : Report} {s : List ℕ} → o ≡ q → r ≡ q.report → s ≡ q.bytes → (r ≡ o.report) × (s ≡ o.bytes)
meets = meets_by (λ r. r)

pub meets_number : {o q : Outcome} {n : ℤ} {s : List ℕ} → o ≡ q → n ≡ q.report.number → s ≡ q.bytes → (n ≡ o.report.number)
    × (s ≡ o.bytes)
meets_number = meets_by (λ r. r.number)

pub rule_or : {A : Type 0} (f : Rule → ℕ → A) (a : A) (rule : Rule) (place : ℕ) → unreadable_or f a (rule_refusal rule place) ≡ f rule place
unfolding rule_refusal
rule_or f a rule place = refl

pub rule_report : (rule : Rule) (place : ℕ) → refusal_report (rule_refusal rule place) ≡ record { number = negsuc 3; rule = rule_number rule; place = place }
unfolding rule_refusal
rule_report rule place = refl

pub rule_number_lem : (rule : Rule) (place : ℕ) → refusal_number (rule_refusal rule place) ≡ negsuc 3
rule_number_lem rule place = ap (λ (r : Report). r.number) (rule_report rule place)

pub shifted_rule : (n : ℕ) (rule : Rule) (place : ℕ) → shifted n (rule_refusal rule place) ≡ rule_refusal rule (n + place)
shifted_rule n rule place = rule_or (λ r k. rule_refusal r (n + k)) (rule_refusal rule place) rule place

pub refusal_negative : (e : Refusal) → (n : ℕ) × (refusal_number e ≡ negsuc n)
refusal_negative e = let k = refusal_few e in (k.0, k.2)

pub refusal-not : (e : Refusal) {n : ℕ} → refusal_number e ≡ pos n → ⊥
refusal-not e h = let z = (refusal_negative e).1 in never (cc)
