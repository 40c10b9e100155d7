-- What an answer says of a packet that the reader refused.
--     rule_named       the refusal of a rule, in a packet from a place of the bytes on
--     reading_named    what the reader answers
-- Assumes nothing.
use Prim.Native.Nat.{ℕ, ◌+◌}
use native.Mathlib.Nat.{zero-add}
use mathlib.Core.Path.{◌≡◌, refl}
use mathlib.Core.List.{List}
use mathlib.Core.Bool.{Bool}
use lib.Dec.{ltb}
use lib.ListN.{length, drop}
use Rattle.laws.proofs.Never.{by_test}
use Rattle.opus_defines.specs.Numbers.{refusal_report}
use Rattle.opus_defines.specs.Rules.{rule_refusal}
use Rattle.opus_defines.specs.declared.Rule.{Rule}
use Rattle.opus_defines.proofs.Outcomes.{rule_report}
use Rattle.opus_format.specs.Reading.{Reading, refused, accepted, read}
use Rattle.opus.specs.Answers.{packet_of, parsed, packet_report}
use Rattle.opus.specs.Named.{Named, unnamed, named}

pub rule_named : (p : List ℕ) (sd : Bool) (at : ℕ) (rule : Rule) (place : ℕ) → read sd (drop at p) ≡ refused rule place
    → Named p (refusal_report (rule_refusal rule (at + place)))
rule_named p sd at rule place r = named sd at rule place r (rule_report rule (at + place))

-- at the front
pub front_named : (p : List ℕ) (sd : Bool) (rule : Rule) (place : ℕ) → read sd p ≡ refused rule place
    → Named p (refusal_report (rule_refusal rule place))
front_named p sd rule place r = rw (zero-add place) at (rule_named p sd 0 rule place r)

pub reading_named : (sd : Bool) (p : List ℕ) → Named p (packet_report (parsed sd p))
unfolding parsed
reading_named sd p = by_test (ltb 65535 (length p)) (λ t. rw t (unnamed refl refl)) (λ t. rw t (go (read sd p) refl))
  where
    go : (x : Reading) → read sd p ≡ x → Named p (packet_report (packet_of x))
    go (refused rule place) r = front_named p sd rule place r
    go (accepted toc ns first taken) r = unnamed refl refl
