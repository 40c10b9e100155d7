-- What an answer says of a packet that the reader refused (document 02, M-100): the rule and the place, and nothing of the kind in any other answer.
use Rattle.std.specs.Prelude.{ℕ, ◌+◌, ◌≡◌, List, Bool, negsuc, drop}
use Rattle.opus_defines.specs.Numbers.{rule_number}
use Rattle.opus_defines.specs.declared.Report.{Report}
use Rattle.opus_defines.specs.declared.Rule.{Rule}
use Rattle.opus_format.specs.Reading.{refused, read}

-- p is the packet, or holds it from a place on; places are counted from the front of p
pub data Named (p : List ℕ) (r : Report) : Type 0 where
  unnamed : r.rule ≡ 0 → r.place ≡ 0 → Named p r
  named : (sd : Bool) (at : ℕ) (rule : Rule) (place : ℕ) → read sd (drop at p) ≡ refused rule place
      → r ≡ record { number = negsuc 3; rule = rule_number rule; place = at + place } → Named p r
