-- Lines: how long they are at most.
--     Small, line_most_lem       a verdict whose numbers have at most 5 digits, and its line
--     totals_most, totals_any    the four totals, of at most 5 digits each, and any
-- Assumes nothing.
use Prim.Native.Nat.{◌^◌, ◌≤◌, ◌<◌}
use native.Mathlib.Omega.{arith}
use lib.ListN.{length, length-append}
use Rattle.opus_defines.specs.Numbers.{rule_number}
use Rattle.opus_defines.specs.declared.Rule.{Rule}
use Rattle.opus_defines.specs.declared.Rule.TheVariants.{R1, R2, R3, R4, R5, R6, R7, R8}
use Rattle.packet_judge.specs.declared.Judged.{Judged}
use Rattle.packet_judge.specs.declared.Judged.TheVariants.{Refused, Unreadable, Dirty, Longer, Clean}
use Rattle.show.proofs.Digits.{decimal_most}
use Rattle.show.proofs.Refusals.{refusal_most}
use Rattle.judge_text.specs.Text.{verdict_line, part_most}
use Rattle.judge_text.specs.Text.{totals}
use Rattle.packet_judge.specs.Tallies.{sum_of}
use Rattle.packet_judge.specs.declared.Tally.{Tally}

-- ---- the line of a verdict
abbrev pub Small : Judged → Type 0
Small (Refused e) = Unit {0}
Small (Unreadable rule place) = place < 100000
Small Dirty = Unit {0}
Small (Longer n) = n < 100000
Small Clean = Unit {0}

rule_most : (rule : Rule) → rule_number rule < 10
rule_most R1 = omega arith
rule_most R2 = omega arith
rule_most R3 = omega arith
rule_most R4 = omega arith
rule_most R5 = omega arith
rule_most R6 = omega arith
rule_most R7 = omega arith
rule_most R8 = omega arith

-- `unreadable`, a digit, five digits, two spaces and the end; no other line is longer
pub line_most_lem : (j : Judged) → Small j → length (verdict_line j) ≤ 19
unfolding verdict_line
line_most_lem (Refused e) h = omega (arith, refusal_most e)
line_most_lem (Unreadable rule place) h =
    simp length-append (omega (arith, decimal_most (rule_number rule) 0 (rule_most rule), decimal_most place 4 h))
line_most_lem Dirty h = omega arith
line_most_lem (Longer n) h = simp length-append (omega (arith, decimal_most n 4 h))
line_most_lem Clean h = omega arith

-- ---- the totals
pub totals_most : (t : Tally) → sum_of t < 100000 → length (totals t) ≤ part_most
unfolding totals
totals_most t h =
    simp length-append
    (omega (
      arith,
      decimal_most t.unreadable 4 (omega arith),
      decimal_most t.dirty 4 (omega arith),
      decimal_most t.longer 4 (omega arith),
      decimal_most t.clean 4 (omega arith),
    ))

pub totals_any : (t : Tally) → t.unreadable < 2 ^ 64 → t.dirty < 2 ^ 64 → t.longer < 2 ^ 64 → t.clean < 2 ^ 64 → length (totals t) ≤ 138
unfolding totals
totals_any t h k l m =
    simp length-append
    (omega (
      arith,
      decimal_most t.unreadable 19 (omega arith),
      decimal_most t.dirty 19 (omega arith),
      decimal_most t.longer 19 (omega arith),
      decimal_most t.clean 19 (omega arith),
    ))
