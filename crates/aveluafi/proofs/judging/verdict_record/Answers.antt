-- `aveluafi::judging::verdict_record` meets its contract: by the kind of the verdict.
use mathlib.Core.Path.{◌≡◌, ◌∙◌}
use borrow.Author.Rules.{rules}
use mir.Syntax.{w32}
use mir.Val.{to_z, of_z}
use Rattle.aveluafi.proofs.Verdicts.{refused_verdict, unreadable_verdict, dirty_verdict, longer_verdict, clean_verdict}
use Rattle.aveluafi.proofs.judging.verdict_record.Goals as goal

pub returns-in-Refused : goal.returns-in-Refused
returns-in-Refused c =
    let back : to_z w32 (of_z w32 c.refusal_number.result) ≡ c.refusal_number.result = search rules in
    refused_verdict c.in-Refused.is (back ∙ c.refusal_number.ensures)

pub returns-in-Unreadable : goal.returns-in-Unreadable
returns-in-Unreadable c =
    unreadable_verdict c.in-Unreadable.is c.rule_number.ensures

pub returns-in-Dirty : goal.returns-in-Dirty
returns-in-Dirty c =
    dirty_verdict c.in-Dirty.is

pub returns-in-Longer : goal.returns-in-Longer
returns-in-Longer c =
    longer_verdict c.in-Longer.is

pub returns-in-Clean : goal.returns-in-Clean
returns-in-Clean c =
    clean_verdict c.in-Clean.is
