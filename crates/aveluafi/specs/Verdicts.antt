-- A verdict as C sees it (document 02, M-110): 1 unreadable, 2 dirty, 3 longer than needed, 4 clean; 0 in each field that it does not have.
use Rattle.std.specs.Prelude.{pos}
use Rattle.opus_defines.specs.Numbers.{rule_number, refusal_number}
use Rattle.packet_judge.specs.declared.Judged.{Judged}
use Rattle.packet_judge.specs.declared.Judged.TheVariants.{Refused, Unreadable, Dirty, Longer, Clean}
use Rattle.aveluafi.specs.declared.judging.AveluafiVerdict.{AveluafiVerdict}

abbrev pub verdict_record : Judged → AveluafiVerdict
verdict_record (Refused e) = record { number = refusal_number e; verdict = 0; rule = 0; place = 0; least = 0 }
verdict_record (Unreadable rule place) = record { number = pos 0; verdict = 1; rule = rule_number rule; place = place; least = 0 }
verdict_record Dirty = record { number = pos 0; verdict = 2; rule = 0; place = 0; least = 0 }
verdict_record (Longer least) = record { number = pos 0; verdict = 3; rule = 0; place = 0; least = least }
verdict_record Clean = record { number = pos 0; verdict = 4; rule = 0; place = 0; least = 0 }
