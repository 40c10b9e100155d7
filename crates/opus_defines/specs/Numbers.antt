-- The return numbers of document 01, and with an unreadable packet rule and place (document 02, M-100); `negsuc n` is the number -(n + 1).
use Rattle.std.specs.Prelude.{ℕ, ℤ, pos, negsuc}
use Rattle.opus_defines.specs.declared.Rule.{Rule}
use Rattle.opus_defines.specs.declared.Rule.TheVariants.{R1, R2, R3, R4, R5, R6, R7, R8}
use Rattle.opus_defines.specs.declared.Refusal.{Refusal}
use Rattle.opus_defines.specs.declared.Refusal.TheVariants.{BadArg, BufferTooSmall, InvalidPacket, InvalidState}
use Rattle.opus_defines.specs.declared.Refusal.TheVariants.{Unreadable, CutShort, DirtyPadding, OverBudget}
use Rattle.opus_defines.specs.declared.Refusal.TheVariants.{BadHeader, UnknownVersion, BadField}
use Rattle.opus_defines.specs.declared.Report.{Report}
use Rattle.std.specs.Prelude.{Err, None, Ok, Option, Result, Some}

-- 1 to 7 for R1 to R7, 8 for a bad last length in the self-delimited form
abbrev pub rule_number : Rule → ℕ
rule_number R1 = 1
rule_number R2 = 2
rule_number R3 = 3
rule_number R4 = 4
rule_number R5 = 5
rule_number R6 = 6
rule_number R7 = 7
rule_number R8 = 8

-- a number with no rule and no place
abbrev pub plain : ℤ → Report
plain n = record { number = n; rule = 0; place = 0 }

-- the one place where a refusal becomes its number, -1, -2, -4, -6, -20 (document 02, M-105), -21 (M-103) or -22 to -24 (M-111), with the
-- rule and the place
abbrev pub refusal_report : Refusal → Report
refusal_report BadArg = plain (negsuc 0)
refusal_report BufferTooSmall = plain (negsuc 1)
refusal_report InvalidPacket = plain (negsuc 3)
refusal_report InvalidState = plain (negsuc 5)
refusal_report (Unreadable rule place) = record { number = negsuc 3; rule = rule_number rule; place = place }
refusal_report (CutShort rule) = record { number = negsuc 0; rule = rule_number rule; place = 0 }
refusal_report DirtyPadding = plain (negsuc 19)
refusal_report OverBudget = plain (negsuc 20)
refusal_report BadHeader = plain (negsuc 21)
refusal_report UnknownVersion = plain (negsuc 22)
refusal_report BadField = plain (negsuc 23)

abbrev pub refusal_number : Refusal → ℤ
refusal_number e = (refusal_report e).number

abbrev pub report_of : Result ℕ Refusal → Report
report_of (Ok n) = plain (pos n)
report_of (Err e) = refusal_report e

abbrev pub number_of : Result ℕ Refusal → ℤ
number_of a = (report_of a).number

-- the same of an answer that is a record: n where it is accepted
abbrev pub verdict_report : ℕ → Result (Unit {0}) Refusal → Report
verdict_report n (Ok tt) = plain (pos n)
verdict_report n (Err e) = refusal_report e

abbrev pub verdict_number : ℤ → Result (Unit {0}) Refusal → ℤ
verdict_number n (Ok tt) = n
verdict_number n (Err e) = refusal_number e

-- a signed number by its sign
abbrev pub count_of : ℤ → Option ℕ
count_of (pos n) = Some n
count_of (negsuc n) = None
