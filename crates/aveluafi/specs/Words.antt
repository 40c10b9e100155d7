-- A report in one number, as the two calls that add get it: the number's 32 bits, then the rule's 16 and the place's.
use Rattle.std.specs.Prelude.{ℕ, ◌-◌, ◌/◌, ◌%◌, cond, ltb, ℤ, pos, negsuc}
use Rattle.opus_defines.specs.declared.Report.{Report}

-- 32 bits as a signed number
abbrev pub signed : ℕ → ℤ
signed n = cond (ltb n 2147483648) (pos n) (negsuc (4294967295 - n))

abbrev pub report_in : ℕ → Report
report_in w = record { number = signed (w % 4294967296); rule = w / 4294967296 % 65536; place = w / 281474976710656 }
