-- The streams of a multistream packet (RFC 6716, appendix B): all but the last are self-delimited, the last is in the ordinary form.
use Rattle.std.specs.Prelude.{ℕ, zero, suc, ◌+◌, List, true, cond, ltb, ℤ, pos, negsuc, drop}
use Rattle.opus_defines.specs.Rules.{rule_refusal, shifted}
use Rattle.opus_format.specs.Reading.{Reading, refused, accepted, read}
use Rattle.std.specs.Prelude.{Result, Ok, Err}
use Rattle.opus_defines.specs.declared.Refusal.{Refusal}

-- the stream count, and 0 where it is not 1 to 255
abbrev pub streams_of : ℤ → ℕ
streams_of (negsuc n) = 0
streams_of (pos n) = cond (ltb 255 n) 0 n

-- the bytes of a stream that was read
abbrev pub pass_by : Reading → Result ℕ Refusal
pass_by (refused rule place) = Err (rule_refusal rule place)
pass_by (accepted toc ns first taken) = Ok taken

-- so many bytes more; the place of a stream that cannot be read is counted from the packet's front
abbrev pub further : ℕ → Result ℕ Refusal → Result ℕ Refusal
further n (Ok at) = Ok (n + at)
further n (Err e) = Err (shifted n e)

abbrev pub then_pass : (List ℕ → Result ℕ Refusal) → List ℕ → Result ℕ Refusal → Result ℕ Refusal
then_pass next s (Ok n) = further n (next (drop n s))
then_pass next s (Err e) = Err e

-- the bytes of the first k streams
abbrev pub pass_streams : ℕ → List ℕ → Result ℕ Refusal
pass_streams zero s = Ok 0
pass_streams (suc k) s = then_pass (pass_streams k) s (pass_by (read true s))
