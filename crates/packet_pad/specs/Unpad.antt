-- What unpad answers, and what it leaves in the buffer.
use Rattle.std.specs.Prelude.{ℕ, List, false, ℤ, take, drop}
use Rattle.opus_defines.specs.Rules.{rule_refusal}
use Rattle.opus_defines.specs.Outcome.{Effect, refusal, written, Outcome, leaves}
use Rattle.opus_toc.specs.Toc.{upper_six}
use Rattle.opus_format.specs.Frames.{cut}
use Rattle.opus_format.specs.Reading.{Reading, refused, accepted, read}
use Rattle.opus_header.specs.Compact.{compact}
use Rattle.packet_pad.specs.Lengths.{length_of, bounded}

-- the compact packet of what was read; it has 1 to as many bytes as were read (`rebuilds`, opus_header/proofs/Rebuilt.antt)
abbrev pub unpad_reading : List ℕ → Reading → Effect
unpad_reading p (refused rule place) = refusal (rule_refusal rule place)
unpad_reading p (accepted toc ns first taken) = written (compact false (upper_six toc) (cut ns (drop first p)))

unfoldable pub unpad_packet : List ℕ → Effect
unpad_packet p = unpad_reading p (read false p)

-- `opus_packet_unpad`
unfoldable pub unpadded : List ℕ → ℤ → Outcome
unpadded s len = leaves s (bounded (λ n. unpad_packet (take n s)) (length_of s len))
