-- What pad answers, and what it leaves in the buffer (document 01, 'Collecting and writing').
use Rattle.opus_defines.specs.declared.Refusal.{Refusal}
use Rattle.std.specs.Prelude.{ℕ, List, false, ℤ, take, drop}
use Rattle.opus_defines.specs.Rules.{rule_refusal}
use Rattle.opus_defines.specs.Outcome.{Effect, refusal, wrote, Outcome, leaves}
use Rattle.std.specs.Prelude.{Err, Ok, Result}
use Rattle.opus_toc.specs.Toc.{upper_six}
use Rattle.opus_format.specs.Frames.{cut}
use Rattle.opus_format.specs.Reading.{Reading, refused, accepted, read}
use Rattle.opus_header.specs.Compact.{filling}
use Rattle.packet_pad.specs.Lengths.{lengths_of, by_lengths}

-- what a call answers, without what it leaves
abbrev pub answered : Effect → Result ℕ Refusal
answered (refusal e) = Err e
answered (wrote n vs) = Ok n

-- done, and these bytes from the front on
abbrev pub pads_to : List ℕ → List ℕ → Outcome
pads_to vs s = leaves s (wrote 0 vs)

-- the frames of the packet p, as a packet of `new` bytes
abbrev pub pad_reading : List ℕ → ℕ → Reading → Effect
pad_reading p new (refused rule place) = refusal (rule_refusal rule place)
pad_reading p new (accepted toc ns first taken) = wrote 0 (filling false (upper_six toc) (cut ns (drop first p)) new)

unfoldable pub pad_packet : List ℕ → ℕ → Effect
pad_packet p new = pad_reading p new (read false p)

-- `opus_packet_pad`
unfoldable pub padded : List ℕ → ℤ → ℤ → Outcome
padded s len new = leaves s (by_lengths (λ n m. pad_packet (take n s) m) (lengths_of s len new))
