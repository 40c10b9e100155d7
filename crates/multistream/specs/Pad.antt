-- What multistream pad answers, and what it leaves in the buffer: padding goes into the last stream.
use Rattle.std.specs.Prelude.{ℕ, ◌-◌, List, ◌++◌, ℤ, length, take, drop}
use Rattle.opus_defines.specs.Rules.{shifted}
use Rattle.opus_defines.specs.Outcome.{Effect, refusal, wrote, Outcome, leaves}
use Rattle.packet_pad.specs.Lengths.{lengths_of, bounded, by_lengths}
use Rattle.packet_pad.specs.Pad.{pad_packet}
use Rattle.std.specs.Prelude.{Result, Ok, Err}
use Rattle.opus_defines.specs.declared.Refusal.{Refusal}
use Rattle.multistream.specs.Streams.{streams_of, pass_streams}

-- the bytes in front stay, and what is written stands behind them; places count them too
abbrev pub behind : List ℕ → Effect → Effect
behind front (refusal e) = refusal (shifted (length front) e)
behind front (wrote n vs) = wrote n (front ++ vs)

-- the last stream, from a place of p on, is padded as a packet is; where no byte is left for it, -1
abbrev pub pad_last : List ℕ → ℕ → Result ℕ Refusal → Effect
pad_last p new (Err e) = refusal e
pad_last p new (Ok at) = behind (take at p) (bounded (λ n. pad_packet (drop at p) (new - at)) (length p - at))

unfoldable pub pad_streams : ℕ → List ℕ → ℕ → Effect
pad_streams k p new = pad_last p new (pass_streams (k - 1) p)

-- `opus_multistream_packet_pad`
unfoldable pub streams_padded : List ℕ → ℤ → ℤ → ℤ → Outcome
streams_padded s len new nb =
    leaves s (bounded (λ k. by_lengths (λ n m. pad_streams k (take n s) m) (lengths_of s len new)) (streams_of nb))
