-- What multistream unpad answers, and what it leaves in the buffer: every stream in compact form.
use Rattle.std.specs.Prelude.{ℕ, zero, suc, ◌-◌, List, [], ◌++◌, Bool, true, false, ℤ, take, drop}
use Rattle.opus_defines.specs.Rules.{rule_refusal, shifted}
use Rattle.opus_defines.specs.Outcome.{Effect, refusal, written, Outcome, leaves}
use Rattle.opus_defines.specs.declared.Refusal.{Refusal}
use Rattle.opus_toc.specs.Toc.{upper_six}
use Rattle.opus_format.specs.Frames.{cut}
use Rattle.opus_format.specs.Reading.{Reading, refused, accepted, read}
use Rattle.opus_header.specs.Compact.{compact}
use Rattle.packet_pad.specs.Lengths.{length_of, bounded}
use Rattle.multistream.specs.Streams.{streams_of}

-- the streams' compact packets one behind another, or why there are none
pub data Repacked : Type 0 where
  unread : Refusal → Repacked
  repacked : List ℕ → Repacked

-- a packet q in front, for a stream of n bytes
abbrev pub ahead : List ℕ → ℕ → Repacked → Repacked
ahead q n (unread e) = unread (shifted n e)
ahead q n (repacked v) = repacked (q ++ v)

-- one stream, and those behind it; s is what is left of the packet
abbrev pub repack_reading : Bool → (List ℕ → Repacked) → List ℕ → Reading → Repacked
repack_reading sd next s (refused rule place) = unread (rule_refusal rule place)
repack_reading sd next s (accepted toc ns first taken) =
    ahead (compact sd (upper_six toc) (cut ns (drop first s))) taken (next (drop taken s))

-- k self-delimited streams and one ordinary one
abbrev pub repack_streams : ℕ → List ℕ → Repacked
repack_streams zero s = repack_reading false (λ t. repacked []) s (read false s)
repack_streams (suc k) s = repack_reading true (repack_streams k) s (read true s)

abbrev pub repacks : Repacked → Effect
repacks (unread e) = refusal e
repacks (repacked q) = written q

unfoldable pub unpad_streams : ℕ → List ℕ → Effect
unpad_streams k p = repacks (repack_streams (k - 1) p)

-- `opus_multistream_packet_unpad`
unfoldable pub streams_unpadded : List ℕ → ℤ → ℤ → Outcome
streams_unpadded s len nb = leaves s (bounded (λ k. bounded (λ n. unpad_streams k (take n s)) (length_of s len)) (streams_of nb))
