-- Ordinary packets joined into one multistream packet, and a stream taken out of one (document 02, M-108).
use Rattle.std.specs.Prelude.{ℕ, zero, suc, ◌*◌, ◌-◌, List, [], ◌∷◌, Bool, true, false, cond, ◌&&◌, ◌||◌, eqb, ltb, leb, ℤ, pos, negsuc, length, drop}
use Rattle.opus_defines.specs.Bounds.{most_packet}
use Rattle.opus_defines.specs.Rules.{rule_refusal, shifted}
use Rattle.opus_defines.specs.Outcome.{Effect, refusal, into_room, Outcome, leaves}
use Rattle.opus_defines.specs.declared.Refusal.{Refusal}
use Rattle.opus_defines.specs.declared.Refusal.TheVariants.{BadArg, InvalidPacket}
use Rattle.opus_toc.specs.Toc.{upper_six, time}
use Rattle.opus_format.specs.Frames.{total, cut}
use Rattle.opus_format.specs.Reading.{Reading, refused, accepted, read}
use Rattle.opus_header.specs.Compact.{compact}
use Rattle.multistream.specs.Reading.{Stream, Streams, unreadable, streams, read_streams, compact_streams}
use Rattle.multistream.specs.Streams.{streams_of}
use Rattle.multistream.specs.Unpad.{Repacked, unread, repacked, repack_streams}

-- what packets or streams hold, or why the first of them that cannot be read cannot
pub data Held : Type 0 where
  stuck : Refusal → Held
  holds : List Stream → Held

-- one more in front, of n bytes: places count from the front
abbrev pub ahead : ℕ → Stream → Held → Held
ahead n x (stuck e) = stuck (shifted n e)
ahead n x (holds xs) = holds (x ∷ xs)

-- ---- ordinary packets one behind another
abbrev pub then_packets : Held → List ℕ → Reading → Held
then_packets more p (refused rule place) = stuck (rule_refusal rule place)
then_packets more p (accepted toc ns first taken) = ahead (length p) (record { six = upper_six toc; frames = cut ns (drop first p) }) more

abbrev pub held_by : List (List ℕ) → Held
held_by [] = holds []
held_by (p ∷ ps) = then_packets (held_by ps) p (read false p)

-- ---- the streams of a multistream packet, k of them self-delimited: what multistream's reading of them says
abbrev pub held_as : Repacked → Streams → Held
held_as (unread e) xs = stuck e
held_as (repacked q) unreadable = holds []
held_as (repacked q) (streams xs) = holds xs

abbrev pub held_in : ℕ → List ℕ → Held
held_in k s = held_as (repack_streams k s) (read_streams k s)

-- ---- time: the streams of one packet last equally long (RFC 7845)
-- how long a stream lasts, in samples at 48 kHz (M-104); the lower two bits of a TOC byte do not count
abbrev pub lasting : Stream → ℕ
lasting x = time (4 * x.six) (length x.frames)

-- whether each lasts so long
abbrev pub all_last : ℕ → List Stream → Bool
all_last t [] = true
all_last t (x ∷ xs) = eqb (lasting x) t && all_last t xs

abbrev pub equally_long : List Stream → Bool
equally_long [] = true
equally_long (x ∷ xs) = all_last (lasting x) xs

-- ---- what is written: of streams that last equally long what a rule makes of them
abbrev pub by_held : ℕ → (List Stream → List ℕ) → Held → Effect
by_held room f (stuck e) = refusal e
by_held room f (holds xs) = cond (equally_long xs) (into_room (f xs) room) (refusal InvalidPacket)

-- ---- joining packets of these lengths, which lie one behind another in s: each in compact form, all but the last self-delimited
abbrev pub joined_streams : List Stream → List ℕ
joined_streams xs = compact_streams (length xs - 1) xs

unfoldable pub join : List ℕ → List ℕ → ℕ → Effect
join s ns room =
    cond
    ((eqb (length ns) 0 || ltb 255 (length ns)) || (ltb most_packet (length s) || (ltb most_packet room
    || (ltb (total ns) (length s) || ltb (length s) (total ns)))))
    (refusal BadArg) (by_held room joined_streams (held_by (cut ns s)))

-- `multistream_join`
unfoldable pub packets_joined : List ℕ → List ℕ → List ℕ → Outcome
packets_joined s ns dst = leaves dst (join s ns (length dst))

-- ---- taking out stream k, counted from 0: its compact ordinary packet
abbrev pub packet_of : ℕ → List Stream → List ℕ
packet_of k [] = []
packet_of zero (x ∷ xs) = compact false x.six x.frames
packet_of (suc k) (x ∷ xs) = packet_of k xs

-- of n streams; 0 is no stream count
abbrev pub take_of : List ℕ → ℕ → ℤ → ℕ → Effect
take_of s n (negsuc k) room = refusal BadArg
take_of s n (pos k) room = cond (leb n k) (refusal BadArg) (by_held room (packet_of k) (held_in (n - 1) s))

unfoldable pub take : List ℕ → ℤ → ℤ → ℕ → Effect
take s nb k room = cond (ltb most_packet (length s) || ltb most_packet room) (refusal BadArg) (take_of s (streams_of nb) k room)

-- `multistream_take`
unfoldable pub stream_taken : List ℕ → ℤ → ℤ → List ℕ → Outcome
stream_taken s nb k dst = leaves dst (take s nb k (length dst))
