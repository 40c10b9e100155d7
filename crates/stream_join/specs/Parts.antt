-- What the parts of the two calls answer. Contracts of functions that are not public cite these.
use Rattle.std.specs.Prelude.{ℕ, zero, suc, ◌+◌, List, [], ◌∷◌, ◌++◌, Bool, true, false, cond, ◌&&◌, eqb, ltb, length, drop}
use Rattle.opus_defines.specs.Rules.{rule_refusal, shifted}
use Rattle.opus_toc.specs.Toc.{upper_six}
use Rattle.opus_format.specs.Frames.{cut}
use Rattle.opus_format.specs.Reading.{Reading, refused, accepted, read}
use Rattle.opus_header.specs.Compact.{compact}
use Rattle.multistream.specs.Reading.{Stream}
use Rattle.std.specs.Prelude.{Result, Ok, Err}
use Rattle.opus_defines.specs.declared.Refusal.{Refusal}
use Rattle.stream_join.specs.Join.{Held, stuck, holds, ahead, lasting}
use Rattle.stream_join.specs.declared.Look.{Look}
use Rattle.stream_join.specs.declared.Tally.{Tally}
use Rattle.stream_join.specs.declared.Survey.{Survey}
use Rattle.stream_join.specs.declared.Survey.TheVariants.{Needs, Unequal, Stuck}

-- ---- one packet or stream, at the front of s
abbrev pub stream_at : List ℕ → ℕ → List ℕ → ℕ → Stream
stream_at s toc ns first = record { six = upper_six toc; frames = cut ns (drop first s) }

-- its compact packet
abbrev pub packed : Bool → Stream → List ℕ
packed sd x = compact sd x.six x.frames

-- the bytes that it takes, how long it lasts, and the bytes of its compact packet; or why it cannot be read
abbrev pub look_by : Bool → List ℕ → Reading → Result Look Refusal
look_by sd s (refused rule place) = Err (rule_refusal rule place)
look_by sd s (accepted toc ns first taken) =
    Ok (record { taken = taken; time = lasting (stream_at s toc ns first); bytes = length (packed sd (stream_at s toc ns first)) })

abbrev pub bytes_of : Result Look Refusal → ℕ
bytes_of (Ok look) = look.bytes
bytes_of (Err e) = 0

abbrev pub place_of : Result ℕ Refusal → ℕ
place_of (Ok at) = at
place_of (Err e) = 0

-- ---- all of them
-- the i-th, from 0, beside those before it: the first one's time is that of all
abbrev pub and_one : Tally → ℕ → ℕ → ℕ → Tally
and_one t i lasts bytes =
    record { time = cond (eqb i 0) lasts t.time; equal = cond (eqb i 0) true (t.equal && eqb lasts t.time); bytes = t.bytes + bytes }

-- of n; all but the last are self-delimited
abbrev pub tallied : ℕ → ℕ → Tally → List Stream → Tally
tallied n i t [] = t
tallied n i t (x ∷ xs) = tallied n (i + 1) (and_one t i (lasting x) (length (packed (ltb (i + 1) n) x))) xs

abbrev pub ended : Tally → Survey
ended t = cond t.equal (Needs t.bytes) Unequal

-- the i-th stands at a place
abbrev pub surveyed_from : ℕ → ℕ → ℕ → Tally → Held → Survey
surveyed_from n at i t (stuck e) = Stuck (shifted at e)
surveyed_from n at i t (holds xs) = ended (tallied n i t xs)

abbrev pub nothing : Tally
nothing = record { time = 0; equal = true; bytes = 0 }

abbrev pub surveyed : ℕ → Held → Survey
surveyed n h = surveyed_from n 0 0 nothing h

-- their compact packets one behind another, from the i-th on
abbrev pub packed_from : ℕ → ℕ → List Stream → List ℕ
packed_from n i [] = []
packed_from n i (x ∷ xs) = packed (ltb (i + 1) n) x ++ packed_from n (i + 1) xs

abbrev pub is_held : Held → Bool
is_held (stuck e) = false
is_held (holds xs) = true

abbrev pub held_streams : Held → List Stream
held_streams (stuck e) = []
held_streams (holds xs) = xs

-- ---- the last n streams of a multistream packet: all but the last are self-delimited
abbrev pub is_some : ℕ → Bool
is_some zero = false
is_some (suc k) = true

abbrev pub then_held : (List ℕ → Held) → List ℕ → Reading → Held
then_held next s (refused rule place) = stuck (rule_refusal rule place)
then_held next s (accepted toc ns first taken) = ahead taken (stream_at s toc ns first) (next (drop taken s))

abbrev pub held_streams_in : ℕ → List ℕ → Held
held_streams_in zero s = holds []
held_streams_in (suc n) s = then_held (held_streams_in n) s (read (is_some n) s)
