-- What the parts of the multistream calls answer. Contracts of functions that are not public cite these.
use Rattle.opus_defines.specs.declared.Refusal.{Refusal}
use Rattle.std.specs.Prelude.{ℕ, ◌+◌, ◌-◌, List, [], Bool, true, false, length, take, drop}
use Rattle.opus_defines.specs.Numbers.{refusal_report}
use Rattle.opus_defines.specs.Rules.{shifted}
use Rattle.std.specs.Prelude.{Err, Ok, Result}
use Rattle.opus_toc.specs.Toc.{upper_six}
use Rattle.opus_format.specs.Frames.{cut}
use Rattle.opus_format.specs.Reading.{Reading, refused, accepted, read}
use Rattle.opus_header.specs.Compact.{compact}
use Rattle.multistream.specs.Unpad.{Repacked, unread, repacked}
use Rattle.multistream.specs.declared.Places.{Places}

-- the bytes that were passed, or the place of what cannot be read
abbrev pub reach : Result ℕ Refusal → ℕ
reach (Ok n) = n
reach (Err e) = (refusal_report e).place

abbrev pub shifted_answer : ℕ → Result ℕ Refusal → Result ℕ Refusal
shifted_answer n (Ok k) = Ok k
shifted_answer n (Err e) = Err (shifted n e)

-- what is left from a place on, of the first len bytes
abbrev pub stream : List ℕ → ℕ → ℕ → List ℕ
stream s from len = take (len - from) (drop from s)

abbrev pub compact_by : Bool → List ℕ → Reading → List ℕ
compact_by sd s (refused rule place) = []
compact_by sd s (accepted toc ns first taken) = compact sd (upper_six toc) (cut ns (drop first s))

-- the compact packet of the stream at the front of s, and the bytes that the stream takes
abbrev pub compact_of : Bool → List ℕ → List ℕ
compact_of sd s = compact_by sd s (read sd s)

abbrev pub taken_by : Reading → ℕ
taken_by (refused rule place) = 0
taken_by (accepted toc ns first taken) = taken

abbrev pub is_accepted : Reading → Bool
is_accepted (refused rule place) = false
is_accepted (accepted toc ns first taken) = true

abbrev pub next_places : ℕ → ℕ → Bool → List ℕ → Places
next_places to from sd s = record { to = to + length (compact_of sd s); from = from + taken_by (read sd s) }

-- whether all streams can be read
abbrev pub verdict_by : Result ℕ Refusal → Result (Unit {0}) Refusal
verdict_by (Ok n) = (Ok tt)
verdict_by (Err e) = Err e

abbrev pub verdict_of : Repacked → Result (Unit {0}) Refusal
verdict_of (unread e) = Err e
verdict_of (repacked q) = (Ok tt)

abbrev pub packed_of : Repacked → List ℕ
packed_of (unread e) = []
packed_of (repacked q) = q
