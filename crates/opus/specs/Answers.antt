-- What the packet reader answers (document 01, 'Reading a packet').
use Rattle.std.specs.Prelude.{ℕ, ◌/◌, ◌%◌, List, [], ◌∷◌, Bool, false, cond, ◌&&◌, ltb, eqb, ℤ, pos, length, get_or}
use Rattle.opus_defines.specs.Bounds.{most_packet}
use Rattle.opus_defines.specs.Rules.{rule_refusal}
use Rattle.opus_defines.specs.Numbers.{plain, refusal_report}
use Rattle.opus_defines.specs.declared.Report.{Report}
use Rattle.opus_defines.specs.declared.Refusal.{Refusal}
use Rattle.opus_defines.specs.declared.Refusal.TheVariants.{BadArg}
use Rattle.std.specs.Prelude.{Result, Ok, Err}
use Rattle.opus_defines.specs.declared.Rule.TheVariants.{R2, R6}
use Rattle.opus_size.specs.Size.{most_bytes}
use Rattle.opus_toc.specs.Toc.{code}
use Rattle.opus_format.specs.Frames.{padded48}
use Rattle.opus_format.specs.Reading.{Reading, refused, accepted, read}
use Rattle.opus.specs.declared.Packet.{Packet}
use Rattle.opus.specs.declared.PacketHead.{PacketHead}
use Rattle.opus.specs.declared.Short.{Short}
use Rattle.opus.specs.declared.Short.TheVariants.{One, Two, Broken, Counted}
use Rattle.opus.specs.declared.code_3.Equal.{Equal}
use Rattle.opus.specs.declared.code_3.Equal.TheVariants.{Same, Wrong, Other}

abbrev pub packet_of : Reading → Result Packet Refusal
packet_of (refused rule place) = Err (rule_refusal rule place)
packet_of (accepted toc ns first taken) =
    Ok (record { toc = toc; count = length ns; lengths = padded48 ns; first = first; taken = taken })

-- `opus_packet_parse_impl`; `opus_packet_parse` is its ordinary form
unfoldable pub parsed : Bool → List ℕ → Result Packet Refusal
parsed sd p = cond (ltb most_packet (length p)) (Err BadArg) (packet_of (read sd p))

-- one frame or two
abbrev pub short_of : Reading → Short
short_of (refused rule place) = Broken rule place
short_of (accepted toc [] first taken) = Counted
short_of (accepted toc (n ∷ []) first taken) = One n first
short_of (accepted toc (m ∷ n ∷ []) first taken) = Two m n first
short_of (accepted toc (m ∷ n ∷ k ∷ ns) first taken) = Counted

-- a packet but for code 3: `short_at` reads an ordinary one, `own_at` a self-delimited one
unfoldable pub short_at : Bool → List ℕ → Short
short_at sd p = cond (eqb (code (get_or p 0 0)) 3) Counted (short_of (read sd p))

-- so many bytes shared by frames of equal lengths, from a place on
abbrev pub shared_at : ℕ → ℕ → ℕ → Equal
shared_at rest count first =
    cond (eqb (rest % count) 0) (cond (ltb most_bytes (rest / count)) (Wrong R2 first) (Same count (rest / count) first)) (Wrong R6 first)

-- frames of equal lengths
abbrev pub equal_of : Reading → Equal
equal_of (refused rule place) = Wrong rule place
equal_of (accepted toc ns first taken) = Same (length ns) (get_or ns 0 0) first

-- `equal_at`: an ordinary packet of code 3 without its flag for unequal lengths
unfoldable pub equal_at : List ℕ → Equal
equal_at p = cond (eqb (code (get_or p 0 0)) 3 && eqb (get_or p 1 0 / 128 % 2) 0) (equal_of (read false p)) Other

-- what a call returns: the count, or the refusal's number, with rule and place (document 02, M-100); the number is the crate's
abbrev pub packet_report : Result Packet Refusal → Report
packet_report (Ok r) = plain (pos r.count)
packet_report (Err e) = refusal_report e

abbrev pub packet_number : Result Packet Refusal → ℤ
packet_number r = (packet_report r).number

-- `read_into`: what it says of an accepted packet, with the lengths that it has put into the lent array; beside a refusal nothing is said of these
abbrev pub packet_with : PacketHead → List ℕ → Packet
packet_with h l = record { toc = h.toc; count = h.count; lengths = l; first = h.first; taken = h.taken }

abbrev pub answer_of : Result PacketHead Refusal → List ℕ → Result Packet Refusal
answer_of (Ok h) l = Ok (packet_with h l)
answer_of (Err e) l = Err e
