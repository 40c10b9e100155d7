-- What the length writer and the length reader answer (document 01, 'Lengths and the TOC byte').
use Rattle.std.specs.Prelude.{ℕ, ◌-◌, List, cond, ltb, eqb, ℤ, pos, negsuc, length, drop}
use Rattle.opus_defines.specs.Numbers.{refusal_number}
use Rattle.opus_defines.specs.Outcome.{Effect, refusal, into_room, Outcome, leaves}
use Rattle.opus_defines.specs.declared.Refusal.{Refusal}
use Rattle.opus_defines.specs.declared.Refusal.TheVariants.{BadArg, CutShort}
use Rattle.opus_defines.specs.declared.Rule.{Rule}
use Rattle.opus_defines.specs.declared.Rule.TheVariants.{R4, R7, R8}
use Rattle.opus_size.specs.Size.{most_bytes, length_field, Field, no_field, field, read_field}
use Rattle.opus_size.specs.declared.Size.{Size}
use Rattle.std.specs.Prelude.{None, Option, Some, Ok, Err, Result}

-- `encode_size`: the size is tested before the room
abbrev pub encodes : ℤ → ℕ → Effect
encodes (negsuc n) room = refusal BadArg
encodes (pos n) room =
    cond (ltb most_bytes n) (refusal BadArg) (into_room (length_field n) room)

unfoldable pub encode_size : ℤ → List ℕ → Outcome
encode_size x s = leaves s (encodes x (length s))

-- the bytes used and the size; a field that is cut short names the rule that asks for it (document 02, M-100)
abbrev pub size_of : Rule → List ℕ → Field → Result Size Refusal
size_of rule s no_field = Err (CutShort rule)
size_of rule s (field n t) = Ok (record { bytes = length s - length t; size = n })

-- the number that the crate returns: the bytes used, or the refusal's
abbrev pub size_number : Result Size Refusal → ℤ
size_number (Ok r) = pos r.bytes
size_number (Err e) = refusal_number e

unfoldable pub size_told : Rule → List ℕ → Result Size Refusal
size_told rule s = size_of rule s (read_field s)

-- `parse_size`, told rule 4, 7 or 8
unfoldable pub parse_size : ℕ → List ℕ → Result Size Refusal
parse_size told s =
    cond (eqb told 4) (size_told R4 s) (cond (eqb told 7) (size_told R7 s) (cond (eqb told 8) (size_told R8 s) (Err BadArg)))

-- a length at a place: the size, and the place behind its field
abbrev pub placed : ℕ → Field → Option (ℕ × ℕ)
placed m no_field = None
placed m (field n t) = Some (n, m - length t)

unfoldable pub size_at : List ℕ → ℕ → Option (ℕ × ℕ)
size_at s at = placed (length s) (read_field (drop at s))
