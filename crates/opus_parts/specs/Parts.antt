-- What the parts of the reader answer: a reading of Reading.antt with places in a slice for what is left of a list.
-- Contracts of functions that are not public cite these; m is the length of the slice that was read. A definition `..Lent` says what
-- the lent array of lengths then holds: of a reading that failed, nothing. `..Read` says both of the slice s: the answer and the array.
use Rattle.std.specs.Prelude.{ℕ, ◌+◌, ◌-◌, ◌≡◌, List, cond, ltb, length, drop}
use Rattle.opus_size.specs.Size.{length_field, Field, no_field, field}
use Rattle.opus_format.specs.Frames.{total}
use Rattle.opus_format.specs.Reading.{Front, broken, front, Fields, no_fields, fields, read_fields}
use Rattle.opus_format.specs.Frames.{padded48}
use Rattle.std.specs.Prelude.{Err, None, Ok, Option, Result, Some}
use Rattle.opus_defines.specs.declared.Rule.{Rule}

-- ---- length fields
abbrev pub sizes_at : ℕ → Fields → Result (ℕ × ℕ) ℕ
sizes_at m (no_fields t) = Err (m - length t)
sizes_at m (fields ns t) = Ok (m - length t, total ns)

abbrev pub sizes_lent : Fields → List ℕ → Type 0
sizes_lent (no_fields t) l = Unit {0}
sizes_lent (fields ns t) l = l ≡ padded48 ns

abbrev pub SizesRead : List ℕ → Fields → Result (ℕ × ℕ) ℕ → List ℕ → Type 0
SizesRead s r f l = (f ≡ sizes_at (length s) r) × (sizes_lent r l)

-- where the fields break, or end
abbrev pub stop_at : ℕ → Fields → ℕ
stop_at m (no_fields t) = m - length t
stop_at m (fields ns t) = m - length t

-- where fields break of which the last read, n, ends at a place, and k follow
abbrev pub cut_at : List ℕ → ℕ → ℕ → ℕ → ℕ
cut_at s next n k = cond (ltb (length s - next) n) (next - length (length_field n)) (stop_at (length s) (read_fields k (drop next s)))

-- ---- frames
abbrev pub frames_at : ℕ → Front → Result (ℕ × ℕ) (Rule × ℕ)
frames_at m (broken rule t) = Err (rule, m - length t)
frames_at m (front ns t) = Ok (m - length t, total ns)

abbrev pub frames_lent : Front → List ℕ → Type 0
frames_lent (broken rule t) l = Unit {0}
frames_lent (front ns t) l = l ≡ padded48 ns

abbrev pub FramesRead : List ℕ → Front → Result (ℕ × ℕ) (Rule × ℕ) → List ℕ → Type 0
FramesRead s r f l = (f ≡ frames_at (length s) r) × (frames_lent r l)

-- the place behind the frames, or where they break
abbrev pub end_of : Result (ℕ × ℕ) (Rule × ℕ) → ℕ
end_of (Err (rule, place)) = place
end_of (Ok (first, sum)) = first + sum

-- ---- padding: if it does not fit, it is refused with the chain
abbrev pub padding_at : ℕ → Field → Option (ℕ × ℕ)
padding_at m no_field = None
padding_at m (field pad t) = cond (ltb (length t) pad) None (Some (pad, m - length t))
