-- How a packet is read: a function that takes bytes off the front of a list, and refuses by the rule of RFC 6716, section 3.4, that fails, with
-- the place of the first byte of the field concerned (document 02, M-100).
-- proofs/Sound.antt and proofs/Complete.antt show that it accepts exactly what `Spells` of Format.antt says, proofs/Broken.antt that the rule
-- named fails at that place.
use Rattle.std.specs.Prelude.{ℕ, zero, suc, ◌+◌, ◌*◌, ◌-◌, ◌/◌, ◌%◌, List, [], ◌∷◌, ◌++◌, Bool, true, false, cond, ◌&&◌, ltb, leb, eqb, length, take, drop}
use Rattle.std.specs.Prelude.{replicate}
use Rattle.opus_defines.specs.declared.Rule.{Rule}
use Rattle.opus_defines.specs.declared.Rule.TheVariants.{R1, R2, R3, R4, R5, R6, R7, R8}
use Rattle.opus_size.specs.Size.{most_bytes, Field, no_field, field, read_field}
use Rattle.opus_toc.specs.Toc.{code, upper_six, duration}
use Rattle.opus_format.specs.Frames.{total, cut}

-- the lengths of all frames and the bytes from the first frame on; or the rule, and the bytes from the field concerned on
pub data Front : Type 0 where
  broken : Rule → List ℕ → Front
  front : List ℕ → List ℕ → Front

-- ---- unequal lengths: ns are those of all frames but the last, and s stands behind their fields
-- appendix B: the last frame says its length
abbrev pub own_last : List ℕ → List ℕ → Field → Front
own_last ns s no_field = broken R8 s
own_last ns s (field n t) = cond (ltb (length t) (total ns + n)) (broken R8 s) (front (ns ++ (n ∷ [])) t)

-- the last frame takes the rest, or says its length
abbrev pub last_length : Bool → List ℕ → List ℕ → Front
last_length false ns s =
    cond (ltb most_bytes (length s - total ns)) (broken R2 s) (front (ns ++ ((length s - total ns) ∷ [])) s)
last_length true ns s = own_last ns s (read_field s)

-- ---- several length fields: the lengths and what stands behind them, or the bytes from the one on that breaks
pub data Fields : Type 0 where
  no_fields : List ℕ → Fields
  fields : List ℕ → List ℕ → Fields

abbrev pub before : ℕ → Fields → Fields
before n (no_fields s) = no_fields s
before n (fields ns s) = fields (n ∷ ns) s

-- a length that is not whole, or above the bytes behind it, breaks at its own first byte
abbrev pub then_fields : (List ℕ → Fields) → List ℕ → Field → Fields
then_fields next s no_field = no_fields s
then_fields next s (field n t) = cond (ltb (length t) n) (no_fields s) (before n (next t))

abbrev pub read_fields : ℕ → List ℕ → Fields
read_fields zero s = fields [] s
read_fields (suc k) s = then_fields (read_fields k) s (read_field s)

-- lengths that are too long only together break behind the last of their fields
abbrev pub together : Fields → Fields
together (no_fields s) = no_fields s
together (fields ns s) = cond (ltb (length s) (total ns)) (no_fields s) (fields ns s)

-- the frames behind these fields
abbrev pub behind_fields : Bool → Rule → Fields → Front
behind_fields sd r (no_fields s) = broken r s
behind_fields sd r (fields ns s) = last_length sd ns s

-- k length fields, and one frame more
abbrev pub unequal : Bool → Rule → ℕ → List ℕ → Front
unequal sd r k s = behind_fields sd r (together (read_fields k s))

-- ---- equal lengths
abbrev pub own_equal : ℕ → List ℕ → Field → Front
own_equal count s no_field = broken R8 s
own_equal count s (field n t) = cond (ltb (length t) (count * n)) (broken R8 s) (front (replicate count n) t)

-- the frames share the rest, or say their one length
abbrev pub equal : Bool → Rule → ℕ → List ℕ → Front
equal false r count s =
    cond (eqb (length s % count) 0) (cond (ltb most_bytes (length s / count)) (broken R2 s) (front (replicate count (length s / count)) s)) (broken r s)
equal true r count s = own_equal count s (read_field s)

-- ---- padding
abbrev pub plus : ℕ → Field → Field
plus k no_field = no_field
plus k (field n s) = field (k + n) s

-- each 255 is 254 padding bytes and goes on, another value ends
abbrev pub read_chain : List ℕ → Field
read_chain [] = no_field
read_chain (a ∷ s) = cond (eqb a 255) (plus 254 (read_chain s)) (field a s)

-- how many padding bytes, and what stands behind the padding lengths; the flag is bit 6 of the count byte
abbrev pub read_padding : ℕ → List ℕ → Field
read_padding zero s = field 0 s
read_padding (suc p) s = read_chain s

-- ---- code 3, with the count byte's flags v for unequal lengths and p for padding, and its count
abbrev pub frames3 : Bool → ℕ → ℕ → List ℕ → Front
frames3 sd zero count s = equal sd R6 count s
frames3 sd (suc v) count s = unequal sd R7 (count - 1) s

-- R6 for equal lengths, R7 for unequal ones
abbrev pub size_rule : ℕ → Rule
size_rule zero = R6
size_rule (suc v) = R7

-- R5
abbrev pub lasts : ℕ → ℕ → Bool
lasts six count = ltb 0 count && leb (count * duration (six / 2)) 1200

-- ---- packets
pub data Reading : Type 0 where
  -- the rule and the place
  refused : Rule → ℕ → Reading
  -- the TOC byte, the lengths of the frames, the first frame's place, and the bytes taken with padding
  accepted : ℕ → List ℕ → ℕ → ℕ → Reading

-- rule 3 points at the TOC byte, the others at the field concerned
abbrev pub pointed : Rule → ℕ → ℕ
pointed R1 place = place
pointed R2 place = place
pointed R3 place = 0
pointed R4 place = place
pointed R5 place = place
pointed R6 place = place
pointed R7 place = place
pointed R8 place = place

-- m is the packet's length and pad its padding
abbrev pub accept : ℕ → ℕ → ℕ → Front → Reading
accept m toc pad (broken r s) = refused r (pointed r (m - pad - length s))
accept m toc pad (front ns t) = accepted toc ns (m - pad - length t) (m - pad - length t + total ns + pad)

-- the padding lies at the end and must fit, or points at byte 2
abbrev pub behind_padding : Bool → ℕ → ℕ → ℕ → ℕ → Field → Reading
behind_padding sd m toc v count no_field = refused (size_rule v) 2
behind_padding sd m toc v count (field pad s) =
    cond (ltb (length s) pad) (refused (size_rule v) 2) (accept m toc pad (frames3 sd v count (take (length s - pad) s)))

-- rule 5 points at byte 1, also where it is missing
abbrev pub read3 : Bool → ℕ → ℕ → List ℕ → Reading
read3 sd m toc [] = refused R5 1
read3 sd m toc (c ∷ s) =
    cond (lasts (upper_six toc) (c % 64)) (behind_padding sd m toc (c / 128 % 2) (c % 64) (read_padding (c / 64 % 2) s)) (refused R5 1)

abbrev pub read_code : Bool → ℕ → ℕ → ℕ → List ℕ → Reading
read_code sd zero m toc s = accept m toc 0 (unequal sd R2 0 s)
read_code sd (suc zero) m toc s = accept m toc 0 (equal sd R3 2 s)
read_code sd (suc (suc zero)) m toc s = accept m toc 0 (unequal sd R4 1 s)
read_code sd (suc (suc (suc c))) m toc s = read3 sd m toc s

unfoldable pub read : Bool → List ℕ → Reading
read sd [] = refused R1 0
read sd (toc ∷ s) = read_code sd (code toc) (suc (length s)) toc s

-- the frames that a reading of p found
unfoldable pub frames_of : List ℕ → Reading → List (List ℕ)
frames_of p (refused r place) = []
frames_of p (accepted toc ns first taken) = cut ns (drop first p)
