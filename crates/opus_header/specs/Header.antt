-- The bytes that are written in front of frames of these lengths (document 01, 'Collecting and writing'), in the layouts of RFC 6716,
-- section 3.2 and appendix B. Every packet written is such a header, the frames one behind another, and zeros.
use Rattle.std.specs.Prelude.{ℕ, ◌*◌, ◌-◌, ◌/◌, List, [], ◌∷◌, ◌++◌, Bool, true, cond, ◌&&◌, ltb, eqb, length, replicate}
use Rattle.opus_size.specs.Size.{length_fields}
use Rattle.opus_toc.specs.Toc.{toc_byte}
use Rattle.opus_format.specs.Format.{count_byte, own_length}

-- ---- lengths
abbrev pub all_are : ℕ → List ℕ → Bool
all_are n [] = true
all_are n (m ∷ ns) = eqb m n && all_are n ns

-- whether the lengths are all the same
abbrev pub same : List ℕ → Bool
same [] = true
same (n ∷ ns) = all_are n ns

-- all but the last, and the last
abbrev pub firsts : List ℕ → List ℕ
firsts [] = []
firsts (n ∷ []) = []
firsts (n ∷ m ∷ ns) = n ∷ firsts (m ∷ ns)

abbrev pub last : List ℕ → ℕ
last [] = 0
last (n ∷ []) = n
last (n ∷ m ∷ ns) = last (m ∷ ns)

-- the length fields: none where all lengths agree
abbrev pub sizes : List ℕ → List ℕ
sizes ns = cond (same ns) [] (length_fields (firsts ns))

-- ---- padding lengths for n missing bytes, the chain itself among them
abbrev pub chain : ℕ → List ℕ
chain n = cond (eqb n 0) [] (replicate ((n - 1) / 255) 255 ++ ((n - 1 - 255 * ((n - 1) / 255)) ∷ []))

-- the padding bytes behind the frames
abbrev pub pad_bytes : ℕ → ℕ
pad_bytes n = n - length (chain n)

-- ---- headers
-- one frame, code 0; two of one length, code 1; two others, code 2
abbrev pub short_code : ℕ → Bool → ℕ
short_code count alike = cond (ltb count 2) 0 (cond alike 1 2)

-- the count byte of code 3 and its padding lengths; the padding flag is set only where something is missing
abbrev pub counting : ℕ → Bool → ℕ → List ℕ
counting count alike n = count_byte (cond alike 0 1) (cond (eqb n 0) 0 1) count ∷ chain n

-- the TOC byte and what is counted, the length fields, and the self-delimited form's length
unfoldable pub header : Bool → List ℕ → List ℕ → List ℕ
header sd front ns = front ++ (sizes ns ++ own_length sd (last ns))

-- codes 0 to 2, and code 3 with n missing bytes
abbrev pub short_front : ℕ → ℕ → Bool → List ℕ
short_front six count alike = toc_byte six (short_code count alike) ∷ []

abbrev pub full_front : ℕ → ℕ → Bool → ℕ → List ℕ
full_front six count alike n = toc_byte six 3 ∷ counting count alike n

abbrev pub short_header : Bool → ℕ → List ℕ → List ℕ
short_header sd six ns = header sd (short_front six (length ns) (same ns)) ns

abbrev pub full_header : Bool → ℕ → List ℕ → ℕ → List ℕ
full_header sd six ns n = header sd (full_front six (length ns) (same ns) n) ns

-- more than two frames take code 3
abbrev pub compact_header : Bool → ℕ → List ℕ → List ℕ
compact_header sd six ns = cond (ltb (length ns) 3) (short_header sd six ns) (full_header sd six ns 0)
