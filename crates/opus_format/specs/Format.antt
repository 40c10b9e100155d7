-- RFC 6716, sections 3.2 to 3.4 and appendix B: which bytes are which packet. `sd` is true for the self-delimited form.
use Rattle.std.specs.Prelude.{ℕ, suc, ◌+◌, ◌*◌, ◌/◌, ◌≤◌, ◌<◌, ◌≡◌, List, [], ◌∷◌, ◌++◌, Bool, true, false, length, replicate}
use Rattle.opus_size.specs.Size.{most_bytes, length_field, length_fields}
use Rattle.opus_toc.specs.Toc.{toc_byte, duration}
use Rattle.opus_format.specs.Frames.{lengths, joined, longest}

-- 3.2.5: the count byte of code 3: bit 7 for unequal lengths, bit 6 for padding, then the count
abbrev pub count_byte : ℕ → ℕ → ℕ → ℕ
count_byte v p m = 128 * v + 64 * p + m

-- R5: at least one frame, at most 120 ms in all (a duration is in tenths of a millisecond)
pub record Lasts (six count : ℕ) : Type 0 where
  pub some : 1 ≤ count
  pub short : count * duration (six / 2) ≤ 1200

-- 3.2.5: the padding flag, the padding lengths, and how many padding bytes they say: each 255 is 254 and goes on, another value ends
pub data Padding : ℕ → List ℕ → ℕ → Type 0 where
  unpadded : Padding 0 [] 0
  padded : (more last : ℕ) → last < 255 → Padding 1 (replicate more 255 ++ (last ∷ [])) (254 * more + last)

-- appendix B: one length more, right before the first frame
abbrev pub own_length : Bool → ℕ → List ℕ
own_length false n = []
own_length true n = length_field n

-- 3.2.2 to 3.2.5: the bytes in front of the frames, the lengths of the frames, and the padding bytes behind them
pub data Layout (sd : Bool) (six : ℕ) : List ℕ → List ℕ → ℕ → Type 0 where
  code0 : (n : ℕ) → Layout sd six (toc_byte six 0 ∷ own_length sd n) (n ∷ []) 0
  code1 : (n : ℕ) → Layout sd six (toc_byte six 1 ∷ own_length sd n) (n ∷ n ∷ []) 0
  code2 : (m n : ℕ) → Layout sd six (toc_byte six 2 ∷ length_field m ++ own_length sd n) (m ∷ n ∷ []) 0
  code3equal : (count n : ℕ) {p : ℕ} {chain : List ℕ} {pad : ℕ} → Lasts six count → Padding p chain pad
      → Layout sd six (toc_byte six 3 ∷ count_byte 0 p count ∷ (chain ++ own_length sd n)) (replicate count n) pad
  code3unequal : (ns : List ℕ) (n : ℕ) {p : ℕ} {chain : List ℕ} {pad : ℕ} → Lasts six (suc (length ns)) → Padding p chain pad
      → Layout sd six (toc_byte six 3 ∷ count_byte 1 p (suc (length ns)) ∷ (chain ++ (length_fields ns ++ own_length sd n))) (ns ++ (n ∷ [])) pad

-- the bytes p are a packet with these upper six TOC bits and these frames: what stands in front, the frames, the padding
pub record Spells (sd : Bool) (six : ℕ) (p : List ℕ) (frames : List (List ℕ)) : Type 0 where
  pub head : List ℕ
  pub padding : List ℕ
  pub bytes : p ≡ head ++ (joined frames ++ padding)
  pub layout : Layout sd six head (lengths frames) (length padding)
  pub small : longest (lengths frames) ≤ most_bytes

-- what may stand behind a packet: nothing in the ordinary form, anything in the self-delimited one
abbrev pub Behind : Bool → List ℕ → Type 0
Behind false rest = rest ≡ []
Behind true rest = Unit {0}
