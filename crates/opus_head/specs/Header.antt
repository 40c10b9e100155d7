-- The identification header of an Ogg Opus stream (RFC 7845, 5.1; document 02, M-111): the bytes of its fields, and the rules that the fields obey.
use Rattle.std.specs.Prelude.{ℕ, ◌+◌, ◌-◌, ◌<◌, ◌≤◌, ◌≡◌, List, [], ◌∷◌, ◌++◌, cond, ◌⊎◌, eqb, ℤ, pos, negsuc, take, get_or}
use Rattle.low_first.specs.Numbers.{low_first}
use Rattle.opus_head.specs.declared.OpusHead.{OpusHead}

-- ---- bytes
-- OpusHead
abbrev pub letters : List ℕ
letters = 0x4f ∷ 0x70 ∷ 0x75 ∷ 0x73 ∷ 0x48 ∷ 0x65 ∷ 0x61 ∷ 0x64 ∷ []

-- the 16 bits of a signed number
abbrev pub bits16 : ℤ → ℕ
bits16 (pos n) = n
bits16 (negsuc n) = 65535 - n

-- streams, coupled streams and an entry for each channel; family 0 has none of them
abbrev pub table : OpusHead → List ℕ
table h = cond (eqb h.family 0) [] (h.streams ∷ h.coupled ∷ take h.channels h.mapping)

-- the 19 bytes that every header has
abbrev pub fixed_bytes : ℕ → ℕ → ℕ → ℕ → ℤ → ℕ → List ℕ
fixed_bytes version channels preSkip rate gain family =
    letters ++ (version ∷ channels ∷ low_first 2 preSkip ++ (low_first 4 rate ++ (low_first 2 (bits16 gain) ++ (family ∷ []))))

unfoldable pub head_bytes : OpusHead → List ℕ
head_bytes h = fixed_bytes h.version h.channels h.pre_skip h.rate h.gain h.family ++ table h

-- ---- rules
pub record Lawful (h : OpusHead) : Type 0 where
  -- the upper four bits are 0
  pub version : h.version ≤ 15
  pub channels : 1 ≤ h.channels
  pub mono_or_stereo : h.family ≡ 0 → h.channels ≤ 2
  pub vorbis : h.family ≡ 1 → h.channels ≤ 8
  pub streams : 1 ≤ h.streams
  pub coupled : h.coupled ≤ h.streams
  pub together : h.streams + h.coupled ≤ 255
  -- a channel is silent or has a place in the streams' channels
  pub entry : (i : ℕ) → i < h.channels → (get_or h.mapping i 0 ≡ 255) ⊎ (get_or h.mapping i 0 < h.streams + h.coupled)
  pub unused : (i : ℕ) → h.channels ≤ i → get_or h.mapping i 0 ≡ 0
  -- family 0 means one stream, coupled if there are two channels, and each channel at its own place
  pub single_stream : h.family ≡ 0 → (h.streams ≡ 1) × (h.coupled + 1 ≡ h.channels) × ((i : ℕ) → i < h.channels → get_or h.mapping i 0 ≡ i)
