-- What the reader and the writer of the identification header answer (document 02, M-111).
use Rattle.std.specs.Prelude.{ℕ, zero, suc, ◌+◌, ◌-◌, List, [], ◌∷◌, ◌++◌, Bool, true, false, cond, ◌&&◌, ◌||◌, not, eqb, ltb, leb, ℤ, pos, negsuc, length}
use Rattle.std.specs.Prelude.{take, drop, get_or, replicate}
use Rattle.opus_defines.specs.Outcome.{Effect, refusal, into_room, Outcome, leaves}
use Rattle.opus_defines.specs.declared.Refusal.{Refusal}
use Rattle.opus_defines.specs.declared.Refusal.TheVariants.{BadHeader, UnknownVersion, BadField}
use Rattle.std.specs.Prelude.{Result, Err, Ok}
use Rattle.low_first.specs.Numbers.{number_at}
use Rattle.opus_head.specs.Header.{letters, head_bytes}
use Rattle.opus_head.specs.declared.OpusHead.{OpusHead}

-- ---- the rules on fields but the version, as a test
-- none has 0 channels
abbrev pub channels_fit : ℕ → ℕ → Bool
channels_fit family n = leb 1 n && cond (eqb family 0) (leb n 2) (cond (eqb family 1) (leb n 8) true)

-- the entries of so many channels, each 255 or below a sum; those behind them are 0
abbrev pub entries_fit : ℕ → ℕ → List ℕ → Bool
entries_fit n sum [] = true
entries_fit zero sum (e ∷ es) = eqb e 0 && entries_fit zero sum es
entries_fit (suc n) sum (e ∷ es) = (eqb e 255 || ltb e sum) && entries_fit n sum es

abbrev pub streams_fit : ℕ → ℕ → Bool
streams_fit streams coupled = leb 1 streams && (leb coupled streams && leb (streams + coupled) 255)

-- what family 0 means
abbrev pub one_stream : ℕ → ℕ → ℕ → List ℕ → Bool
one_stream channels streams coupled mapping =
    (eqb streams 1 && eqb (coupled + 1) channels) && (eqb (get_or mapping 0 0) 0 && eqb (get_or mapping 1 0) coupled)

unfoldable pub fields_fit : ℕ → ℕ → ℕ → ℕ → List ℕ → Bool
fields_fit channels family streams coupled mapping =
    (channels_fit family channels && streams_fit streams coupled)
    && (entries_fit channels (streams + coupled) mapping && (not (eqb family 0) || one_stream channels streams coupled mapping))

abbrev pub ruled : OpusHead → Bool
ruled h = fields_fit h.channels h.family h.streams h.coupled h.mapping

-- ---- reading
-- 16 bits as a signed number
abbrev pub signed16 : ℕ → ℤ
signed16 n = cond (ltb n 32768) (pos n) (negsuc (65535 - n))

-- the bytes that a family and so many channels need, and those of a header
abbrev pub bytes_needed : ℕ → ℕ → ℕ
bytes_needed family channels = cond (eqb family 0) 19 (21 + channels)

abbrev pub needed : List ℕ → ℕ
needed s = bytes_needed (get_or s 18 0) (get_or s 9 0)

-- 255 entries: those that there are, and zeros
abbrev pub entries : List ℕ → List ℕ
entries es = es ++ replicate (255 - length es) 0

-- the fields of a header of which nothing is missing
abbrev pub head_with : List ℕ → ℕ → ℕ → List ℕ → OpusHead
head_with s streams coupled mapping =
    record {
      version = get_or s 8 0;
      channels = get_or s 9 0;
      pre_skip = number_at s 10 2;
      rate = number_at s 12 4;
      gain = signed16 (number_at s 16 2);
      family = get_or s 18 0;
      streams = streams;
      coupled = coupled;
      mapping = mapping;
    }

-- of family 0, which means what Header's `single_stream` says, and of the others
abbrev pub plain_head : List ℕ → OpusHead
plain_head s = head_with s 1 (get_or s 9 0 - 1) (entries (take (get_or s 9 0) (0 ∷ 1 ∷ [])))

abbrev pub head_of : List ℕ → OpusHead
head_of s =
    cond (eqb (get_or s 18 0) 0) (plain_head s) (head_with s (get_or s 19 0) (get_or s 20 0) (entries (take (get_or s 9 0) (drop 21 s))))

-- version 1 has just the bytes that it needs, the others may have more
abbrev pub long_as : ℕ → ℕ → ℕ → Bool
long_as version n need = cond (eqb version 1) (eqb n need) (leb need n)

-- whether s begins with the letters
abbrev pub begins : List ℕ → List ℕ → Bool
begins [] s = true
begins (c ∷ cs) [] = false
begins (c ∷ cs) (b ∷ s) = eqb b c && begins cs s

-- all zeros: what C sees beside a refusal
abbrev pub zero_head : OpusHead
zero_head =
    record {
      version = 0;
      channels = 0;
      pre_skip = 0;
      rate = 0;
      gain = pos 0;
      family = 0;
      streams = 0;
      coupled = 0;
      mapping = replicate 255 0;
    }

-- `head_read`
unfoldable pub head_read : List ℕ → Result OpusHead Refusal
head_read s =
    cond (ltb (length s) 19) (Err BadHeader)
    (cond (not (begins letters s)) (Err BadHeader)
    (cond (ltb 15 (get_or s 8 0)) (Err UnknownVersion)
    (cond (not (long_as (get_or s 8 0) (length s) (needed s))) (Err BadHeader)
    (cond (ruled (head_of s)) (Ok (head_of s)) (Err BadField)))))

-- ---- `head_write`: version 1 only
unfoldable pub head_written : OpusHead → ℕ → Effect
head_written h room = cond (eqb h.version 1 && ruled h) (into_room (head_bytes h) room) (refusal BadField)

unfoldable pub head_write : OpusHead → List ℕ → Outcome
head_write h dst = leaves dst (head_written h (length dst))
