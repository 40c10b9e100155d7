-- What the parts answer; contracts of functions that are not public cite these.
use Rattle.std.specs.Prelude.{ℕ, List, Bool, cond, ◌||◌, eqb, ltb, ℤ}
use Rattle.opus_defines.specs.declared.Refusal.TheVariants.{BadField}
use Rattle.std.specs.Prelude.{Result, Ok, Err}
use Rattle.opus_defines.specs.declared.Refusal.{Refusal}
use Rattle.opus_head.specs.declared.OpusHead.{OpusHead}
use Rattle.opus_head.specs.Reading.{ruled}

-- ---- reading
-- what the entry of a channel may be
abbrev pub entry_fits : ℕ → ℕ → Bool
entry_fits sum e = eqb e 255 || ltb e sum

abbrev pub checked : OpusHead → Result OpusHead Refusal
checked h = cond (ruled h) (Ok h) (Err BadField)

-- ---- writing
-- the fields one by one
abbrev pub fields_of : ℕ → ℕ → ℕ → ℕ → ℤ → ℕ → ℕ → ℕ → List ℕ → OpusHead
fields_of version channels preSkip rate gain family streams coupled mapping =
    record {
      version = version;
      channels = channels;
      pre_skip = preSkip;
      rate = rate;
      gain = gain;
      family = family;
      streams = streams;
      coupled = coupled;
      mapping = mapping;
    }
