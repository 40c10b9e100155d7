-- The heads that the promises speak of.
use Rattle.std.specs.Prelude.{◌<◌, ◌^◌, ◌≡◌, length}
use Rattle.std.specs.Int.Signed.{mag}
use Rattle.laws.specs.Bytes.{Bytes}
use Rattle.opus_head.specs.declared.OpusHead.{OpusHead}
use Rattle.opus_head.specs.Header.{Lawful}

-- every field is in the range of its type, as every `OpusHead` of the code is
pub record InRange (h : OpusHead) : Type 0 where
  pub version : h.version < 256
  pub channels : h.channels < 256
  pub pre_skip : h.pre_skip < 256 ^ 2
  pub rate : h.rate < 256 ^ 4
  -- -32,768 to 32,767: `mag` is n of n and of -(n + 1)
  pub gain : mag h.gain < 32768
  pub family : h.family < 256
  pub streams : h.streams < 256
  pub coupled : h.coupled < 256
  pub entries : Bytes h.mapping
  pub entry_count : length h.mapping ≡ 255

-- what may be written: version 1, by the rules
pub record Writable (h : OpusHead) : Type 0 where
  pub one : h.version ≡ 1
  pub lawful : Lawful h
