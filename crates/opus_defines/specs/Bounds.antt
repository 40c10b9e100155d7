-- Document 01, 'Numbers that bound the work'.
use Rattle.std.specs.Prelude.{ℕ}

-- the longest packet, destination and padded length, in bytes
abbrev pub most_packet : ℕ
most_packet = 65535
