-- What the promises on refusals speak of, said of the inputs alone (document 02, M-108).
use Rattle.std.specs.Prelude.{ℕ, ◌≤◌, ◌<◌, ◌≡◌, List, [], true, false, ◌⊎◌, ℤ, pos, length, get_or}
use Rattle.opus_defines.specs.Bounds.{most_packet}
use Rattle.opus_defines.specs.declared.Rule.{Rule}
use Rattle.opus_toc.specs.Toc.{time}
use Rattle.opus_format.specs.Frames.{total}
use Rattle.opus_format.specs.Reading.{Reading, refused, accepted, read}
use Rattle.multistream.specs.Streams.{streams_of}
use Rattle.multistream.specs.Parts.{is_accepted}

-- ---- -1 of a join: no packet, more than 255, a buffer or a destination above 65,535 bytes, or lengths that do not sum to the buffer
abbrev pub Outside : List ℕ → List ℕ → ℕ → Type 0
Outside s ns room =
    (length ns ≡ 0) ⊎ ((255 < length ns) ⊎ ((most_packet < length s) ⊎ ((most_packet < room) ⊎ (total ns ≡ length s → ⊥))))

pub record Inside (s ns : List ℕ) (room : ℕ) : Type 0 where
  pub some : length ns ≡ 0 → ⊥
  pub few : length ns ≤ 255
  pub short : length s ≤ most_packet
  pub narrow : room ≤ most_packet
  pub sum : total ns ≡ length s

-- ---- -4 with a rule: all packets can be read, or one is the first that cannot
abbrev pub Readable : List (List ℕ) → Type 0
Readable ps = (i : ℕ) → i < length ps → is_accepted (read false (get_or ps i [])) ≡ true

pub record Unread (ps : List (List ℕ)) : Type 0 where
  pub at : ℕ
  pub inside : at < length ps
  pub before : (i : ℕ) → i < at → is_accepted (read false (get_or ps i [])) ≡ true
  pub rule : Rule
  pub place : ℕ
  pub is : read false (get_or ps at []) ≡ refused rule place

-- ---- -4 without one: how long a packet lasts, by TOC byte and frame count (M-104)
abbrev pub lasts : Reading → ℕ
lasts (refused rule place) = 0
lasts (accepted toc ns first taken) = time toc (length ns)

-- ---- -1 of taking out: a packet or a destination above 65,535 bytes, or k is no stream of the packet
abbrev pub OutsideTake : List ℕ → ℤ → ℤ → ℕ → Type 0
OutsideTake s nb k room = (most_packet < length s) ⊎ ((most_packet < room) ⊎ ((m : ℕ) → m < streams_of nb → k ≡ pos m → ⊥))
