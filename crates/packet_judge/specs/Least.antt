-- What the least length of frames is, said of every packet of RFC 6716 that has them (document 02, M-110).
use Rattle.std.specs.Prelude.{ℕ, ◌≤◌, ◌≡◌, List, Bool, length}
use Rattle.opus_format.specs.Format.{Spells}

-- these frames and upper six TOC bits are in a packet of n bytes, and in none that is shorter
pub record Least (sd : Bool) (six : ℕ) (frames : List (List ℕ)) (n : ℕ) : Type 0 where
  pub packet : List ℕ
  pub spelled : Spells sd six packet frames
  pub long : length packet ≡ n
  pub least : (q : List ℕ) → Spells sd six q frames → n ≤ length q
