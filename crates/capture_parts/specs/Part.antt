-- A part of a file at the front of what a buffer holds.
use Rattle.std.specs.Prelude.{ℕ, ◌≤◌, ◌≡◌, List, cond, ltb, length}
use Rattle.capture_window.specs.Window.{settled}
use Rattle.capture_parts.specs.declared.Filled.{Filled}
use Rattle.capture_parts.specs.declared.Part.{Part}

-- a buffer that could not be filled holds the end of the file
pub record FilledIn (buf : List ℕ) (r : Filled) : Type 0 where
  pub within : r.held ≤ length buf
  pub ending : r.last ≡ ltb r.held (length buf)

-- a buffer that could not be filled holds the end of the file, and all that it holds is the part; of a full one the part is what is settled
pub record PartOf (buf : List ℕ) (r : Part) : Type 0 where
  pub within : r.held ≤ length buf
  pub ending : r.last ≡ ltb r.held (length buf)
  pub amount : r.bytes ≡ cond r.last r.held (settled buf)
