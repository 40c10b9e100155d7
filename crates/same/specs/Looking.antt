-- How a part of the original was looked for in the new file.
use Rattle.std.specs.Prelude.{ℕ, ◌-◌, ◌≤◌, ◌≡◌, List, true, length, take}
use Rattle.blocks.specs.Blocks.{moved}
use Rattle.capture.specs.Records.{Entry}
use Rattle.sameness.specs.Sameness.{Begins}
use Rattle.same.specs.declared.Match.{Match}

-- of `held` bytes of the new file, read into the buffer behind those that were left, so many records es were found the same at the front, and the bytes behind
-- them are left in the buffer; where all are said to be the same, these are all
pub record Looked (es : List Entry) (after : List ℕ) (r : Match) : Type 0 where
  pub buffer : List ℕ
  pub held : ℕ
  pub bytes : ℕ
  pub within : (held ≤ length buffer) × (bytes ≤ held)
  pub found : Begins (take r.records es) (take held buffer) bytes
  pub all : r.same ≡ true → r.records ≡ length es
  pub left : (r.held ≡ held - bytes) × (after ≡ moved buffer bytes 0 (held - bytes))
