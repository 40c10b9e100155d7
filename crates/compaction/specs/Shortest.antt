-- What it means that a record cannot be written in fewer bytes (beyond document 02, M-103).
use Rattle.std.specs.Prelude.{ℕ, ◌≤◌, List, [], ◌∷◌, length}
use Rattle.laws.specs.Bytes.{Bytes}
use Rattle.capture.specs.Records.{Entry}
use Rattle.compaction.specs.Lossless.{Same}

-- as many records, in the same order, and no packet that says what the first one's says is shorter than the second one's
pub data Shortest : List Entry → List Entry → Type 0 where
  no_more : Shortest [] []
  each : {e f : Entry} {es fs : List Entry} → ((q : List ℕ) → Bytes q → Same e.packet q → length f.packet ≤ length q)
      → Shortest es fs → Shortest (e ∷ es) (f ∷ fs)
