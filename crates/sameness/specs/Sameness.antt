-- What it means that a rewritten capture is seen to say what the original says (beyond document 02). What packets say, and records, is in compaction's
-- Lossless: `Same`, `Faithful`.
use Rattle.std.specs.Prelude.{ℕ, ◌≡◌, List, [], ◌∷◌, ◌++◌, Bool, true, length, take, drop}
use Rattle.capture.specs.Records.{Entry, HoldAll, file_of}
use Rattle.capture.specs.Reading.{records_of}
use Rattle.compaction.specs.Lossless.{Faithful}

-- a statement holds exactly where the answer is true
pub record Tells (answer : Bool) (P : Type 0) : Type 0 where
  pub so : answer ≡ true → P
  pub only : P → answer ≡ true

-- n bytes at the front of a file are records, one right behind another, that say what the records es say
pub record Begins (es : List Entry) (file : List ℕ) (n : ℕ) : Type 0 where
  pub records : List Entry
  pub hold : HoldAll records
  pub same : Faithful es records
  pub long : length (file_of records) ≡ n
  pub front : take n file ≡ file_of records

-- the records of each part of the original are found so in what is held of the new file, one part behind the other, and nothing is left of it at the end
pub data Followed : List (List ℕ) → List ℕ → Type 0 where
  over : Followed [] []
  next : {p : List ℕ} {ps : List (List ℕ)} (held more : List ℕ) (n : ℕ) → Begins (records_of p) held n → Followed ps (drop n held ++ more)
      → Followed (p ∷ ps) (held ++ more)
