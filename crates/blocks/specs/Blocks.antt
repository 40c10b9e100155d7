-- Blocks of a list. `sets l at vs` of lib.Seq is l with the elements of vs stored from place `at` on; what is outside stays.
use Rattle.std.specs.Prelude.{ℕ, List, take, drop, replicate}
use Rattle.std.proofs.lemmas.List.Edits.{sets}

-- the n elements of s from place `from` on
abbrev pub part : List ℕ → ℕ → ℕ → List ℕ
part s from n = take n (drop from s)

-- s with the n elements at `from` stored at `to`, whichever way they go
abbrev pub moved : List ℕ → ℕ → ℕ → ℕ → List ℕ
moved s from to n = sets s to (part s from n)

-- s with the n elements at `from` all v
abbrev pub filled : List ℕ → ℕ → ℕ → ℕ → List ℕ
filled s from n v = sets s from (replicate n v)

-- d with the n elements of s at `from` stored at `at`
abbrev pub copied : List ℕ → ℕ → List ℕ → ℕ → ℕ → List ℕ
copied d at s from n = sets d at (part s from n)
