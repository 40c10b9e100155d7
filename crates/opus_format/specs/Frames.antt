-- Frames, each a list of bytes, that lie one behind another in one block.
use Rattle.std.specs.Prelude.{ℕ, ◌+◌, ◌-◌, max, List, [], ◌∷◌, ◌++◌, map, length, take, drop, replicate}

abbrev pub lengths : List (List ℕ) → List ℕ
lengths frames = map length frames

-- the frames one behind another
abbrev pub joined : List (List ℕ) → List ℕ
joined [] = []
joined (a ∷ frames) = a ++ joined frames

-- frames of these lengths, taken off the front of a block
abbrev pub cut : List ℕ → List ℕ → List (List ℕ)
cut [] s = []
cut (n ∷ ns) s = take n s ∷ cut ns (drop n s)

abbrev pub total : List ℕ → ℕ
total [] = 0
total (n ∷ ns) = n + total ns

abbrev pub longest : List ℕ → ℕ
longest [] = 0
longest (n ∷ ns) = max n (longest ns)

-- 48 lengths: those given, and zeros
abbrev pub padded48 : List ℕ → List ℕ
padded48 ns = ns ++ replicate (48 - length ns) 0
