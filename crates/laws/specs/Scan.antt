-- A byte sought in a list, and a part of a list between two places.
use Rattle.std.specs.Prelude.{ℕ, suc, List, [], ◌∷◌, cond, eqb, take, drop}

-- the place of the first b in a list; its length where there is none
unfoldable pub index_of : ℕ → List ℕ → ℕ
index_of b [] = 0
index_of b (x ∷ l) = cond (eqb x b) 0 (suc (index_of b l))

-- the elements from place `from` on, up to place `to`
unfoldable pub slice : ℕ → ℕ → List ℕ → List ℕ
slice from to s = drop from (take to s)
