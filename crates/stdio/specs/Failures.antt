-- What is said on standard error, in ASCII.
use Rattle.std.specs.Prelude.{ℕ, List, [], ◌∷◌, ◌++◌}
use Rattle.show.specs.Text.{decimal}

-- "aveluafi: reading standard input failed after "
unfoldable pub read_label : List ℕ
read_label =
    97 ∷ 118 ∷ 101 ∷ 108 ∷ 117 ∷ 97 ∷ 102 ∷ 105 ∷ 58 ∷ 32 ∷ 114 ∷ 101 ∷ 97 ∷ 100 ∷ 105 ∷ 110 ∷ 103 ∷ 32
    ∷ 115 ∷ 116 ∷ 97 ∷ 110 ∷ 100 ∷ 97 ∷ 114 ∷ 100 ∷ 32 ∷ 105 ∷ 110 ∷ 112 ∷ 117 ∷ 116 ∷ 32
    ∷ 102 ∷ 97 ∷ 105 ∷ 108 ∷ 101 ∷ 100 ∷ 32 ∷ 97 ∷ 102 ∷ 116 ∷ 101 ∷ 114 ∷ 32 ∷ []

-- " bytes" and the end of the line
unfoldable pub bytes_label : List ℕ
bytes_label = 32 ∷ 98 ∷ 121 ∷ 116 ∷ 101 ∷ 115 ∷ 10 ∷ []

-- the line for a read that failed when n bytes had come
unfoldable pub read_failed : ℕ → List ℕ
read_failed n = read_label ++ (decimal n ++ bytes_label)
