-- The words of the listing, in ASCII.
use Rattle.std.specs.Prelude.{ℕ, List, [], ◌∷◌}

-- "toc "
abbrev pub toc_label : List ℕ
toc_label = 116 ∷ 111 ∷ 99 ∷ 32 ∷ []

-- "count "
abbrev pub count_label : List ℕ
count_label = 99 ∷ 111 ∷ 117 ∷ 110 ∷ 116 ∷ 32 ∷ []

-- "time "
abbrev pub time_label : List ℕ
time_label = 116 ∷ 105 ∷ 109 ∷ 101 ∷ 32 ∷ []

-- "payload "
abbrev pub payload_label : List ℕ
payload_label = 112 ∷ 97 ∷ 121 ∷ 108 ∷ 111 ∷ 97 ∷ 100 ∷ 32 ∷ []

-- "packet "
abbrev pub packet_label : List ℕ
packet_label = 112 ∷ 97 ∷ 99 ∷ 107 ∷ 101 ∷ 116 ∷ 32 ∷ []

-- "compact "
abbrev pub compact_label : List ℕ
compact_label = 99 ∷ 111 ∷ 109 ∷ 112 ∷ 97 ∷ 99 ∷ 116 ∷ 32 ∷ []

-- "frame "
abbrev pub frame_label : List ℕ
frame_label = 102 ∷ 114 ∷ 97 ∷ 109 ∷ 101 ∷ 32 ∷ []

-- " at "
abbrev pub at_label : List ℕ
at_label = 32 ∷ 97 ∷ 116 ∷ 32 ∷ []

-- " length "
abbrev pub length_label : List ℕ
length_label = 32 ∷ 108 ∷ 101 ∷ 110 ∷ 103 ∷ 116 ∷ 104 ∷ 32 ∷ []
