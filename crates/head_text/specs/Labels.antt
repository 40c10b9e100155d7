-- The words of the header's text, in ASCII.
use Rattle.std.specs.Prelude.{ℕ, List, [], ◌∷◌}

-- "version "
abbrev pub version_label : List ℕ
version_label = 118 ∷ 101 ∷ 114 ∷ 115 ∷ 105 ∷ 111 ∷ 110 ∷ 32 ∷ []

-- "channels "
abbrev pub channels_label : List ℕ
channels_label = 99 ∷ 104 ∷ 97 ∷ 110 ∷ 110 ∷ 101 ∷ 108 ∷ 115 ∷ 32 ∷ []

-- "pre-skip "
abbrev pub skip_label : List ℕ
skip_label = 112 ∷ 114 ∷ 101 ∷ 45 ∷ 115 ∷ 107 ∷ 105 ∷ 112 ∷ 32 ∷ []

-- " samples" and the end of the line
abbrev pub samples_end : List ℕ
samples_end = 32 ∷ 115 ∷ 97 ∷ 109 ∷ 112 ∷ 108 ∷ 101 ∷ 115 ∷ 10 ∷ []

-- "input rate "
abbrev pub rate_label : List ℕ
rate_label = 105 ∷ 110 ∷ 112 ∷ 117 ∷ 116 ∷ 32 ∷ 114 ∷ 97 ∷ 116 ∷ 101 ∷ 32 ∷ []

-- " Hz" and the end of the line
abbrev pub hertz_end : List ℕ
hertz_end = 32 ∷ 72 ∷ 122 ∷ 10 ∷ []

-- "gain "
abbrev pub gain_label : List ℕ
gain_label = 103 ∷ 97 ∷ 105 ∷ 110 ∷ 32 ∷ []

-- " in 1/256 dB" and the end of the line
abbrev pub gain_end : List ℕ
gain_end = 32 ∷ 105 ∷ 110 ∷ 32 ∷ 49 ∷ 47 ∷ 50 ∷ 53 ∷ 54 ∷ 32 ∷ 100 ∷ 66 ∷ 10 ∷ []

-- "family "
abbrev pub family_label : List ℕ
family_label = 102 ∷ 97 ∷ 109 ∷ 105 ∷ 108 ∷ 121 ∷ 32 ∷ []

-- "streams "
abbrev pub streams_label : List ℕ
streams_label = 115 ∷ 116 ∷ 114 ∷ 101 ∷ 97 ∷ 109 ∷ 115 ∷ 32 ∷ []

-- "coupled "
abbrev pub coupled_label : List ℕ
coupled_label = 99 ∷ 111 ∷ 117 ∷ 112 ∷ 108 ∷ 101 ∷ 100 ∷ 32 ∷ []

-- "mapping"
abbrev pub mapping_label : List ℕ
mapping_label = 109 ∷ 97 ∷ 112 ∷ 112 ∷ 105 ∷ 110 ∷ 103 ∷ []
