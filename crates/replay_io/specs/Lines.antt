-- What is put in a line, in ASCII: 32 is a space, 45 is '-', 48 is '0', and 87 + 10 is 'a'.
use Rattle.std.specs.Prelude.{◌≡◌, ℕ, ◌+◌, ◌/◌, ◌%◌, ◌≤◌, List, [], ◌∷◌, ◌++◌, length, cond, ltb}
use Rattle.std.specs.List.{flat_map}
use Rattle.show.specs.Text.{decimal, integer}
use Rattle.opus_defines.specs.declared.Report.{Report}
use Rattle.replay_io.specs.declared.output.TheConstants.{ROOM}

-- bytes are put behind what is held, where there is room for all of them
abbrev pub Puts : List ℕ → List ℕ → List ℕ → Type 0
Puts held new bytes = length held + length bytes ≤ ROOM → new ≡ held ++ bytes

-- a number behind a space
abbrev pub field : ℕ → List ℕ
field n = 32 ∷ decimal n

abbrev pub fields : List ℕ → List ℕ
fields ns = flat_map field ns

-- number, rule and place
abbrev pub report : Report → List ℕ
report r = integer r.number ++ field r.rule ++ field r.place

abbrev pub hex_digit : ℕ → ℕ
hex_digit d = cond (ltb d 10) (48 + d) (87 + d)

abbrev pub hex_byte : ℕ → List ℕ
hex_byte b = hex_digit (b / 16) ∷ hex_digit (b % 16) ∷ []

abbrev pub hex : List ℕ → List ℕ
hex bs = flat_map hex_byte bs

abbrev pub buffer : List ℕ → List ℕ
buffer [] = 45 ∷ []
buffer (b ∷ bs) = hex (b ∷ bs)
