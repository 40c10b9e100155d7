-- The text of a small capture by computation: a byte, a record of line 65 at place 1 with 2 bytes, a byte, and a record of line 7 at place 9 with 1.
-- Assumes nothing.
use Prim.Native.Nat.{ℕ}
use mathlib.Core.Path.{◌≡◌, refl}
use mathlib.Core.List.{List, [], ◌∷◌}
use Rattle.capture.specs.Finding.{packet_length, before, record_from, next_record}
use Rattle.capture.specs.Reading.{record_bytes, readings_in}
use Rattle.show.specs.Text.{places, decimal}
use Rattle.captures_text.specs.Lines.{record_line, record_lines, capture_text}

abbrev sample : List ℕ
sample = 9 ∷ 0x4B ∷ 0x9D ∷ 65 ∷ 0 ∷ 2 ∷ 8 ∷ 9 ∷ 5 ∷ 0x4B ∷ 0x9D ∷ 7 ∷ 0 ∷ 1 ∷ 0xaa ∷ []

-- "65 1 2", "7 9 1"
pub example_text : capture_text sample ≡ 54 ∷ 53 ∷ 32 ∷ 49 ∷ 32 ∷ 50 ∷ 10 ∷ 55 ∷ 32 ∷ 57 ∷ 32 ∷ 49 ∷ 10 ∷ []
unfolding capture_text record_lines record_line readings_in next_record record_from before packet_length record_bytes decimal places
example_text = refl

-- an empty capture prints nothing
pub empty_text : capture_text [] ≡ []
unfolding capture_text record_lines readings_in next_record record_from before packet_length
empty_text = refl
