-- The length writer and the length reader by computation, with the numbers that they return (document 01, 'Lengths and the TOC byte').
-- Assumes nothing.
use Prim.Native.Nat.{ℕ}
use mathlib.Core.Path.{◌≡◌, refl}
use mathlib.Core.List.{List, [], ◌∷◌, map}
use lib.IntN.{ℤ, pos, negsuc}
use Rattle.opus_defines.specs.Numbers.{plain, refusal_report}
use Rattle.opus_defines.specs.declared.Refusal.{Refusal}
use Rattle.std.specs.Prelude.{Ok, Err, Result}
use Rattle.opus_defines.specs.Outcome.{Outcome}
use Rattle.opus_defines.specs.declared.Report.{Report}
use Rattle.opus_size.specs.Size.{length_field}
use Rattle.opus_size.specs.Answers.{encode_size, size_told, parse_size}
use Rattle.opus_size.specs.declared.Size.{Size}

-- a number, and the bytes of the buffer
abbrev leaves : ℤ → List ℕ → Outcome
leaves n s = record { report = plain n; bytes = s }

-- 0, 251, 252 and 1275 into just the room that they need; what is behind them stays
pub lengths-written : encode_size (pos 0) (7 ∷ []) ∷ encode_size (pos 251) (7 ∷ [])
    ∷ encode_size (pos 252) (7 ∷ 8 ∷ []) ∷ encode_size (pos 1275) (7 ∷ 8 ∷ []) ∷ encode_size (pos 251) (7 ∷ 8 ∷ 9 ∷ []) ∷ []
    ≡ leaves (pos 1) (0 ∷ []) ∷ leaves (pos 1) (0xfb ∷ [])
    ∷ leaves (pos 2) (0xfc ∷ 0x00 ∷ []) ∷ leaves (pos 2) (0xff ∷ 0xff ∷ []) ∷ leaves (pos 1) (0xfb ∷ 8 ∷ 9 ∷ []) ∷ []
unfolding encode_size length_field
lengths-written = refl

-- above 1275 or negative -1, also without room; then too little room -2
pub lengths_refused : encode_size (pos 1276) (7 ∷ 8 ∷ []) ∷ encode_size (negsuc 0) (7 ∷ 8 ∷ []) ∷ encode_size (negsuc 0) []
    ∷ encode_size (pos 0) [] ∷ encode_size (pos 252) (7 ∷ []) ∷ []
    ≡ leaves (negsuc 0) (7 ∷ 8 ∷ []) ∷ leaves (negsuc 0) (7 ∷ 8 ∷ []) ∷ leaves (negsuc 0) []
    ∷ leaves (negsuc 1) [] ∷ leaves (negsuc 1) (7 ∷ []) ∷ []
unfolding encode_size length_field
lengths_refused = refl

-- what the reader returns and the size beside it: the bytes used, or -1, the rule that it was told and 0 where the field is cut short (M-100)
pub record Told : Type 0 where
  pub report : Report
  pub bytes : ℕ
  pub size : ℕ

abbrev told : Result Size Refusal → Told
told (Ok r) = record { report = plain (pos r.bytes); bytes = r.bytes; size = r.size }
told (Err e) = record { report = refusal_report e; bytes = 0; size = 0 }

abbrev tells : ℕ → ℕ → Told
tells bytes size = record { report = plain (pos bytes); bytes = bytes; size = size }

abbrev cuts : ℕ → Told
cuts rule = record { report = record { number = negsuc 0; rule = rule; place = 0 }; bytes = 0; size = 0 }

pub lengths_read : map (λ (s : List ℕ). told (parse_size 4 s))
    ((0 ∷ []) ∷ (0xfb ∷ 0xaa ∷ []) ∷ (0xfc ∷ 0x00 ∷ []) ∷ (0xff ∷ 0xff ∷ 0xaa ∷ []) ∷ [] ∷ (0xfc ∷ []) ∷ [])
    ≡ tells 1 0 ∷ tells 1 251 ∷ tells 2 252 ∷ tells 2 1275 ∷ cuts 4 ∷ cuts 4 ∷ []
unfolding parse_size size_told
lengths_read = refl

-- told rule 4, 7 or 8; any other -1 without rule, whatever stands there
pub lengths-told : map (λ (told-rule : ℕ). told (parse_size told-rule (0xfc ∷ []))) (4 ∷ 7 ∷ 8 ∷ 5 ∷ 0 ∷ [])
    ≡ cuts 4 ∷ cuts 7 ∷ cuts 8 ∷ cuts 0 ∷ cuts 0 ∷ []
unfolding parse_size size_told
lengths-told = refl

pub lengths-told_otherwise : told (parse_size 5 (0 ∷ [])) ≡ cuts 0
unfolding parse_size
lengths-told_otherwise = refl
