-- A file of records, one right behind another, and the answers for them, record by record.
-- Assumes nothing.
use mathlib.Core.Path.{◌≡◌, refl}
use mathlib.Core.List.{List, [], ◌∷◌, ◌++◌}
use Prim.Native.Nat.{ℕ, ◌+◌, ◌/◌, ◌%◌}
use lib.ListN.{length}
use Rattle.std.specs.Prelude.{Ok}
use Rattle.capture.specs.Records.{Entry, written, file_of}
use Rattle.capture.specs.Reading.{answers_for}

-- the head and the packet
pub written-parts : (e : Entry)
    → written e ≡ (0x4B ∷ 0x9D ∷ e.line ∷ (length e.packet / 256) ∷ (length e.packet % 256) ∷ []) ++ e.packet
unfolding written
written-parts e = refl

pub file_none : file_of [] ≡ []
unfolding file_of
file_none = refl

pub file_one : (e : Entry) (es : List Entry) → file_of (e ∷ es) ≡ written e ++ file_of es
unfolding file_of
file_one e es = refl

pub answers_none : (at : ℕ) → answers_for at [] ≡ record { verdict = Ok tt; line = 0; place = at; length = 0; passed = 0 } ∷ []
unfolding answers_for
answers_none at = refl

pub answers_one : (at : ℕ) (e : Entry) (es : List Entry)
    → answers_for at (e ∷ es)
    ≡ record { verdict = Ok tt; line = e.line; place = at; length = length e.packet; passed = 0 }
    ∷ answers_for (at + (5 + length e.packet)) es
unfolding answers_for
answers_one at e es = refl
