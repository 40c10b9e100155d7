-- What a read into a buffer may give.
use Rattle.std.specs.Prelude.{ℕ, ◌+◌, ◌≤◌, ◌≡◌, Result, Ok, Err}
use Rattle.stdio.specs.declared.ReadFailed.{ReadFailed}

-- bytes behind those that are held, within the buffer, or none at the end of the input; a read that failed leaves what was held
abbrev pub GotIn : ℕ → ℕ → Result ℕ ReadFailed → Type 0
GotIn room held (Ok n) = held + n ≤ room
GotIn room held (Err e) = e.held ≡ held

-- what is held behind reads, also where one failed
abbrev pub held_after : Result ℕ ReadFailed → ℕ
held_after (Ok n) = n
held_after (Err e) = e.held
