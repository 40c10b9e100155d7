-- What a record of a capture file is (document 02, M-101).
use Rattle.std.specs.Prelude.{ℕ, ◌≤◌, ◌/◌, ◌%◌, List, [], ◌∷◌, ◌++◌, length}

-- a line number, and a packet that came in by that line
pub record Entry : Type 0 where
  pub line : ℕ
  pub packet : List ℕ

-- a packet has 1 to 65,535 bytes
pub record Holds (e : Entry) : Type 0 where
  pub some : 1 ≤ length e.packet
  pub most : length e.packet ≤ 65535

-- the bytes of a record before its packet: mark, line and length
abbrev pub head_bytes : ℕ
head_bytes = 5

-- the record's bytes: the mark 4B 9D, the line, the length in two bytes, high byte first, and the packet
unfoldable pub written : Entry → List ℕ
written e = 0x4B ∷ 0x9D ∷ e.line ∷ (length e.packet / 256) ∷ (length e.packet % 256) ∷ e.packet

-- a file of records, one right behind another
unfoldable pub file_of : List Entry → List ℕ
file_of [] = []
file_of (e ∷ es) = written e ++ file_of es

abbrev pub HoldAll : List Entry → Type 0
HoldAll [] = Unit {0}
HoldAll (e ∷ es) = Holds e × HoldAll es
