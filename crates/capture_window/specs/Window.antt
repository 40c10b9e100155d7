-- How much of what is held of a capture can be told, when more may follow (beyond document 02).
use Rattle.std.specs.Prelude.{ℕ, zero, suc, ◌+◌, List, cond, eqb, leb, length, drop}
use Rattle.capture.specs.Records.{head_bytes}
use Rattle.capture.specs.Finding.{packet_length}

-- the bytes of the longest record, which tell what stands at a place
abbrev pub window : ℕ
window = 65540

-- the bytes that are settled at the front of s: each record that is held whole; and each byte at whose place none stands, where a window is held from there
-- on; up to the first place of which neither holds. At most `most` of them
unfoldable pub settled_in : ℕ → List ℕ → ℕ
settled_in zero s = 0
settled_in (suc most) s =
    cond (eqb (packet_length s) 0) (cond (leb window (length s)) (suc (settled_in most (drop 1 s))) 0)
    (head_bytes + packet_length s + settled_in most (drop (head_bytes + packet_length s) s))

unfoldable pub settled : List ℕ → ℕ
settled s = settled_in (length s) s
