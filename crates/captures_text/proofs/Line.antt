-- A record's line: how long it is at most.
-- Assumes nothing.
use Prim.Native.Nat.{◌≤◌, ◌<◌}
use native.Mathlib.Omega.{arith}
use lib.ListN.{length, length-append}
use Rattle.capture.specs.declared.NextRecord.{NextRecord}
use Rattle.show.proofs.Digits.{decimal_most}
use Rattle.captures_text.specs.Lines.{line_most, record_line}

pub line_most_lem : (a : NextRecord) → a.line < 256 → a.place < 65536 → a.length < 65536 → length (record_line a) ≤ line_most
unfolding record_line
line_most_lem a h k m =
    simp length-append
    (omega (arith, decimal_most a.line 2 (omega arith), decimal_most a.place 4 (omega arith), decimal_most a.length 4 (omega arith)))
