-- The line for a read that failed is no longer than its buffer.
-- Assumes nothing.
use Prim.Native.Nat.{ℕ, ◌^◌, ◌≤◌, ◌<◌}
use native.Mathlib.Omega.{arith}
use lib.ListN.{length, length-append}
use Rattle.show.proofs.Digits.{decimal_most}
use Rattle.stdio.specs.Failures.{read_label, bytes_label, read_failed}

pub line_most : (n : ℕ) → n < 2 ^ 64 → length (read_failed n) ≤ 73
unfolding read_failed read_label bytes_label
line_most n h = simp length-append (omega (arith, decimal_most n 19 (omega arith)))
