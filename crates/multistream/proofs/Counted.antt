-- The number of streams as C hands it over.
--     streams_none, streams_many, streams_some     what `streams_of` answers, by the tests of the code
--     streams_told                                 what a caller of it knows
-- Assumes nothing.
use Prim.Native.Nat.{ℕ, ◌≤◌, ◌<◌}
use mathlib.Core.Path.{◌≡◌, refl, sym}
use lib.IntN.{ℤ, pos, negsuc}
use mir.Syntax.{w32}
use mir.Val.{to_z, of_z, SFits}
use mir.ValLaws.{to_z-of_z}
use borrow.Author.Tests.{lt-ltb, le-ltb}
use Rattle.laws.proofs.Never.{never}
use Rattle.opus_defines.specs.Numbers.{count_of}
use Rattle.std.specs.Prelude.{None, Some}
use Rattle.opus_defines.proofs.Counts.{counted, is_natural}
use Rattle.multistream.specs.Streams.{streams_of}

pub streams_none : (x : ℤ) → count_of x ≡ None → 0 ≡ streams_of x
streams_none (pos n) e = never (cc)
streams_none (negsuc n) e = refl

pub streams_many : (x : ℤ) (n : ℕ) → count_of x ≡ Some n → 255 < n → 0 ≡ streams_of x
streams_many x n e h = rw (is_natural x n e, lt-ltb 255 n h)

pub streams_some : (x : ℤ) (n : ℕ) → count_of x ≡ Some n → n ≤ 255 → n ≡ streams_of x
streams_some x n e h = rw (is_natural x n e, le-ltb 255 n h)

pub streams_told : (x : ℤ) → SFits w32 x → {k : ℕ} → k ≡ streams_of (to_z w32 (of_z w32 x)) → streams_of x ≡ k
streams_told x f e = sym (rw (to_z-of_z w32 x f) at e)

-- what `streams_of` is proved by
pub ruleset by_count = (streams_none, streams_many, streams_some, counted)
