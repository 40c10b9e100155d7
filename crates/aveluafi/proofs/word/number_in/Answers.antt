-- `aveluafi::word::number_in` meets its contract: below 2^31 the number itself, from there on 2^32 less.
use Prim.Native.Nat.{◌%◌}
use native.Mathlib.Omega.{arith}
use Rattle.aveluafi.proofs.Words.{signed_low, high_fits, high_cast, signed_high}
use Rattle.aveluafi.proofs.word.number_in.Goals as goal

pub returns-then-low-lt2147483648 : goal.returns-then-low-lt2147483648
returns-then-low-lt2147483648 c =
    signed_low (c.args.w % 4294967296) c.if-low-lt2147483648.true

pub overflow_sub-result : goal.overflow_sub-result
overflow_sub-result c =
    high_fits (c.args.w % 4294967296) (omega arith) c.if-low-lt2147483648.false

pub overflow_cast-result-3 : goal.overflow_cast-result-3
overflow_cast-result-3 c =
    high_cast (c.args.w % 4294967296) (omega arith) c.if-low-lt2147483648.false

pub returns : goal.returns
returns c =
    signed_high (c.args.w % 4294967296) (omega arith) c.if-low-lt2147483648.false
