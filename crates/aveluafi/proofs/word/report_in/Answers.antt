-- `aveluafi::word::report_in` meets its contract: each field as it was computed.
use Prim.Native.Nat.{◌%◌}
use native.Mathlib.Omega.{arith}
use mir.Syntax.{w32}
use mir.ValLaws.{to_z-of_z}
use Rattle.aveluafi.specs.Words.{signed}
use Rattle.aveluafi.proofs.Words.{signed-fits}
use Rattle.aveluafi.proofs.word.report_in.Goals as goal

pub returns : goal.returns
returns c =
    let low = c.args.w % 4294967296 in
    rw (c.number_in.ensures, to_z-of_z w32 (signed low) (signed-fits low (omega arith)))
