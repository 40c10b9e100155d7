-- `opus_head::plain_head` meets its contract.
use native.Mathlib.Omega.{arith}
use mathlib.Core.Path.{◌≡◌}
use Prim.Native.Nat.{◌-◌}
use lib.ListN.{get_or}
use Rattle.opus_head.proofs.plain_head.Goals as goal

pub returns-then-channels-lt1 : goal.returns-then-channels-lt1
returns-then-channels-lt1 c =
    let none : 0 ≡ get_or c.args.«data».now 9 0 - 1 = omega arith in
    rw (← c.own_places-mapping.ensures, ← none) c.head_mapped.ensures

pub returns : goal.returns
returns c =
    rw (← c.own_places-mapping.ensures) c.head_mapped-2.ensures
