-- `repacketizer_out::by_number::range_in` meets its contract: numbers below k, and below the next.
use Prim.Native.Nat.{◌≤◌}
use mathlib.Core.Path.{sym}
use native.Mathlib.Omega.{arith}
use lib.ListN.{length, take}
use lib.Seq.{length-take-le}
use Rattle.repacketizer_out.proofs.Numbered.{range-signed}
use Rattle.repacketizer_out.proofs.by_number.range_in.Goals as goal

pub slice_bounds-count_below-end : goal.slice_bounds-count_below-end
slice_bounds-count_below-end c =
    sym (length-take-le c.args.n c.args.packet.now c.requires.0)

pub count_below-begin-requires : goal.count_below-begin-requires
count_below-begin-requires c =
    omega (arith, c.requires.1, length-take-le c.args.n c.args.packet.now c.requires.0)

pub slice_bounds-count_below-end-2 : goal.slice_bounds-count_below-end-2
slice_bounds-count_below-end-2 c =
    sym (length-take-le c.args.n c.args.packet.now c.requires.0)

pub count_below-end-requires : goal.count_below-end-requires
count_below-end-requires c =
    omega (arith, c.requires.1, length-take-le c.args.n c.args.packet.now c.requires.0)

pub returns : goal.returns
returns c =
    let few : length (take c.args.n c.args.packet.now) ≤ 48 =
    omega (arith, c.requires.1, length-take-le c.args.n c.args.packet.now c.requires.0) in
    range-signed c.args.k (take c.args.n c.args.packet.now) few c.count_below-begin.ensures c.count_below-end.ensures
