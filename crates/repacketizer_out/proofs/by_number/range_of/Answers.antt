-- `repacketizer_out::by_number::range_of` meets its contract: by the tests of the code.
use Prim.Native.Nat.{◌≤◌}
use mathlib.Core.Path.{◌∙◌}
use native.Mathlib.Omega.{arith}
use Rattle.opus_defines.proofs.Counts.{counted, is_natural}
use Rattle.repacketizer_out.proofs.Numbered.{range_many, range_negative, range_high, range_low}
use Rattle.repacketizer_out.proofs.by_number.range_of.Goals as goal

pub returns-then-held-gt48 : goal.returns-then-held-gt48
returns-then-held-gt48 c =
    c.no_range.ensures ∙ range_many c.args.n c.args.packet.now c.args.number (omega (arith, c.wide-held.ensures.0, c.if-held-gt48.true))

pub returns-in_default : goal.returns-in_default
returns-in_default c =
    c.no_range-in_default.ensures
    ∙ range_negative c.args.n c.args.packet.now c.args.number
    (counted c.args.number c.ranges.number c.count_of.ensures.is c.in_default.is)

pub returns-then-k-ge48 : goal.returns-then-k-ge48
returns-then-k-ge48 c =
    let few : c.args.n ≤ 48 = omega (arith, c.wide-held.ensures.0, c.if-held-gt48.false) in
    let natural = is_natural c.args.number _ (counted c.args.number c.ranges.number c.count_of.ensures.is c.in-Some.is) in
    c.no_range-then-k-ge48.ensures ∙ range_high c.args.n c.args.packet.now c.args.number few _ natural c.if-k-ge48.true

pub returns : goal.returns
returns c =
    let few : c.args.n ≤ 48 = omega (arith, c.wide-held.ensures.0, c.if-held-gt48.false) in
    let natural = is_natural c.args.number _ (counted c.args.number c.ranges.number c.count_of.ensures.is c.in-Some.is) in
    c.range_in.ensures ∙ range_low c.args.n c.args.packet.now c.args.number few _ natural c.if-k-ge48.false c.wide-held.ensures.0
