-- `packet_pad::lengths::length_of` meets its contract: by the sign of the number and the tests on it.
use mathlib.Core.Path.{◌≡◌}
use Rattle.opus_defines.specs.Numbers.{count_of}
use Rattle.std.specs.Prelude.{Some}
use Rattle.opus_defines.proofs.Counts.{counted}
use Rattle.packet_pad.proofs.Given.{length_none, length_over, length_most, length_is}
use Rattle.packet_pad.proofs.lengths.length_of.Goals as goal
use Rattle.packet_pad.proofs.lengths.length_of.Goals.{In-Some}

natural : (c : In-Some) → count_of c.args.len ≡ Some c.in-Some.n
natural c =
    counted c.args.len c.ranges.len c.count_of.ensures.is c.in-Some.is

pub returns-in_default : goal.returns-in_default
returns-in_default c =
    length_none c.args.«data».now c.args.len (counted c.args.len c.ranges.len c.count_of.ensures.is c.in_default.is)

pub returns-then-data-n : goal.returns-then-data-n
returns-then-data-n c =
    length_over c.args.«data».now c.args.len _ (natural (goal.at.returns-then-data-n c).In-Some) c.if-data-n.true

pub returns-then-n-gt-MOST_PACKET : goal.returns-then-n-gt-MOST_PACKET
returns-then-n-gt-MOST_PACKET c =
    length_most c.args.«data».now c.args.len _ (natural (goal.at.returns-then-n-gt-MOST_PACKET c).In-Some) c.if-data-n.false c.if-n-gt-MOST_PACKET.true

pub returns : goal.returns
returns c =
    length_is c.args.«data».now c.args.len _ (natural (goal.at.returns c).In-Some) c.if-data-n.false c.if-n-gt-MOST_PACKET.false
