-- `opus::read_into` meets its contract: by the tests on the length.
use mathlib.Core.Path.{◌∙◌}
use Rattle.opus.proofs.AtPacket.{parse_long, parse_empty, parse_read}
use Rattle.opus.proofs.Lent.{none-answered}
use Rattle.opus.proofs.read_into.Goals as goal

pub returns-then-data-gt-MOST_PACKET : goal.returns-then-data-gt-MOST_PACKET
returns-then-data-gt-MOST_PACKET c =
    parse_long c.args.self_delimited c.args.«data».now c.if-data-gt-MOST_PACKET.true

pub returns-then-data-eq0 : goal.returns-then-data-eq0
returns-then-data-eq0 c =
    none-answered _ _ _ c.broken_head.ensures ∙ parse_empty c.args.self_delimited c.args.«data».now c.if-data-eq0.true

pub returns : goal.returns
returns c =
    c.read_packet.ensures ∙ parse_read c.args.self_delimited c.args.«data».now c.if-data-gt-MOST_PACKET.false
