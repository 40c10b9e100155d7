-- `opus::size_rule` meets its contract: by the flag for unequal lengths.
use Rattle.opus.proofs.AtPacket.{rule_equal, rule_unequal}
use Rattle.opus.proofs.size_rule.Goals as goal

pub returns-then-count_byte-eq0 : goal.returns-then-count_byte-eq0
returns-then-count_byte-eq0 c =
    rule_equal _ c.if-count_byte-eq0.true

pub returns : goal.returns
returns c =
    rule_unequal _ c.if-count_byte-eq0.false
