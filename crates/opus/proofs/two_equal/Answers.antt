-- `opus::two_equal` meets its contract: the frames share what is behind the TOC byte.
use Rattle.opus.proofs.AtShort.{equal_odd, equal_long, equal-fits}
use Rattle.opus.proofs.two_equal.Goals as goal

pub returns-then-rest-ne0 : goal.returns-then-rest-ne0
returns-then-rest-ne0 c =
    equal_odd c.args.«data».now c.requires.0 c.requires.1 c.if-rest-ne0.true

pub returns-then-each-gt-MOST_BYTES : goal.returns-then-each-gt-MOST_BYTES
returns-then-each-gt-MOST_BYTES c =
    equal_long c.args.«data».now c.requires.0 c.requires.1 c.if-rest-ne0.false c.if-each-gt-MOST_BYTES.true

pub returns : goal.returns
returns c =
    equal-fits c.args.«data».now c.requires.0 c.requires.1 c.if-rest-ne0.false c.if-each-gt-MOST_BYTES.false
