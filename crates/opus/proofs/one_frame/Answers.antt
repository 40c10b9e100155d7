-- `opus::one_frame` meets its contract: by the test on the length.
use Rattle.opus.proofs.AtShort.{one_long, one_fits}
use Rattle.opus.proofs.one_frame.Goals as goal

pub returns-then-rest-gt-MOST_BYTES : goal.returns-then-rest-gt-MOST_BYTES
returns-then-rest-gt-MOST_BYTES c =
    one_long c.args.«data».now c.requires.0 c.requires.1 c.if-rest-gt-MOST_BYTES.true

pub returns : goal.returns
returns c =
    one_fits c.args.«data».now c.requires.0 c.requires.1 c.if-rest-gt-MOST_BYTES.false
