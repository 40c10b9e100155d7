-- `opus_head::bytes_needed` meets its contract: by the family that was tested.
use native.Mathlib.Omega.{arith}
use mathlib.Core.Path.{sym}
use Rattle.opus_head.proofs.Fitting.{needed-plain, needed-table}
use Rattle.opus_head.proofs.bytes_needed.Goals as goal

pub returns-then-family-eq0 : goal.returns-then-family-eq0
returns-then-family-eq0 c =
    record {
      is = sym (needed-plain c.args.family c.args.channels c.if-family-eq0.true);
      few = omega arith;
    }

pub returns : goal.returns
returns c =
    record {
      is = omega (arith, c.wide_byte.ensures.0, needed-table c.args.family c.args.channels c.if-family-eq0.false);
      few = omega (arith, c.wide_byte.ensures.1);
    }
