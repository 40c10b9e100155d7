-- `opus_head::write_answer` meets its contract: at each way out, the tests on the way say what `head_write` is.
use native.Mathlib.Omega.{arith}
use mathlib.Core.Path.{refl}
use Rattle.opus_defines.proofs.Outcomes.{meets}
use Rattle.opus_head.specs.Parts.{fields_of}
use Rattle.opus_head.proofs.Fitting.{ruled_as}
use Rattle.opus_head.proofs.Answered.{write_version, write_unruled, no_room, wrote}
use Rattle.opus_head.proofs.write_answer.Goals as goal

pub returns-then-version-ne1 : goal.returns-then-version-ne1
returns-then-version-ne1 c =
    let h = fields_of c.args.version c.args.channels c.args.pre_skip c.args.rate c.args.gain c.args.family c.args.streams c.args.coupled
    c.args.mapping.now in let whole = meets (write_version h c.args.dst.now c.if-version-ne1.true) refl refl in record { says = whole.0; bytes = whole.1 }

pub returns-then-not-fields_fit : goal.returns-then-not-fields_fit
returns-then-not-fields_fit c =
    let h = fields_of c.args.version c.args.channels c.args.pre_skip c.args.rate c.args.gain c.args.family c.args.streams c.args.coupled
    c.args.mapping.now in let whole = meets (write_unruled h c.args.dst.now c.if-version-ne1.false
    (ruled_as h c.fields_fit.ensures (c.if-not-fields_fit.true))) refl refl in record { says = whole.0; bytes = whole.1 }

pub returns-then-dst-need : goal.returns-then-dst-need
returns-then-dst-need c =
    let h = fields_of c.args.version c.args.channels c.args.pre_skip c.args.rate c.args.gain c.args.family c.args.streams c.args.coupled
    c.args.mapping.now in let whole = no_room h c.args.dst.now c.if-version-ne1.false
    (ruled_as h c.fields_fit.ensures (c.if-not-fields_fit.false))
    (omega (arith, c.ranges.channels.fits)) c.bytes_needed-need.ensures.is c.if-dst-need.true in record { says = whole.0; bytes = whole.1 }

pub returns : goal.returns
returns c =
    let h = fields_of c.args.version c.args.channels c.args.pre_skip c.args.rate c.args.gain c.args.family c.args.streams c.args.coupled
    c.args.mapping.now in let whole = wrote h c.args.dst.now c.if-version-ne1.false
    (ruled_as h c.fields_fit.ensures (c.if-not-fields_fit.false))
    (omega (arith, c.ranges.channels.fits)) c.bytes_needed-need.ensures.is c.if-dst-need.false c.ranges.gain c.put_head.ensures in
    record { says = whole.0; bytes = whole.1 }
