-- `packet_pad::unpad_answer` meets its contract: by the length.
use native.Mathlib.Omega.{arith}
use mathlib.Core.Path.{◌≡◌, refl}
use Rattle.opus_defines.proofs.Outcomes.{meets}
use Rattle.packet_pad.specs.Lengths.{length_of}
use Rattle.packet_pad.proofs.Given.{length-told, length-within}
use Rattle.packet_pad.proofs.Calls.{unpad_none, unpad_some}
use Rattle.packet_pad.proofs.unpad_answer.Goals as goal
use Rattle.packet_pad.proofs.unpad_answer.Goals.{After-length_of-n}

told : (c : After-length_of-n) → length_of c.args.«data».now c.args.len ≡ c.length_of-n.result
told c =
    length-told c.args.«data».now c.args.len c.ranges.len c.length_of-n.ensures

pub returns-then-n-eq0 : goal.returns-then-n-eq0
returns-then-n-eq0 c =
    let whole = meets (unpad_none c.args.«data».now c.args.len _ (told (goal.at.returns-then-n-eq0 c).After-length_of-n) c.if-n-eq0.true) refl refl
    in record { report = whole.0; bytes = whole.1 }

pub unpad_packet-requires : goal.unpad_packet-requires
unpad_packet-requires c =
    let w = length-within c.args.«data».now c.args.len in
    (omega (arith, w, told (goal.at.unpad_packet-requires c).After-length_of-n), omega (arith, w, told (goal.at.unpad_packet-requires c).After-length_of-n))

pub returns : goal.returns
returns c =
    let whole = meets (unpad_some c.args.«data».now c.args.len _ (told (goal.at.returns c).After-length_of-n) c.if-n-eq0.false)
    c.unpad_packet.ensures.report c.unpad_packet.ensures.bytes in record { report = whole.0; bytes = whole.1 }
