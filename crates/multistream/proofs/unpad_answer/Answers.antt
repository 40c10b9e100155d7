-- `multistream::unpad_answer` meets its contract: by the number of streams and the length.
use native.Mathlib.Omega.{arith}
use mathlib.Core.Path.{◌≡◌, refl}
use Rattle.opus_defines.proofs.Outcomes.{meets}
use Rattle.packet_pad.specs.Lengths.{length_of}
use Rattle.packet_pad.proofs.Given.{length-told, length-within}
use Rattle.multistream.specs.Streams.{streams_of}
use Rattle.multistream.proofs.Counted.{streams_told}
use Rattle.multistream.proofs.Calls.{unpad_no_streams, unpad_none, unpad_some}
use Rattle.multistream.proofs.unpad_answer.Goals as goal
use Rattle.multistream.proofs.unpad_answer.Goals.{After-length_of-n, After-streams_of-streams}

streams : (c : After-streams_of-streams) → streams_of c.args.nb_streams ≡ c.streams_of-streams.result
streams c = streams_told c.args.nb_streams c.ranges.nb_streams c.streams_of-streams.ensures

told : (c : After-length_of-n) → length_of c.args.«data».now c.args.len ≡ c.length_of-n.result
told c =
    length-told c.args.«data».now c.args.len c.ranges.len c.length_of-n.ensures

pub returns-then-streams-eq0 : goal.returns-then-streams-eq0
returns-then-streams-eq0 c =
    let whole = meets (unpad_no_streams c.args.«data».now c.args.len c.args.nb_streams _
    (streams (goal.at.returns-then-streams-eq0 c).After-streams_of-streams) c.if-streams-eq0.true) refl refl in record { report = whole.0; bytes = whole.1 }

pub returns-then-n-eq0 : goal.returns-then-n-eq0
returns-then-n-eq0 c =
    let whole = meets (unpad_none c.args.«data».now c.args.len c.args.nb_streams _ (streams (goal.at.returns-then-n-eq0 c).After-streams_of-streams)
    c.if-streams-eq0.false _ (told (goal.at.returns-then-n-eq0 c).After-length_of-n) c.if-n-eq0.true) refl refl in
    record { report = whole.0; bytes = whole.1 }

pub unpad_streams-requires : goal.unpad_streams-requires
unpad_streams-requires c =
    let w = length-within c.args.«data».now c.args.len in (
      omega (arith, w, told (goal.at.unpad_streams-requires c).After-length_of-n),
      omega
          (arith, w, told (goal.at.unpad_streams-requires c).After-length_of-n),
      omega (arith, c.if-streams-eq0.false),
    )

pub returns : goal.returns
returns c =
    let is = unpad_some c.args.«data».now c.args.len c.args.nb_streams _ (streams (goal.at.returns c).After-streams_of-streams)
    c.if-streams-eq0.false _ (told (goal.at.returns c).After-length_of-n) c.if-n-eq0.false in
    let whole = meets is c.unpad_streams.ensures.report c.unpad_streams.ensures.bytes in record { report = whole.0; bytes = whole.1 }
