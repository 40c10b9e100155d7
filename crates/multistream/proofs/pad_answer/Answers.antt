-- `multistream::pad_answer` meets its contract: by the number of streams, and by what the two lengths ask for.
use native.Mathlib.Omega.{arith}
use mathlib.Core.Path.{◌≡◌, refl}
use Rattle.opus_defines.proofs.Outcomes.{meets}
use Rattle.packet_pad.specs.Lengths.{lengths_of}
use Rattle.packet_pad.specs.declared.lengths.Lengths.{Lengths}
use Rattle.packet_pad.proofs.Given.{lengths-told, more_within}
use Rattle.multistream.specs.Streams.{streams_of}
use Rattle.multistream.proofs.Counted.{streams_told}
use Rattle.multistream.proofs.Calls.{pad_no_streams, pad_bad, pad_same, pad_more}
use Rattle.multistream.proofs.pad_answer.Goals as goal
use Rattle.multistream.proofs.pad_answer.Goals.{After-lengths_of-l, After-streams_of-streams}

streams : (c : After-streams_of-streams) → streams_of c.args.nb_streams ≡ c.streams_of-streams.result
streams c = streams_told c.args.nb_streams c.ranges.nb_streams c.streams_of-streams.ensures

told : {k : Lengths} (c : After-lengths_of-l) → c.lengths_of-l.result ≡ k
    → lengths_of c.args.«data».now c.args.len c.args.new_len ≡ k
told c e =
    lengths-told c.args.«data».now c.args.len c.args.new_len c.ranges.len c.ranges.new_len c.lengths_of-l.ensures e

pub returns-then-streams-eq0 : goal.returns-then-streams-eq0
returns-then-streams-eq0 c =
    let whole = meets (pad_no_streams c.args.«data».now c.args.len c.args.new_len c.args.nb_streams _
    (streams (goal.at.returns-then-streams-eq0 c).After-streams_of-streams) c.if-streams-eq0.true) refl refl in record { report = whole.0; bytes = whole.1 }

pub pad_streams-requires : goal.pad_streams-requires
pad_streams-requires c =
    let w = more_within c.args.«data».now c.args.len c.args.new_len _ _ (told (goal.at.pad_streams-requires c).After-lengths_of-l c.in-More.is) in
    (w.1, w.2, w.3, omega (arith, c.if-streams-eq0.false))

pub returns-in-Bad : goal.returns-in-Bad
returns-in-Bad c =
    let is = pad_bad c.args.«data».now c.args.len c.args.new_len c.args.nb_streams _ (streams (goal.at.returns-in-Bad c).After-streams_of-streams)
    c.if-streams-eq0.false (told (goal.at.returns-in-Bad c).After-lengths_of-l c.in-Bad.is) in let whole = meets is refl refl in
    record { report = whole.0; bytes = whole.1 }

pub returns-in-Same : goal.returns-in-Same
returns-in-Same c =
    let is = pad_same c.args.«data».now c.args.len c.args.new_len c.args.nb_streams _ (streams (goal.at.returns-in-Same c).After-streams_of-streams)
    c.if-streams-eq0.false (told (goal.at.returns-in-Same c).After-lengths_of-l c.in-Same.is) in let whole = meets is refl refl in
    record { report = whole.0; bytes = whole.1 }

pub returns-in-More : goal.returns-in-More
returns-in-More c =
    let is = pad_more c.args.«data».now c.args.len c.args.new_len c.args.nb_streams _ (streams (goal.at.returns-in-More c).After-streams_of-streams)
    c.if-streams-eq0.false _ _ (told (goal.at.returns-in-More c).After-lengths_of-l c.in-More.is) in
    let whole = meets is c.pad_streams.ensures.report c.pad_streams.ensures.bytes in record { report = whole.0; bytes = whole.1 }
