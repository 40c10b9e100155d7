-- `packet_pad::pad_answer` meets its contract: by what the two lengths ask for.
use mathlib.Core.Path.{◌≡◌, refl, ap, ◌∙◌}
use lib.ListN.{take}
use Rattle.opus_defines.specs.Numbers.{report_of}
use Rattle.opus_defines.proofs.Outcomes.{meets}
use Rattle.packet_pad.specs.Lengths.{lengths_of}
use Rattle.packet_pad.specs.Pad.{pad_packet}
use Rattle.packet_pad.specs.declared.lengths.Lengths.{Lengths}
use Rattle.packet_pad.proofs.Given.{lengths-told, more_within}
use Rattle.packet_pad.proofs.Calls.{pad_bad, pad_same, pad_more, report_answered}
use Rattle.packet_pad.proofs.pad_answer.Goals as goal
use Rattle.packet_pad.proofs.pad_answer.Goals.{After-lengths_of-l}

told : {k : Lengths} (c : After-lengths_of-l) → c.lengths_of-l.result ≡ k
    → lengths_of c.args.«data».now c.args.len c.args.new_len ≡ k
told c e =
    lengths-told c.args.«data».now c.args.len c.args.new_len c.ranges.len c.ranges.new_len c.lengths_of-l.ensures e

pub pad_packet-requires : goal.pad_packet-requires
pad_packet-requires c =
    let w = more_within c.args.«data».now c.args.len c.args.new_len _ _ (told (goal.at.pad_packet-requires c).After-lengths_of-l c.in-More.is) in
    (w.1, w.2, w.3)

pub returns-in-Bad : goal.returns-in-Bad
returns-in-Bad c =
    let whole = meets (pad_bad c.args.«data».now c.args.len c.args.new_len (told (goal.at.returns-in-Bad c).After-lengths_of-l c.in-Bad.is)) refl
    refl in record { report = whole.0; bytes = whole.1 }

pub returns-in-Same : goal.returns-in-Same
returns-in-Same c =
    let whole = meets (pad_same c.args.«data».now c.args.len c.args.new_len (told (goal.at.returns-in-Same c).After-lengths_of-l c.in-Same.is)) refl
    refl in record { report = whole.0; bytes = whole.1 }

pub returns-in-More : goal.returns-in-More
returns-in-More c =
    let whole = meets (pad_more c.args.«data».now c.args.len c.args.new_len c.in-More.n c.in-More.m
    (told (goal.at.returns-in-More c).After-lengths_of-l c.in-More.is))
    (ap report_of c.pad_packet.ensures.answer ∙ report_answered c.args.«data».now (pad_packet (take c.in-More.n c.args.«data».now) c.in-More.m))
    c.pad_packet.ensures.bytes in record { report = whole.0; bytes = whole.1 }
