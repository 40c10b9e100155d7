-- `multistream::pad_last` meets its contract: the last stream is padded where it stands, if a byte is left for it.
use native.Mathlib.Omega.{arith}
use mathlib.Core.Path.{refl, ap}
use Rattle.opus_defines.specs.Outcome.{leaves}
use Rattle.opus_defines.proofs.Outcomes.{meets}
use Rattle.multistream.proofs.Calls.{last_none, last-behind, last_place}
use Rattle.multistream.proofs.pad_last.Goals as goal

pub returns-then-at-len : goal.returns-then-at-len
returns-then-at-len c =
    let whole = meets (ap (leaves c.args.«data».now) (last_none c.args.«data».now c.args.len c.args.new_len c.args.at (omega (arith, c.requires))
    c.if-at-len.true)) refl refl in record { report = whole.0; bytes = whole.1 }

pub shift_answer-requires : goal.shift_answer-requires
shift_answer-requires c =
    let place = last_place c.args.«data».now c.args.len c.args.new_len c.args.at (omega (arith, c.requires)) c.requires.0 c.if-at-len.false
    c.pad_packet-a.ensures.answer in
    omega (arith, place, c.requires)

pub returns : goal.returns
returns c =
    let whole = last-behind c.args.«data».now c.args.len c.args.new_len c.args.at (omega (arith, c.requires)) c.requires.0 c.if-at-len.false
    c.pad_packet-a.ensures.answer
    c.shift_answer.ensures c.pad_packet-a.ensures.bytes in record { report = whole.0; bytes = whole.1 }
