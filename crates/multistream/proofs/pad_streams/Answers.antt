-- `multistream::pad_streams` meets its contract: by what reading the first streams answers.
use Prim.Native.Nat.{◌-◌}
use native.Mathlib.Omega.{arith}
use mathlib.Core.Path.{refl, sym, ap, ◌∙◌}
use lib.ListN.{take, length-take}
use lib.Seq.{length-take-le}
use Rattle.laws.proofs.Bytes.{bytes_take}
use Rattle.opus_defines.specs.Outcome.{leaves}
use Rattle.opus_defines.proofs.Outcomes.{meets}
use Rattle.multistream.proofs.Bounds.{pass_within}
use Rattle.multistream.proofs.Calls.{pad_stuck, pad_last_lem}
use Rattle.multistream.proofs.pad_streams.Goals as goal

pub slice_bounds-pass_streams-end-2 : goal.slice_bounds-pass_streams-end-2
slice_bounds-pass_streams-end-2 c =
    sym (length-take-le _ _ (omega (arith, c.requires)))

pub pass_streams-p-requires : goal.pass_streams-p-requires
pass_streams-p-requires c =
    omega (arith, length-take c.args.len c.args.«data».now, c.requires)

pub pad_last-requires : goal.pad_last-requires
pad_last-requires c =
    let packet = take c.args.len c.args.«data».now in
    let bytes = bytes_take c.args.len c.args.«data».now (record { byte = λ i. (c.slice_known-1.given i).fits }) in
    let h = pass_within (c.args.streams - 1) packet c.in-Ok.at bytes (sym c.pass_streams-p.ensures ∙ c.in-Ok.is) in
    (omega (arith, h, length-take c.args.len c.args.«data».now), c.requires.0, c.requires.1, c.requires.2)

pub returns-in-Ok : goal.returns-in-Ok
returns-in-Ok c =
    let packet = take c.args.len c.args.«data».now in
    let is = pad_last_lem packet c.args.streams c.args.new_len c.in-Ok.at (sym c.pass_streams-p.ensures ∙ c.in-Ok.is) in
    let whole = meets (ap (leaves c.args.«data».now) is) c.pad_last.ensures.report c.pad_last.ensures.bytes in record { report = whole.0; bytes = whole.1 }

pub returns-in-Err : goal.returns-in-Err
returns-in-Err c =
    let packet = take c.args.len c.args.«data».now in let whole = meets
    (ap (leaves c.args.«data».now) (pad_stuck packet c.args.streams c.args.new_len _ (sym c.pass_streams-p.ensures ∙ c.in-Err.is))) refl refl in
    record { report = whole.0; bytes = whole.1 }
