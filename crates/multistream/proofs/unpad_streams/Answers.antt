-- `multistream::unpad_streams` meets its contract: all streams are read, and then rewritten.
use Prim.Native.Nat.{◌-◌}
use native.Mathlib.Omega.{arith}
use mathlib.Core.Path.{refl, sym, ap, ◌∙◌}
use lib.IntN.{pos}
use lib.ListN.{take, length-take}
use lib.Seq.{length-take-le}
use Rattle.laws.proofs.Bytes.{bytes_take}
use Rattle.opus_defines.specs.Numbers.{plain}
use Rattle.opus_defines.specs.Outcome.{leaves}
use Rattle.opus_defines.proofs.Outcomes.{meets}
use Rattle.multistream.specs.Parts.{verdict_by}
use Rattle.multistream.proofs.Bounds.{packed-within}
use Rattle.multistream.proofs.Calls.{unpad_refused, unpad_all}
use Rattle.multistream.proofs.unpad_streams.Goals as goal

pub slice_bounds-pass_all-end-2 : goal.slice_bounds-pass_all-end-2
slice_bounds-pass_all-end-2 c =
    sym (length-take-le _ _ c.requires.0)

pub pass_all-p-requires : goal.pass_all-p-requires
pass_all-p-requires c =
    omega (arith, length-take c.args.len c.args.«data».now, c.requires)

pub repack_streams-n-requires : goal.repack_streams-n-requires
repack_streams-n-requires c =
    (c.requires.0, c.requires.1, sym c.pass_all-p.ensures ∙ ap verdict_by c.in-Ok.is)

pub overflow_cast-result : goal.overflow_cast-result
overflow_cast-result c =
    let bytes = bytes_take c.args.len c.args.«data».now (record { byte = λ i. (c.slice_known-1.given i).fits }) in
    let h = packed-within (c.args.streams - 1) (take c.args.len c.args.«data».now) bytes in
    omega (arith, c.repack_streams-n.ensures.next, length-take c.args.len c.args.«data».now, c.requires)

pub returns-in-Ok : goal.returns-in-Ok
returns-in-Ok c =
    let is = unpad_all c.args.streams (take c.args.len c.args.«data».now) (sym c.pass_all-p.ensures ∙ ap verdict_by c.in-Ok.is) in
    let whole = meets (ap (leaves c.args.«data».now) is) (ap (λ n. plain (pos n)) c.repack_streams-n.ensures.next) c.repack_streams-n.ensures.bytes
    in record { report = whole.0; bytes = whole.1 }

pub returns-in-Err : goal.returns-in-Err
returns-in-Err c =
    let is = unpad_refused c.args.streams (take c.args.len c.args.«data».now) _ (sym c.pass_all-p.ensures ∙ ap verdict_by c.in-Err.is) in
    let whole = meets (ap (leaves c.args.«data».now) is) refl refl in record { report = whole.0; bytes = whole.1 }
