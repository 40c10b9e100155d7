-- `packet_pad::unpad_packet` meets its contract: the packet is read, and its frames become the compact packet where they stand.
use native.Mathlib.Omega.{arith}
use mathlib.Core.Path.{refl, sym, ap}
use mathlib.Core.Bool.{false}
use lib.IntN.{pos}
use lib.Seq.{length-take-le}
use borrow.Author.Rules.{rules}
use Rattle.opus_defines.specs.Numbers.{plain}
use Rattle.opus_defines.specs.Outcome.{leaves}
use Rattle.std.proofs.lemmas.Result.{err_from_is_err_and}
use Rattle.opus.specs.Answers.{packet_with}
use Rattle.opus.proofs.Lent.{lent_accepted, lent_refused}
use Rattle.packet_pad.proofs.Framed.{Lies, lies}
use Rattle.opus_defines.proofs.Outcomes.{meets}
use Rattle.packet_pad.proofs.Calls.{unpad_read, unpad_refused}
use Rattle.packet_pad.proofs.unpad_packet.Goals as goal
use Rattle.packet_pad.proofs.unpad_packet.Goals.{In_ok-p}

lying : (c : In_ok-p) → Lies false c.args.«data».now c.args.len (packet_with c.in_ok-p.p c.read_into.new.lengths)
lying c =
    lies false c.args.«data».now c.args.len (packet_with c.in_ok-p.p c.read_into.new.lengths) (record { byte = λ i. search rules }) c.requires.0
    (lent_accepted false _ _ _ c.read_into.ensures _ c.in_ok-p.was)

pub slice_bounds-read_into-end-2 : goal.slice_bounds-read_into-end-2
slice_bounds-read_into-end-2 c =
    sym (length-take-le _ _ c.requires.0)

pub slice_bounds-lengths-end : goal.slice_bounds-lengths-end
slice_bounds-lengths-end c =
    (lying (goal.at.slice_bounds-lengths-end c).In_ok-p).inside

pub slice_bounds-compact_frames-end : goal.slice_bounds-compact_frames-end
slice_bounds-compact_frames-end c =
    sym (length-take-le _ _ (lying (goal.at.slice_bounds-compact_frames-end c).In_ok-p).inside)

pub compact_frames-bytes-requires : goal.compact_frames-bytes-requires
compact_frames-bytes-requires c =
    let l = lying (goal.at.compact_frames-bytes-requires c).In_ok-p in record {
      some = l.some;
      block = omega (arith, l.within, c.requires);
      short = l.short;
    }

-- the compact packet is no longer than the packet was
pub overflow_cast-result : goal.overflow_cast-result
overflow_cast-result c =
    omega (arith, c.compact_frames-bytes.ensures.next, (lying (goal.at.overflow_cast-result c).In_ok-p).least, c.requires)

pub returns : goal.returns
returns c =
    let whole = meets (ap (leaves c.args.«data».now) (unpad_read c.args.«data».now c.args.len
    (packet_with c.in_ok-p.p c.read_into.new.lengths) (lying (goal.at.returns c).In_ok-p)))
    (ap (λ n. plain (pos n)) c.compact_frames-bytes.ensures.next)
    c.compact_frames-bytes.ensures.bytes in record { report = whole.0; bytes = whole.1 }

pub returns-in_err-p : goal.returns-in_err-p
returns-in_err-p c =
    let whole = meets
    (ap (leaves c.args.«data».now)
    (unpad_refused c.args.«data».now c.args.len _ (lent_refused _ _ _ _ c.read_into.ensures _ c.in_err-p.was) c.requires.1))
    refl refl in
    let p = err_from_is_err_and c.from_residual.result c.from_residual.ensures.1 in record { report = rw (p.1, p.2) whole.0; bytes = whole.1 }
