-- `packet_pad::pad_packet` meets its contract: the packet is read, and its frames are padded where they stand.
use native.Mathlib.Omega.{arith}
use mathlib.Core.Path.{sym, ap, ◌∙◌}
use mathlib.Core.Bool.{false}
use lib.Seq.{length-take-le}
use borrow.Author.Rules.{rules}
use Rattle.opus_defines.specs.Outcome.{leaves}
use Rattle.std.proofs.lemmas.Result.{err_from_is_err_and}
use Rattle.opus.specs.Answers.{packet_with}
use Rattle.opus.proofs.Lent.{lent_accepted, lent_refused}
use Rattle.packet_pad.specs.Pad.{answered}
use Rattle.packet_pad.proofs.Framed.{Lies, lies}
use Rattle.packet_pad.proofs.Calls.{pad_read, pad_refused}
use Rattle.packet_pad.proofs.pad_packet.Goals as goal
use Rattle.packet_pad.proofs.pad_packet.Goals.{In_ok-p}

lying : (c : In_ok-p) → Lies false c.args.«data».now c.args.len (packet_with c.in_ok-p.p c.read_into.new.lengths)
lying c =
    lies false c.args.«data».now c.args.len (packet_with c.in_ok-p.p c.read_into.new.lengths) (record { byte = λ i. search rules })
    (omega (arith, c.requires))
    (lent_accepted false _ _ _ c.read_into.ensures _ c.in_ok-p.was)

pub slice_bounds-read_into-end-2 : goal.slice_bounds-read_into-end-2
slice_bounds-read_into-end-2 c =
    sym (length-take-le _ _ (omega arith))

pub slice_bounds-lengths-end : goal.slice_bounds-lengths-end
slice_bounds-lengths-end c =
    (lying (goal.at.slice_bounds-lengths-end c).In_ok-p).inside

pub slice_bounds-pad_frames-end : goal.slice_bounds-pad_frames-end
slice_bounds-pad_frames-end c =
    sym (length-take-le _ _ (lying (goal.at.slice_bounds-pad_frames-end c).In_ok-p).inside)

pub pad_frames-requires : goal.pad_frames-requires
pad_frames-requires c =
    let l = lying (goal.at.pad_frames-requires c).In_ok-p in record {
      some = l.some;
      block = omega (arith, l.within, c.requires);
      room = (omega (arith, l.within, l.short, c.requires), c.requires.1, c.requires.2);
    }

pub returns : goal.returns
returns c =
    let is = pad_read c.args.«data».now c.args.len (packet_with c.in_ok-p.p c.read_into.new.lengths)
    (lying (goal.at.returns c).In_ok-p) c.args.new_len in record {
      answer = sym (ap answered is);
      bytes = c.pad_frames.ensures ∙ sym (ap (λ x. (leaves c.args.«data».now x).bytes) is);
    }

pub returns-in_err-p : goal.returns-in_err-p
returns-in_err-p c =
    let is = pad_refused c.args.«data».now c.args.len _ (lent_refused _ _ _ _ c.read_into.ensures _ c.in_err-p.was)
    (omega (arith, c.requires)) c.args.new_len in
    let p = err_from_is_err_and c.from_residual.result c.from_residual.ensures.1 in record {
      answer = rw (p.1, p.2) (sym (ap answered is));
      bytes = sym (ap (λ x. (leaves c.args.«data».now x).bytes) is);
    }
