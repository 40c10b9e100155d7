-- `spelling::spell` meets its contract: the packet is read, and the frames that were read are spelled.
use mathlib.Core.Path.{refl, sym}
use borrow.Author.Rules.{rules}
use lib.ListN.{length}
use lib.Seq.{length-take-le}
use Rattle.opus.specs.Answers.{packet_with}
use Rattle.opus.proofs.Lent.{lent_accepted, lent_refused}
use Rattle.spelling.proofs.Telling.{refused_told, Readable, readable}
use Rattle.spelling.proofs.spell.Goals as goal
use Rattle.spelling.proofs.spell.Goals.{In-Ok}

reading : (c : In-Ok)
    → Readable c.args.packet.now (length c.args.work.now) (packet_with c.in-Ok.p c.read_into.new.lengths)
    (lent_accepted _ _ _ _ c.read_into.ensures _ c.in-Ok.is)
reading c = readable _ _ _ _ (record { byte = λ i. search rules })

pub slice_bounds-lengths-end : goal.slice_bounds-lengths-end
slice_bounds-lengths-end c =
    (reading (goal.at.slice_bounds-lengths-end c).In-Ok).inside

pub slice_bounds-spell_frames-end : goal.slice_bounds-spell_frames-end
slice_bounds-spell_frames-end c =
    sym (length-take-le _ _ (reading (goal.at.slice_bounds-spell_frames-end c).In-Ok).inside)

pub spell_frames-requires : goal.spell_frames-requires
spell_frames-requires c =
    let r = reading (goal.at.spell_frames-requires c).In-Ok in record {
      some = r.some;
      block = r.block;
    }

pub returns-in-Ok : goal.returns-in-Ok
returns-in-Ok c =
    let whole = (reading (goal.at.returns-in-Ok c).In-Ok).goes_by c.args.work.now c.spell_frames.ensures.taken c.spell_frames.ensures.bytes
    in record { taken = whole.0; bytes = whole.1 }

pub returns-in-Err : goal.returns-in-Err
returns-in-Err c =
    record {
      taken = refused_told _ _ (lent_refused _ _ _ _ c.read_into.ensures _ c.in-Err.is);
      bytes = refl;
    }
