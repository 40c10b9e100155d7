-- `packet_judge::weigh_whole` meets its contract: the packet is read, and what was read is judged.
use mathlib.Core.Path.{sym, ◌∙◌}
use borrow.Author.Rules.{rules}
use lib.Seq.{length-take-le}
use Rattle.opus.specs.Answers.{packet_with}
use Rattle.opus.proofs.Lent.{lent_accepted, lent_refused}
use Rattle.packet_judge.proofs.Telling.{refused_told, refused_least, Readable, readable}
use Rattle.packet_judge.proofs.weigh_whole.Goals as goal
use Rattle.packet_judge.proofs.weigh_whole.Goals.{In-Ok}

reading : (c : In-Ok)
    → Readable c.args.self_delimited c.args.«data».now (packet_with c.in-Ok.p c.read_into.new.lengths)
    (lent_accepted _ _ _ _ c.read_into.ensures _ c.in-Ok.is)
reading c = readable _ _ _ _ (record { byte = λ i. search rules })

pub slice_bounds-lengths-end : goal.slice_bounds-lengths-end
slice_bounds-lengths-end c =
    (reading (goal.at.slice_bounds-lengths-end c).In-Ok).inside

pub slice_bounds-weigh_read-end : goal.slice_bounds-weigh_read-end
slice_bounds-weigh_read-end c =
    sym (length-take-le _ _ (reading (goal.at.slice_bounds-weigh_read-end c).In-Ok).inside)

pub weigh_read-requires : goal.weigh_read-requires
weigh_read-requires c =
    let r = reading (goal.at.weigh_read-requires c).In-Ok in record {
      some = r.some;
      block = r.block;
    }

pub returns-in-Ok : goal.returns-in-Ok
returns-in-Ok c =
    let r = reading (goal.at.returns-in-Ok c).In-Ok in record {
      verdict = r.goes_by (c.weigh_read.ensures.verdict c.in-Ok.p.toc);
      least = r.least_by (c.weigh_read.ensures.least c.in-Ok.p.toc);
    }

pub returns-in-Err : goal.returns-in-Err
returns-in-Err c =
    let e = lent_refused _ _ _ _ c.read_into.ensures _ c.in-Err.is in record {
      verdict = c.refused.ensures ∙ refused_told _ _ _ e;
      least = refused_least _ _ _ e;
    }
