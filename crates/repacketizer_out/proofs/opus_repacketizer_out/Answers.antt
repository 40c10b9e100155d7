-- `repacketizer_out::opus_repacketizer_out` meets its contract: it is the output of all frames held.
use mathlib.Core.Path.{◌≡◌, ◌∙◌}
use mathlib.Core.Bool.{false}
use borrow.Author.Rules.{rules}
use lib.IntN.{pos}
use mir.Syntax.{w32}
use mir.Val.{to_z, of_z, SFits}
use Rattle.opus_defines.proofs.Outcomes.{meets_number}
use Rattle.repacketizer_out.proofs.Outputs.{out_passed}
use Rattle.repacketizer_out.proofs.opus_repacketizer_out.Goals as goal
use Rattle.repacketizer_out.proofs.opus_repacketizer_out.Goals.{Start}

-- the count, as an `i32`
count : (c : Start) → SFits w32 (pos c.args.rp.nb_frames)
count c = search rules

pub returns : goal.returns
returns c =
    let back : to_z w32 (of_z w32 c.opus_repacketizer_out_range_impl.result) ≡ c.opus_repacketizer_out_range_impl.result = search rules in
    let o =
    meets_number (out_passed false false c.args.rp c.args.store.now (pos 0) (pos c.args.rp.nb_frames) c.args.«data».now (search rules)
    (count (goal.at.returns c).Start))
    c.opus_repacketizer_out_range_impl.ensures.number c.opus_repacketizer_out_range_impl.ensures.bytes in record {
      number = back ∙ o.0;
      bytes = o.1;
    }
