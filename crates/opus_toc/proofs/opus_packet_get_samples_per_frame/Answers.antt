-- `opus_toc::opus_packet_get_samples_per_frame` meets its contract, by the sign of the rate.
use mathlib.Core.Path.{◌≡◌, ap, ◌∙◌}
use borrow.Author.Rules.{rules}
use mir.Syntax.{w32}
use mir.Val.{to_z, of_z}
use Rattle.opus_defines.specs.Numbers.{number_of}
use Rattle.opus_defines.proofs.Counts.{counted}
use Rattle.opus_toc.proofs.Answers.{rate_negative, rate_natural}
use Rattle.opus_toc.proofs.opus_packet_get_samples_per_frame.Goals as goal

pub returns-in_default : goal.returns-in_default
returns-in_default c =
    let back : to_z w32 (of_z w32 c.refusal_number.result) ≡ c.refusal_number.result = search rules in
    back
    ∙ (c.refusal_number.ensures
    ∙ rate_negative _ c.args.rate (counted c.args.rate c.ranges.rate c.count_of.ensures.is c.in_default.is))

pub returns : goal.returns
returns c =
    let back : to_z w32 (of_z w32 c.number_of.result) ≡ c.number_of.result = search rules in
    back
    ∙ (c.number_of.ensures
    ∙ (ap number_of c.samples_per_frame.ensures
    ∙ rate_natural _ c.args.rate _
    (counted c.args.rate c.ranges.rate c.count_of.ensures.is c.in-Some.is)))
