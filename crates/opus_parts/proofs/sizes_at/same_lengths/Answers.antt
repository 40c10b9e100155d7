-- `opus_parts::sizes_at::same_lengths` meets its contract.
use Rattle.std.proofs.Common.{◌≡◌, ◌∙◌, ◌<◌, arith, sym, length, take, drop, length-take-le}
use Rattle.std.proofs.lemmas.List.{take-append-drop, set-append_left}
use Rattle.opus_parts.proofs.AtSizes.{same_more}
use Rattle.opus_parts.proofs.sizes_at.same_lengths.Goals as goal

pub loop-length-init : goal.loop-length-init
loop-length-init c =
    take-append-drop c.args.count c.args.lengths.now ∙ c.requires.1

pub loop-length-preserved : goal.loop-length-preserved
loop-length-preserved c =
    let l = c.loop-length in
    let few : length (take c.args.count c.args.lengths.now) ≡ c.args.count = length-take-le c.args.count c.args.lengths.now (omega arith) in
    let at : l.length-index < length l.length-items = omega arith in
    sym (set-append_left l.length-items (drop c.args.count c.args.lengths.now) l.length-index c.args.n at)
    ∙ same_more _ c.args.n l.length-index l.invariant (omega arith)

pub returns : goal.returns
returns c =
    let few : length (take c.args.count c.args.lengths.now) ≡ c.args.count = length-take-le c.args.count c.args.lengths.now (omega arith) in
    let end : c.loop-length.length-index ≡ c.args.count = omega arith in
    rw end at c.loop-length.invariant
