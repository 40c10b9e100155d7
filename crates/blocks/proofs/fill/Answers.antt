use Rattle.std.proofs.Common.{◌∙◌, ap, length}
use Rattle.std.proofs.lemmas.List.{length-replicate}
use Rattle.blocks.proofs.Sets.{length_part}
use Rattle.blocks.proofs.LentParts.{sets-whole, part_between}
use Rattle.blocks.proofs.fill.Goals as goal
use Rattle.std.specs.Prelude.{replicate, ℕ}

pub returns : goal.returns
returns c =
    let a = c.args in
    let long = ap length (part_between a.s.now a.from a.n) ∙ length_part a.s.now a.from a.n c.requires in
    sets-whole a.s.now a.from a.n _ (c.fill.ensures.after (λ y h. h) ∙ ap (λ (n : ℕ). replicate n a.value) long) c.requires
    (length-replicate a.n a.value)
