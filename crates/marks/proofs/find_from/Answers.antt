use Rattle.std.proofs.Common.{◌≡◌, ◌∙◌, sym, arith, length}
use Rattle.marks.proofs.Finding.{sought_start, sought_next, sought_byte, sought_end}
use Rattle.marks.proofs.find_from.Goals as goal

pub loop-at-init : goal.loop-at-init
loop-at-init c = sought_start c.args.«data».now c.args.from c.requires

pub returns-then-data-at-eq75 : goal.returns-then-data-at-eq75
returns-then-data-at-eq75 c =
    let found = sought_byte c.loop-at.invariant c.loop-at-test.true c.if-data-at-eq75.true in
    record { place = found.0; within = found.1 }

pub loop-at-preserved : goal.loop-at-preserved
loop-at-preserved c = sought_next c.loop-at.invariant c.loop-at-test.true c.if-data-at-eq75.false

pub returns : goal.returns
returns c =
    let found = sought_end c.loop-at.invariant c.loop-at-test.false in
    let end : c.loop-at.at ≡ length c.args.«data».now = omega (arith, found.1, c.loop-at-test.false) in
    record { place = sym end ∙ found.0; within = omega arith }
