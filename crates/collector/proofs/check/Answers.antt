-- `collector::check` meets its contract: by what the head says, and by the frames' lengths and numbers.
use Rattle.std.proofs.Common.{◌≡◌, ◌≤◌, length, take, sym, ◌∙◌, arith, length-take-le, rules}
use Rattle.collector.proofs.Checks.{known_checked, Look, look}
use Rattle.collector.proofs.check.Goals as goal
use Rattle.collector.proofs.check.Goals.{In-Held}

-- the frames that are left to look at
left : (c : In-Held) → Look c.args.h c.args.len.now c.args.packet.now c.in-Held.n
left c =
    look c.args.h c.args.len.now c.args.packet.now _ (sym c.in-Held.is ∙ c.front_of-f.ensures)

few : (c : In-Held) → c.in-Held.n ≤ 48
few c = (left c).few (search rules)

lengths : (c : In-Held) → length (take c.in-Held.n c.args.len.now) ≡ c.in-Held.n
lengths c = length-take-le _ _ (omega (arith, few c, c.requires.0))

numbers : (c : In-Held) → length (take c.in-Held.n c.args.packet.now) ≡ c.in-Held.n
numbers c = length-take-le _ _ (omega (arith, few c, c.requires.1))

pub check_held-requires : goal.check_held-requires
check_held-requires c =
    (omega (arith, lengths c, (left c).some), omega (arith, lengths c, few c), numbers c ∙ sym (lengths c))

pub returns-in-Known : goal.returns-in-Known
returns-in-Known c =
    known_checked c.args.h c.args.len.now c.args.packet.now (sym c.in-Known.is ∙ c.front_of-f.ensures)

pub returns-in-Held : goal.returns-in-Held
returns-in-Held c =
    (left (goal.at.returns-in-Held c).In-Held).all c.check_held.ensures

pub slice_bounds-check_held-end : goal.slice_bounds-check_held-end
slice_bounds-check_held-end c =
    sym (lengths c)

pub slice_bounds-check_held-end-in-Held : goal.slice_bounds-check_held-end-in-Held
slice_bounds-check_held-end-in-Held c =
    sym (numbers c)
