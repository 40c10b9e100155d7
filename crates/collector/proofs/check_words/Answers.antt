-- `collector::check_words` meets its contract: by what the head says, and by what is told of the frames' lengths and numbers.
use Rattle.std.proofs.Common.{◌≤◌, sym, ◌∙◌, rules}
use Rattle.collector.proofs.Checks.{known_checked, Look, look, told_unsound, told-sound}
use Rattle.collector.proofs.check_words.Goals as goal
use Rattle.collector.proofs.check_words.Goals.{In-Held}

-- the frames that are left to look at
left : (c : In-Held) → Look c.args.h c.args.len.now c.args.packet.now c.in-Held.n
left c =
    look c.args.h c.args.len.now c.args.packet.now _ (sym c.in-Held.is ∙ c.front_of-f.ensures)

few : (c : In-Held) → c.in-Held.n ≤ 48
few c = (left c).few (search rules)

pub tell-t-requires : goal.tell-t-requires
tell-t-requires c =
    ((left c).some, few c)

pub returns-then-t-eq-NOT_SOUND : goal.returns-then-t-eq-NOT_SOUND
returns-then-t-eq-NOT_SOUND c =
    (left (goal.at.returns-then-t-eq-NOT_SOUND c).In-Held).all
    (told_unsound _ (few (goal.at.returns-then-t-eq-NOT_SOUND c).In-Held) c.args.len.now c.args.packet.now c.tell-t.result
    c.tell-t.ensures c.if-t-eq-NOT_SOUND.true)

pub returns-in-Known : goal.returns-in-Known
returns-in-Known c =
    known_checked c.args.h c.args.len.now c.args.packet.now (sym c.in-Known.is ∙ c.front_of-f.ensures)

pub returns-else-t-eq-NOT_SOUND : goal.returns-else-t-eq-NOT_SOUND
returns-else-t-eq-NOT_SOUND c =
    (left (goal.at.returns-else-t-eq-NOT_SOUND c).In-Held).all
    (told-sound _ (few (goal.at.returns-else-t-eq-NOT_SOUND c).In-Held) c.args.len.now c.args.packet.now c.tell-t.result c.tell-t.ensures
    c.if-t-eq-NOT_SOUND.false)
