-- `repacketizer::add` meets its contract: by the tests of the code.
use mathlib.Core.Path.{◌≡◌, sym, ◌∙◌}
use mathlib.Core.Bool.{true}
use lib.ListN.{length}
use borrow.Author.Rules.{rules}
use Rattle.collector.specs.declared.OpusRepacketizer.{OpusRepacketizer}
use Rattle.collector.specs.Collector.{sound}
use Rattle.collector.specs.Parts.{collector_of}
use Rattle.collector.proofs.Checks.{some_sound, none_unsound}
use Rattle.repacketizer.proofs.Adds.{refused_as}
use Rattle.repacketizer.proofs.StrictAdds.{by_unsound, by_tight, by_sound}
use Rattle.repacketizer.proofs.add.Goals as goal
use Rattle.repacketizer.proofs.add.Goals.{After-check_words, In-Some}

-- the collector of which the code has the head, the lengths and the numbers
abbrev taken : After-check_words → OpusRepacketizer
taken c = collector_of c.args.h c.args.len.now c.args.packet.now

-- the collector is sound
is : (c : In-Some) → sound (collector_of c.args.h c.args.len.now c.args.packet.now) ≡ true
is c = (some_sound _ _ c.check_words.ensures c.in-Some.is).0

pub returns-in_default : goal.returns-in_default
returns-in_default c =
    let unsound = none_unsound _ _ c.check_words.ensures c.in_default.is in
    let whole = refused_as (by_unsound c.args.strict c.args.self_delimited (taken (goal.at.returns-in_default c).After-check_words)
    c.args.«data».now c.args.store.now unsound) c.refused_add.ensures in record { answer = whole.0; bytes = whole.1.0; few = whole.1.1 }

pub returns-then-store-lt-LEAST_STORE : goal.returns-then-store-lt-LEAST_STORE
returns-then-store-lt-LEAST_STORE c =
    let whole = refused_as (by_tight c.args.strict c.args.self_delimited (taken (goal.at.returns-then-store-lt-LEAST_STORE c).After-check_words)
    c.args.«data».now c.args.store.now (is (goal.at.returns-then-store-lt-LEAST_STORE c).In-Some) c.if-store-lt-LEAST_STORE.true)
    c.refused_add-then-store-lt-LEAST_STORE.ensures in record { answer = whole.0; bytes = whole.1.0; few = whole.1.1 }

pub add_packet-requires : goal.add_packet-requires
add_packet-requires c =
    let l : length c.args.len.now ≡ 48 = search rules in
    let p : length c.args.packet.now ≡ 48 = search rules in
    record {
      lengths48 = l;
      numbers48 = p;
      soundly = is (goal.at.add_packet-requires c).In-Some;
      place = (some_sound _ _ c.check_words.ensures c.in-Some.is).1;
      roomy = c.if-store-lt-LEAST_STORE.false;
    }

pub returns : goal.returns
returns c =
    let e =
    by_sound c.args.strict c.args.self_delimited (taken (goal.at.returns c).After-check_words) c.args.«data».now c.args.store.now
    (is (goal.at.returns c).In-Some) c.if-store-lt-LEAST_STORE.false in
    record { answer = rw e c.add_packet.ensures.0; bytes = rw e c.add_packet.ensures.1.0; few = c.add_packet.ensures.1.1 }
