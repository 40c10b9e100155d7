-- `repacketizer_out::out_answer` meets its contract: by the tests of the code.
use mathlib.Core.Path.{◌≡◌, sym, ◌∙◌}
use mathlib.Core.Bool.{true}
use borrow.Author.Rules.{rules}
use lib.ListN.{length}
use Rattle.opus_defines.specs.declared.Refusal.TheVariants.{BadArg, InvalidState}
use Rattle.opus_defines.proofs.Counts.{counted, is_natural}
use Rattle.opus_toc.specs.Toc.{upper_six}
use Rattle.collector.specs.declared.OpusRepacketizer.{OpusRepacketizer}
use Rattle.collector.specs.Collector.{held, sound}
use Rattle.collector.specs.Parts.{collector_of}
use Rattle.collector.proofs.Sound.{sound-bare}
use Rattle.collector.proofs.Checks.{some_sound, none_unsound}
use Rattle.repacketizer_out.specs.Output.{out_frames, out_range}
use Rattle.opus_defines.specs.Outcome.{leaves}
use Rattle.opus_defines.proofs.Outcomes.{meets_number}
use Rattle.repacketizer_out.proofs.Outputs.{refused_as, out_unsound, out_tight}
use Rattle.repacketizer_out.proofs.Outputs.{out_long, out_sound, frames_before, frames_under, frames_natural}
use Rattle.repacketizer_out.proofs.out_answer.Goals as goal
use Rattle.repacketizer_out.proofs.out_answer.Goals.{After-check-sound, Else-data-gt-MOST_PACKET, In-Some}

-- the collector of which the code has the head, the lengths and the numbers
abbrev taken : (c : After-check-sound) → OpusRepacketizer
taken c = collector_of c.args.h c.args.len.now c.args.packet.now

-- the collector is sound
is : (c : In-Some) → sound (collector_of c.args.h c.args.len.now c.args.packet.now) ≡ true
is c =
    (some_sound _ _ c.check-sound.ensures c.in-Some.is).0

-- the collector, the store and the destination are in order
ready : (c : Else-data-gt-MOST_PACKET)
    → let r = collector_of c.args.h c.args.len.now c.args.packet.now in
    out_range c.args.self_delimited c.args.pad r c.args.store.now c.args.begin c.args.end c.args.«data».now
    ≡ leaves c.args.«data».now
    (out_frames c.args.self_delimited c.args.pad (upper_six r.toc) (held r c.args.store.now) c.args.begin c.args.end (length c.args.«data».now))
ready c =
    let r = collector_of c.args.h c.args.len.now c.args.packet.now in
    let i = (some_sound r _ c.check-sound.ensures c.in-Some.is).0 in
    out_sound c.args.self_delimited c.args.pad r c.args.store.now c.args.begin c.args.end c.args.«data».now i c.if-store-lt-LEAST_STORE.false
    c.if-data-gt-MOST_PACKET.false

long : (c : After-check-sound) → length (taken c).len ≡ 48
long c = search rules

pub returns-then-store-lt-LEAST_STORE : goal.returns-then-store-lt-LEAST_STORE
returns-then-store-lt-LEAST_STORE c =
    let r = taken (goal.at.returns-then-store-lt-LEAST_STORE c).After-check-sound in
    let whole = refused_as BadArg (out_tight c.args.self_delimited c.args.pad r c.args.store.now c.args.begin c.args.end c.args.«data».now
    (is (goal.at.returns-then-store-lt-LEAST_STORE c).In-Some) c.if-store-lt-LEAST_STORE.true) in record { number = whole.0; bytes = whole.1 }

pub returns-then-data-gt-MOST_PACKET : goal.returns-then-data-gt-MOST_PACKET
returns-then-data-gt-MOST_PACKET c =
    let r = taken (goal.at.returns-then-data-gt-MOST_PACKET c).After-check-sound in
    let whole = refused_as BadArg (out_long c.args.self_delimited c.args.pad r c.args.store.now c.args.begin c.args.end c.args.«data».now
    (is (goal.at.returns-then-data-gt-MOST_PACKET c).In-Some) c.if-store-lt-LEAST_STORE.false c.if-data-gt-MOST_PACKET.true) in
    record { number = whole.0; bytes = whole.1 }

pub out_frames-requires : goal.out_frames-requires
out_frames-requires c =
    let framely = sound-bare c.args.h c.args.len.now c.args.packet.now (is (goal.at.out_frames-requires c).In-Some) in record {
      collector = (long (goal.at.out_frames-requires c).After-check-sound, framely);
      buffers = (c.if-store-lt-LEAST_STORE.false, c.if-data-gt-MOST_PACKET.false);
    }

pub returns-in_default : goal.returns-in_default
returns-in_default c =
    let unsound = none_unsound _ _ c.check-sound.ensures c.in_default.is in
    let whole = refused_as InvalidState (out_unsound c.args.self_delimited c.args.pad (taken (goal.at.returns-in_default c).After-check-sound)
    c.args.store.now c.args.begin c.args.end c.args.«data».now unsound) in record { number = whole.0; bytes = whole.1 }

pub returns-in_default-count_of : goal.returns-in_default-count_of
returns-in_default-count_of c =
    let r = taken (goal.at.returns-in_default-count_of c).After-check-sound in
    let f = held r c.args.store.now in
    let negative = counted c.args.begin c.ranges.begin c.count_of.ensures.is c.in_default-count_of.is in let whole = refused_as BadArg
    (ready (goal.at.returns-in_default-count_of c).Else-data-gt-MOST_PACKET ∙ frames_before c.args.self_delimited c.args.pad (upper_six r.toc) f
    c.args.«data».now c.args.begin c.args.end negative) in record { number = whole.0; bytes = whole.1 }

pub returns-in_default-count_of-2 : goal.returns-in_default-count_of-2
returns-in_default-count_of-2 c =
    let r = taken (goal.at.returns-in_default-count_of-2 c).After-check-sound in
    let f = held r c.args.store.now in
    let negative = counted c.args.end c.ranges.end c.count_of-2.ensures.is c.in_default-count_of-2.is in let whole = refused_as BadArg
    (ready (goal.at.returns-in_default-count_of-2 c).Else-data-gt-MOST_PACKET ∙ frames_under c.args.self_delimited c.args.pad (upper_six r.toc) f
    c.args.«data».now c.args.begin c.args.end negative) in record { number = whole.0; bytes = whole.1 }

pub returns : goal.returns
returns c =
    let r = taken (goal.at.returns c).After-check-sound in
    let begins = is_natural c.args.begin _ (counted c.args.begin c.ranges.begin c.count_of.ensures.is c.in-Some-count_of.is) in
    let ends = is_natural c.args.end _ (counted c.args.end c.ranges.end c.count_of-2.ensures.is c.in-Some-count_of-2.is) in
    let whole = meets_number (ready (goal.at.returns c).Else-data-gt-MOST_PACKET ∙ frames_natural c.args.self_delimited c.args.pad (upper_six r.toc)
    (held r c.args.store.now) c.args.«data».now begins ends)
    c.out_frames.ensures.number c.out_frames.ensures.bytes in record { number = whole.0; bytes = whole.1 }
