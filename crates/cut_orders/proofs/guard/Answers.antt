-- `cut_orders::guard` meets its contract: by the tests of the code.
use mathlib.Core.Path.{◌≡◌, sym, ap, ◌∙◌}
use mathlib.Core.Bool.{true}
use Rattle.collector.specs.declared.OpusRepacketizer.{OpusRepacketizer}
use Rattle.collector.specs.Collector.{sound}
use Rattle.collector.specs.Parts.{collector_of}
use Rattle.collector.proofs.Checks.{some_sound, none_unsound}
use Rattle.cut_orders.specs.Orders.{order_report}
use Rattle.cut_orders.proofs.Reports.{begun_unsound, begun_tight, begun_long, begun_crowded, begun_ready}
use Rattle.cut_orders.proofs.guard.Goals as goal
use Rattle.cut_orders.proofs.guard.Goals.{After-check-sound, In-Some}

-- the collector of which the code has the head, the lengths and the numbers
abbrev taken : After-check-sound → OpusRepacketizer
taken c = collector_of c.args.h c.args.len.now c.args.packet.now

-- the collector is sound
is : (c : In-Some) → sound (collector_of c.args.h c.args.len.now c.args.packet.now) ≡ true
is c =
    (some_sound _ _ c.check-sound.ensures c.in-Some.is).0

pub returns-in_default : goal.returns-in_default
returns-in_default c =
    ap order_report (begun_unsound (taken (goal.at.returns-in_default c).After-check-sound) c.args.store c.args.room c.args.orders
    (none_unsound _ _ c.check-sound.ensures c.in_default.is))

pub returns-then-store-lt-LEAST_STORE : goal.returns-then-store-lt-LEAST_STORE
returns-then-store-lt-LEAST_STORE c =
    ap order_report (begun_tight (taken (goal.at.returns-then-store-lt-LEAST_STORE c).After-check-sound) c.args.store c.args.room c.args.orders
    (is (goal.at.returns-then-store-lt-LEAST_STORE c).In-Some) c.if-store-lt-LEAST_STORE.true)

pub returns-then-room-gt-MOST_PACKET : goal.returns-then-room-gt-MOST_PACKET
returns-then-room-gt-MOST_PACKET c =
    ap order_report (begun_long (taken (goal.at.returns-then-room-gt-MOST_PACKET c).After-check-sound) c.args.store c.args.room c.args.orders
    (is (goal.at.returns-then-room-gt-MOST_PACKET c).In-Some) c.if-store-lt-LEAST_STORE.false c.if-room-gt-MOST_PACKET.true)

pub returns-then-orders-gt-MOST_ORDERS : goal.returns-then-orders-gt-MOST_ORDERS
returns-then-orders-gt-MOST_ORDERS c =
    ap order_report (begun_crowded (taken (goal.at.returns-then-orders-gt-MOST_ORDERS c).After-check-sound) c.args.store c.args.room c.args.orders
    (is (goal.at.returns-then-orders-gt-MOST_ORDERS c).In-Some) c.if-store-lt-LEAST_STORE.false c.if-room-gt-MOST_PACKET.false
    c.if-orders-gt-MOST_ORDERS.true)

pub returns : goal.returns
returns c =
    ap order_report (begun_ready (taken (goal.at.returns c).After-check-sound) c.args.store c.args.room c.args.orders (is (goal.at.returns c).In-Some)
    c.if-store-lt-LEAST_STORE.false c.if-room-gt-MOST_PACKET.false c.if-orders-gt-MOST_ORDERS.false)
