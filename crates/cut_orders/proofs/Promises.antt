-- What a buyer may count on of a list of cut orders (document 02, M-106).
-- Assumes nothing.
use Prim.Native.Nat.{ℕ, ◌≤◌, ◌<◌}
use mathlib.Core.Path.{◌≡◌, refl, ap}
use mathlib.Core.List.{List, [], map}
use mathlib.Core.Bool.{Bool, true, false}
use lib.IntN.{pos, negsuc}
use lib.ListN.{length, drop}
use Rattle.laws.specs.Bytes.{Bytes}
use Rattle.opus_toc.specs.Toc.{upper_six}
use Rattle.opus_format.specs.Frames.{total}
use Rattle.collector.specs.declared.OpusRepacketizer.{OpusRepacketizer}
use Rattle.collector.specs.Collector.{held, sound}
use Rattle.repacketizer.specs.Runs.{State, Ready, Empty, Holds, Arrival, AllBytes, AllAccepted, after_adds, frames_accepted}
use Rattle.repacketizer.proofs.Runs.{empty_ready}
use Rattle.repacketizer.proofs.Promises.{frames_are_kept, collector_stays_sound}
use Rattle.repacketizer_out.proofs.Promises.{packing_can_be_undone}
use Rattle.cut_orders.specs.declared.Order.{Order}
use Rattle.cut_orders.specs.Orders.{with_lengths, ManyOutcome, out_many}
use Rattle.cut_orders.specs.Singly.{singly, Consecutive, cut_bytes, packets_by}
use Rattle.cut_orders.proofs.Singly.{many_same}
use Rattle.cut_orders.proofs.Many.{many_unsound, many_tight, many_long, many_crowded, many_none}
use Rattle.cut_orders.proofs.Many.{many_refused_stays, many_no_position, many_position, many_past_stays, many_as_long, many_others_stay}
use Rattle.cut_orders.proofs.Many.{many_as_many, many_sums_up}
use Rattle.cut_orders.proofs.CutLaw.{cuts_of, cuts_of_lem, room_of, many_exactly, many_again}

-- a call, its answer, and what it leaves
module _ (rp : OpusRepacketizer) (store : List ℕ) (orders : List Order) (dst : List ℕ) where
  abbrev many : ManyOutcome
  many = out_many rp store orders dst

  answers : {o : ManyOutcome} → many ≡ o → many.report ≡ o.report
  answers e = ap (λ (o : ManyOutcome). o.report) e

  -- 1. The order of refusals, each whatever else is wrong behind it; none of these is an order's, so the position is 0: an unsound collector, -6,
  pub orders_collector_first : sound rp ≡ false → many.report ≡ record { number = negsuc 5; position = 0 }
  orders_collector_first u = answers (many_unsound rp store orders dst u)

  module _ (soundly : sound rp ≡ true) where
    -- then a store of too few bytes, -1,
    pub orders_then_store : length store < 61200 → many.report ≡ record { number = negsuc 0; position = 0 }
    orders_then_store h = answers (many_tight rp store orders dst soundly h)

    module _ (roomy : 61200 ≤ length store) where
      -- then a destination of too many bytes, -1,
      pub orders_then_destination : 65535 < length dst → many.report ≡ record { number = negsuc 0; position = 0 }
      orders_then_destination h = answers (many_long rp store orders dst soundly roomy h)

      module _ (most : length dst ≤ 65535) where
        -- then more than 48 orders, -1,
        pub orders_then_count : 48 < length orders → many.report ≡ record { number = negsuc 0; position = 0 }
        orders_then_count h = answers (many_crowded rp store orders dst soundly roomy most h)

        -- then the orders one by one, whatever their ranges: the call answers what single outputs answer, ordinary ones without padding, one after another,
        -- each into what the destination has left. If none is refused the list has their lengths and the destination is as they leave it; if one is, the
        -- call has its number and position, and list and destination are as before.
        pub many_is_singles : length orders ≤ 48 → let s = singly rp store orders 1 0 dst in
            (many.report ≡ s.report)
            × ((n : ℕ) → s.report.number ≡ pos n → (many.orders ≡ with_lengths s.lengths orders) × (many.bytes ≡ s.bytes))
            × ((n : ℕ) → s.report.number ≡ negsuc n → (many.orders ≡ orders) × (many.bytes ≡ dst))
        many_is_singles few = many_same rp store soundly roomy dst most orders few

        -- 2. The position of a refusal behind those is that of an order, from 1;
        pub position_of_a_refusal : length orders ≤ 48 → (n : ℕ) → many.report.number ≡ negsuc n
            → (1 ≤ many.report.position) × (many.report.position ≤ length orders)
        position_of_a_refusal few = many_position rp store orders dst soundly roomy most few

  -- and where the answer is no refusal it is 0.
  pub no_position_otherwise : (n : ℕ) → many.report.number ≡ pos n → many.report.position ≡ 0
  no_position_otherwise = many_no_position rp store orders dst

  -- 3. A refused call changes nothing: list and destination are as before.
  pub refused_orders_change_nothing : (n : ℕ) → many.report.number ≡ negsuc n → (many.orders ≡ orders) × (many.bytes ≡ dst)
  refused_orders_change_nothing = many_refused_stays rp store orders dst

  -- 4. The destination has its length, and what is past the total is as it was.
  pub bytes_past_the_total_stay : (n : ℕ) → many.report.number ≡ pos n
      → (drop n many.bytes ≡ drop n dst) × (length many.bytes ≡ length dst)
  bytes_past_the_total_stay n h = (many_past_stays rp store orders dst n h, many_as_long rp store orders dst)

  -- 5. No call changes a range, or how many orders there are;
  pub orders-keep-their-ranges :
      (map (λ (o : Order). o.begin) many.orders ≡ map (λ (o : Order). o.begin) orders)
      × (map (λ (o : Order). o.end) many.orders ≡ map (λ (o : Order). o.end) orders)
      × (length many.orders ≡ length orders)
  orders-keep-their-ranges = (
    many_others_stay rp store orders dst (λ (o : Order). o.begin) (λ n o. refl),
    many_others_stay rp store orders dst (λ (o : Order). o.end) (λ n o. refl),
    many_as_many rp store orders dst,
  )

  -- and the lengths sum to the total.
  pub lengths-sum_to_the_total : (n : ℕ) → many.report.number ≡ pos n → total (map (λ (o : Order). o.length) many.orders) ≡ n
  lengths-sum_to_the_total = many_sums_up rp store orders dst

-- 6. No order is no refusal: 0, and nothing changes, with any ready collector,
pub no_order_is_none : (s : State) → Ready s → (dst : List ℕ) → length dst ≤ 65535
    → out_many s.rp s.store [] dst ≡ record { report = record { number = pos 0; position = 0 }; orders = []; bytes = dst }
no_order_is_none s r dst most = many_none s.rp s.store dst r.soundly r.roomy most

-- with one that holds nothing too.
pub no_order_of_none : (s : State) → Empty s → (dst : List ℕ) → length dst ≤ 65535
    → out_many s.rp s.store [] dst ≡ record { report = record { number = pos 0; position = 0 }; orders = []; bytes = dst }
no_order_of_none s e = no_order_is_none s (empty_ready s e)

-- 7. From adds to a list of orders to adds: F are the frames of the packets that a collector which held nothing has accepted, strictly added or not, and the
-- orders cut F at any points 0 < c1 < .. < count, each range from where the one before it ends.
module _ (empty : State) (z : Empty empty) (l : List Arrival) (b : AllBytes l) where
  abbrev full : State
  full = after_adds empty l

  abbrev frames : List (List ℕ)
  frames = frames_accepted empty l

  abbrev six : ℕ
  six = upper_six full.rp.toc

  kept : held full.rp full.store ≡ frames
  kept = frames_are_kept empty z l b

  ready : Ready full
  ready = collector_stays_sound empty z l b

  module _ (orders : List Order) (c : Consecutive 0 (length frames) orders) (dst : List ℕ) (most : length dst ≤ 65535) where
    abbrev cuts : ManyOutcome
    cuts = out_many full.rp full.store orders dst

    abbrev needed : ℕ
    needed = cut_bytes six frames 0 orders

    -- Such a call is refused exactly where the destination is shorter than all the compact packets, and by -2; else it answers how long they are.
    pub cut-orders-refused-exactly :
        (length dst < needed → cuts.report.number ≡ negsuc 1)
        × ((n : ℕ) → cuts.report.number ≡ negsuc n → length dst < needed)
        × (needed ≤ length dst → cuts.report ≡ record { number = pos needed; position = 0 })
    cut-orders-refused-exactly = rw (← kept) (many_exactly full ready orders (rw kept c) dst most)

    -- The packets that it leaves in the destination, one behind another and as long as the list says, added in order, strictly or not, to any collector
    -- that holds nothing: every add is accepted, the frames held are F, and the upper six TOC bits are the same.
    pub orders_can_be_undone : Bytes empty.store → needed ≤ length dst → (strict : ℕ → Bool) (again : State) → Empty again
        → let back = packets_by strict 0 cuts.orders cuts.bytes in
        AllAccepted again back × Holds six (after_adds again back) frames
    orders_can_be_undone k h strict again e =
        rw (many_again full ready orders (rw kept c) dst most (rw kept h) strict)
        (packing_can_be_undone empty z k l b false (cuts_of strict dst 0 orders) (cuts_of_lem strict dst 0 0 (length frames) orders c)
        (room_of strict dst six frames 0 0 orders h most) again e)
