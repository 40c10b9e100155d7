-- Orders that cut the frames held into consecutive ranges: what they come to, and that their packets give the frames again.
--     consecutive_few                                     no more orders than frames
--     packets, cut_bytes_lem                                  their packets, one behind another
--     each-cut, each-short                                the orders one by one, with room for all and without
--     cuts_of, cuts_of_lem, room_of                            the same cuts as those of single outputs
--     packets_by_lem                                          the packets that the lengths in the list say
--     many_short, many_cut, many_again, many_exactly      the call
-- Assumes nothing.
use Prim.Native.Nat.{ℕ, suc, ◌+◌, ◌-◌, ◌≤◌, ◌<◌}
use native.Mathlib.Omega.{arith}
use mathlib.Core.Path.{◌≡◌, refl, ap, ◌∙◌}
use mathlib.Core.List.{List, [], ◌∷◌, ◌++◌, map, append-nil, append_assoc}
use mathlib.Core.Bool.{Bool, false}
use lib.Dec.{ltb}
use lib.IntN.{pos, negsuc}
use lib.ListN.{length, drop, length-append}
use lib.Seq.{sets-eq, take-append_seam, drop-append_seam}
use borrow.Author.Tests.{ltb-true, ltb-false}
use Rattle.laws.proofs.Never.{never, by_test}
use Rattle.opus_defines.specs.Bounds.{most_packet}
use Rattle.opus_defines.specs.Outcome.{refusal, wrote}
use Rattle.opus_defines.specs.declared.Refusal.TheVariants.{BufferTooSmall}
use Rattle.opus_toc.specs.Toc.{upper_six}
use Rattle.opus_format.specs.Frames.{lengths, joined}
use Rattle.opus_header.specs.Compact.{compact}
use Rattle.collector.specs.Collector.{held}
use Rattle.repacketizer.specs.Runs.{State, Ready}
use Rattle.repacketizer_out.specs.Output.{range, output, out_frames}
use Rattle.repacketizer_out.specs.Pieces.{Cut, Cuts, Room, packed, outputs_added}
use Rattle.repacketizer_out.proofs.Ranges.{length-held, ready_holding}
use Rattle.repacketizer_out.proofs.Again.{ranges, outputs-packed}
use Rattle.cut_orders.specs.declared.Order.{Order}
use Rattle.cut_orders.specs.Orders.{refused_at, cut_into, each, most_orders, natural, with_lengths, leaves_many, out_many}
use Rattle.cut_orders.specs.Singly.{Consecutive, cut_bytes, packets_by}
use Rattle.repacketizer_out.proofs.Outputs.{output-fits, output-short}
use Rattle.cut_orders.proofs.Effects.{effect_within}
use Rattle.cut_orders.proofs.Orders.{each_none, each_wrote, each_stopped}
use Rattle.cut_orders.proofs.Many.{with_none, with_more, many_sound}

consecutive_few : (begin n : ℕ) (os : List Order) → Consecutive begin n os → begin + length os ≤ n
consecutive_few begin n [] c = omega (arith, c)
consecutive_few begin n (o ∷ os) c = omega (arith, c.1.1.0, consecutive_few (natural o.end) n os c.1.1.1)

-- ---- the packets
abbrev packets : ℕ → List (List ℕ) → ℕ → List Order → List (List ℕ)
packets six frames begin [] = []
packets six frames begin (o ∷ os) = compact false six (range begin (natural o.end) frames) ∷ packets six frames (natural o.end) os

cut_bytes_lem : (six : ℕ) (frames : List (List ℕ)) (begin : ℕ) (os : List Order)
    → length (joined (packets six frames begin os)) ≡ cut_bytes six frames begin os
cut_bytes_lem six frames begin [] = refl
cut_bytes_lem six frames begin (o ∷ os) =
    let end = natural o.end in
    length-append (compact false six (range begin end frames)) (joined (packets six frames end os)) ∙ rw (cut_bytes_lem six frames end os)

-- ---- the orders one by one
module _ (six : ℕ) (frames : List (List ℕ)) (room : ℕ) where
  module _ (o : Order) (os : List Order) (begin : ℕ) (c : Consecutive begin (length frames) (o ∷ os)) (left : ℕ) where
    abbrev end : ℕ
    end = natural o.end

    abbrev packet : List ℕ
    packet = compact false six (range begin end frames)

    within : out_frames false false six frames o.begin o.end left ≡ output false false six (range begin end frames) left
    within =
        effect_within six frames left c.0 c.1.0 c.1.1.0
        (omega (arith, consecutive_few end (length frames) os c.1.1.1))

    goes : length packet ≤ left → out_frames false false six frames o.begin o.end left ≡ wrote (length packet) packet
    goes h = within ∙ output-fits false false six (range begin end frames) left h

    stops : left < length packet → out_frames false false six frames o.begin o.end left ≡ refusal BufferTooSmall
    stops h = within ∙ output-short false false six (range begin end frames) left h

  -- with room for all,
  each-cut : (os : List Order) (begin : ℕ) → Consecutive begin (length frames) os → (ls bs : List ℕ)
      → length bs + cut_bytes six frames begin os ≤ room
      → let ps = packets six frames begin os in each six frames room os (cut_into ls bs) ≡ cut_into (ls ++ lengths ps) (bs ++ joined ps)
  each-cut [] begin c ls bs h = each_none six frames room (cut_into ls bs) ∙ rw (append-nil ls, append-nil bs)
  each-cut (o ∷ os) begin c ls bs h =
      let end = natural o.end in
      let p = compact false six (range begin end frames) in
      let ps = packets six frames end os in
      each_wrote six frames room o os ls bs (goes o os begin c (room - length bs) (omega arith))
      ∙ (each-cut os end c.1.1.1 (ls ++ length p ∷ []) (bs ++ p) (omega (arith, length-append bs p))
      ∙ rw (append_assoc ls (length p ∷ []) (lengths ps), append_assoc bs p (joined ps)))

  -- and without
  each-short : (os : List Order) (begin : ℕ) → Consecutive begin (length frames) os → (ls bs : List ℕ) → length bs ≤ room
      → room < length bs + cut_bytes six frames begin os
      → (p : ℕ) × (each six frames room os (cut_into ls bs) ≡ refused_at p BufferTooSmall)
  each-short [] begin c ls bs k h = absurd (omega arith)
  each-short (o ∷ os) begin c ls bs k h =
      let end = natural o.end in
      let p = compact false six (range begin end frames) in
      let left = room - length bs in
      by_test (ltb left (length p)) (λ t. (length ls + 1, each_stopped six frames room o os ls bs (stops o os begin c left (ltb-true left (length p) t))))
      (λ t.
      let fits = ltb-false left (length p) t in
      let all = length-append bs p in
      let more = each-short os end c.1.1.1 (ls ++ length p ∷ []) (bs ++ p) (omega arith) (omega arith) in
      (more.0, each_wrote six frames room o os ls bs (goes o os begin c left fits) ∙ more.1))

-- ---- as the cuts of single outputs, each into a destination like this one
abbrev pub cuts_of : (ℕ → Bool) → List ℕ → ℕ → List Order → List Cut
cuts_of strict dst i [] = []
cuts_of strict dst i (o ∷ os) = record { strict = strict i; end = natural o.end; dst = dst } ∷ cuts_of strict dst (suc i) os

module _ (strict : ℕ → Bool) (dst : List ℕ) where
  pub cuts_of_lem : (i begin n : ℕ) (os : List Order) → Consecutive begin n os → Cuts begin n (cuts_of strict dst i os)
  cuts_of_lem i begin n [] c = c
  cuts_of_lem i begin n (o ∷ os) c = (c.1.1.0, cuts_of_lem (suc i) (natural o.end) n os c.1.1.1)

  module _ (six : ℕ) (frames : List (List ℕ)) where
    pub room_of : (i begin : ℕ) (os : List Order) → cut_bytes six frames begin os ≤ length dst → length dst ≤ most_packet
        → Room false six frames begin (cuts_of strict dst i os)
    room_of i begin [] h k = tt
    room_of i begin (o ∷ os) h k = (omega arith, (k, room_of (suc i) (natural o.end) os (omega arith) k))

    -- the packets in a destination, by the lengths in the list
    packets_by_lem : (i begin : ℕ) (os : List Order) (rest : List ℕ) → let ps = packets six frames begin os in
        packets_by strict i (with_lengths (lengths ps) os) (joined ps ++ rest) ≡ map (packed false six) (ranges begin (cuts_of strict dst i os) frames)
    packets_by_lem i begin [] rest = rw (with_none [])
    packets_by_lem i begin (o ∷ os) rest =
        let end = natural o.end in
        let p = compact false six (range begin end frames) in
        let ps = packets six frames end os in
        rw (
          with_more (length p) (lengths ps) o os,
          append_assoc p (joined ps) rest,
          take-append_seam p (joined ps ++ rest),
          drop-append_seam p (joined ps ++ rest),
          packets_by_lem (suc i) end os rest,
        )

-- ---- the call, with a collector that is ready
module _ (s : State) (r : Ready s) (orders : List Order) (c : Consecutive 0 (length (held s.rp s.store)) orders) (dst : List ℕ)
    (most : length dst ≤ most_packet) where
  abbrev six : ℕ
  six = upper_six s.rp.toc

  abbrev frames : List (List ℕ)
  frames = held s.rp s.store

  few : length orders ≤ most_orders
  few =
      let h = ready_holding s r in
      omega (arith, h.few, length-held s.rp s.store h, consecutive_few 0 (length frames) orders c)

  is : out_many s.rp s.store orders dst ≡ leaves_many orders dst (each six frames (length dst) orders (cut_into [] []))
  is = many_sound s.rp s.store orders dst r.soundly r.roomy most few

  many_short : length dst < cut_bytes six frames 0 orders
      → (p : ℕ) × (out_many s.rp s.store orders dst ≡ leaves_many orders dst (refused_at p BufferTooSmall))
  many_short h =
      let e = each-short six frames (length dst) orders 0 c [] [] (omega arith) (omega arith) in
      (e.0, is ∙ ap (leaves_many orders dst) e.1)

  module _ (h : cut_bytes six frames 0 orders ≤ length dst) where
    abbrev ps : List (List ℕ)
    ps = packets six frames 0 orders

    many_cut : out_many s.rp s.store orders dst ≡ leaves_many orders dst (cut_into (lengths ps) (joined ps))
    many_cut = is ∙ ap (leaves_many orders dst) (each-cut six frames (length dst) orders 0 c [] [] (omega arith))

    -- what is added again is what single outputs leave
    pub many_again : (strict : ℕ → Bool) → let o = out_many s.rp s.store orders dst in
        packets_by strict 0 o.orders o.bytes ≡ outputs_added false s 0 (cuts_of strict dst 0 orders)
    many_again strict =
        let cuts = cuts_of strict dst 0 orders in
        rw (
          many_cut,
          sets-eq (joined ps) dst 0 (omega (arith, cut_bytes_lem six frames 0 orders)),
          packets_by_lem strict dst six frames 0 0 orders (drop (0 + length (joined ps)) dst),
          outputs-packed s r false 0 cuts (cuts_of_lem strict dst 0 0 (length frames) orders c) (room_of strict dst six frames 0 0 orders h most),
        )

  -- refused exactly for room
  pub many_exactly : let o = out_many s.rp s.store orders dst in
      let n = cut_bytes six frames 0 orders in
      (length dst < n → o.report.number ≡ negsuc 1)
      × ((m : ℕ) → o.report.number ≡ negsuc m → length dst < n)
      × (n ≤ length dst → o.report ≡ record { number = pos n; position = 0 })
  many_exactly =
      let n = cut_bytes six frames 0 orders in (
        λ h. rw (many_short h).1,
        λ m e. by_test (ltb (length dst) n) (ltb-true (length dst) n) (λ t. never (let f = rw (many_cut (ltb-false (length dst) n t)) at e in cc)),
        λ h. rw (many_cut h, cut_bytes_lem six frames 0 orders),
      )
