-- What the two passes of `out_many_lent` count and leave, by the collector, the store, the list and the destination: Each.antt's laws as its loops need them.
--     part, list, bytes, place     what the first k orders come to, and what they leave
--     turns-1, turns-2             how many orders each pass goes through
--     Measures, measures           a turn of the first pass: what `next_order` asks
--     Writes, writes               a turn of the second one: what `put_order` asks, and what its answer and its bytes come to
--     part-0, .., told             where the passes begin and end
--     counted_1, counted_2, ended   the same, of what the code counts
-- Assumes nothing.
use Prim.Native.Nat.{ℕ, suc, ◌+◌, ◌-◌, ◌<◌, ◌≤◌, ◌^◌}
use native.Mathlib.Omega.{arith}
use mathlib.Core.Path.{◌≡◌, sym, ap, subst, ◌∙◌}
use mathlib.Core.Bool.{true, false}
use mathlib.Core.List.{List, ◌++◌}
use lib.IntN.{ℤ, pos}
use lib.ListN.{length, take, drop, get_or, set}
use Rattle.opus_defines.specs.Outcome.{Effect, refusal, Outcome, leaves}
use Rattle.opus_defines.specs.declared.Refusal.{Refusal}
use Rattle.opus_toc.specs.Toc.{upper_six}
use Rattle.collector.specs.declared.Head.{Head}
use Rattle.collector.specs.declared.OpusRepacketizer.{OpusRepacketizer}
use Rattle.collector.specs.Collector.{framed, held, least_store}
use Rattle.collector.specs.Parts.{collector_of, bare}
use Rattle.collector.proofs.Sound.{sound-bare}
use Rattle.repacketizer_out.specs.Output.{out_frames}
use Rattle.cut_orders.specs.declared.Order.{Order}
use Rattle.cut_orders.specs.declared.OrderReport.{OrderReport}
use Rattle.cut_orders.specs.Orders.{Cutting, each, begun, order_report, next, with_length, leaves_many, out_many, natural, turns, done}
use Rattle.cut_orders.proofs.Each as E
use Rattle.cut_orders.proofs.Each.{past, Opens, opens, Fits, fits-natural, fits-done, part-fits, begun-leaves, list_long, bytes_long, leaves_report}

-- ---- what a call asks, and what it says
abbrev effect : (h : Head) (len store : List ℕ) (begin end : ℤ) (dst : List ℕ) (at : ℕ) → Effect
effect h len store begin end dst at = out_frames false false (upper_six h.toc) (held (bare h len) store) begin end (length dst - at)

abbrev single : (h : Head) (len store : List ℕ) (begin end : ℤ) (dst : List ℕ) (at : ℕ) → Outcome
single h len store begin end dst at = leaves (drop at dst) (effect h len store begin end dst at)

abbrev pub Answers : (h : Head) (len store : List ℕ) (begin end : ℤ) (dst : List ℕ) (at : ℕ) → ℕ → Type 0
Answers h len store begin end dst at r = r ≡ natural (single h len store begin end dst at).report.number

abbrev pub Leaves : (h : Head) (len store : List ℕ) (begin end : ℤ) (dst : List ℕ) (at : ℕ) → List ℕ → Type 0
Leaves h len store begin end dst at zs = zs ≡ take at dst ++ (single h len store begin end dst at).bytes

abbrev pub Few : (m : OrderReport) (room i : ℕ) → Type 0
Few m room i = (i < 48) × (room ≤ 65535) × (natural m.number ≤ room)

abbrev pub Roomy : (store dst : List ℕ) (at : ℕ) → Type 0
Roomy store dst at = (least_store ≤ length store) × (length dst ≤ 65535) × (at ≤ length dst)

abbrev pub Taken : (h : Head) (len store : List ℕ) (begin end : ℤ) (dst : List ℕ) (at : ℕ) → Type 0
Taken h len store begin end dst at = (e : Refusal) → effect h len store begin end dst at ≡ refusal e → ⊥

module _ (h : Head) (len packet store : List ℕ) (os : List Order) (dst : List ℕ) where
  abbrev rp : OpusRepacketizer
  rp = collector_of h len packet

  abbrev six : ℕ
  six = upper_six h.toc

  abbrev frames : List (List ℕ)
  frames = held (bare h len) store

  abbrev pub start : Cutting
  start = begun rp (length store) (length dst) (length os)

  abbrev pub part : ℕ → Cutting
  part = E.part six frames os dst start

  abbrev pub list : ℕ → List Order
  list = E.list_at six frames os dst start

  abbrev pub bytes : ℕ → List ℕ
  bytes = E.bytes_at six frames os dst start

  abbrev pub place : ℕ → ℕ
  place = E.place_at six frames os dst start

  abbrev pub turns-1 : ℕ
  turns-1 = E.first_turns six frames os dst start

  abbrev pub turns-2 : ℕ
  turns-2 = E.second_turns six frames os dst start

  pub turns-few : turns-1 ≤ length os
  turns-few = E.first_most six frames os dst start

  pub long-list : (k : ℕ) → length (list k) ≡ length os
  long-list k = list_long os dst (part k)

  pub long-bytes : (k : ℕ) → length (bytes k) ≡ length dst
  long-bytes k = bytes_long os dst (part k)

  -- ---- a turn of the first pass
  opened : (i : ℕ) → i < turns-1 → Opens rp (length store) (length dst) (length os)
  opened i small = opens rp (length store) (length dst) (length os) (length os) i small

  pub record Measures (i : ℕ) : Type 0 where
    pub within : i < length os
    pub collector : framed (bare h len) ≡ true
    pub few : Few (order_report (part i)) (length dst) i
    pub roomy : least_store ≤ length store
    pub counts : (t : ℕ) → (order_report (part i)).number ≡ pos t → done (part i) ≡ i
    pub goes_on : next six frames (length dst) (get_or os i past).begin (get_or os i past).end (part i) ≡ part (i + 1)

  pub measures : (i : ℕ) → i < turns-1 → Measures i
  measures i small =
      let on = opened i small in
      let within : i < length os = omega (arith, small, turns-few) in
      let next_of : suc i ≡ i + 1 = omega arith in
      let fits = subst (λ (c : Cutting). Fits (length dst) i (each six frames (length dst) (take i os) c)) (sym on.fresh)
      (part-fits six frames (length dst) os i (omega (arith, within))) in
      record {
        within = within;
        collector = sound-bare h len packet on.soundly;
        few = (omega (arith, within, on.few), on.small, fits-natural (length dst) i (part i) fits);
        roomy = on.roomy;
        counts = fits-done (length dst) i (part i) fits;
        goes_on = E.part-next six frames os dst start i within ∙ ap part next_of;
      }

  -- ---- a turn of the second pass
  abbrev pub order : ℕ → Order
  order k = get_or (list k) k past

  pub record Writes (k : ℕ) : Type 0 where
    pub within : k < length (list k)
    pub collector : framed (bare h len) ≡ true
    pub roomy : Roomy store (bytes k) (place k)
    pub taken : Taken h len store (order k).begin (order k).end (bytes k) (place k)
    pub near : place k < 2 ^ 32
    -- the answer r
    pub sum : (r : ℕ) → Answers h len store (order k).begin (order k).end (bytes k) (place k) r → place k + r < 2 ^ 32
    pub on-place : (r : ℕ) → Answers h len store (order k).begin (order k).end (bytes k) (place k) r → place k + r ≡ place (k + 1)
    pub on_list : (r : ℕ) → Answers h len store (order k).begin (order k).end (bytes k) (place k) r
        → set (list k) k (with_length r (order k)) ≡ list (k + 1)
    -- the bytes zs
    pub on-bytes : (zs : List ℕ) → Leaves h len store (order k).begin (order k).end (bytes k) (place k) zs → zs ≡ bytes (k + 1)

  pub writes : (k : ℕ) → k < turns-2 → Writes k
  writes k small =
      let one : k < turns-1 = omega (arith, small, E.second_most six frames os dst start) in
      let within : k < length os = omega (arith, one, turns-few) in
      let on = opened k one in
      let t = E.turn six frames os dst start on.fresh k small in
      let before : place k ≤ length (bytes k) = E.place_within six frames os dst start k within t in
      let next_of : suc k ≡ k + 1 = omega arith in
      let fits = E.put_fits six frames os dst start k within t in
      let is = E.put_length six frames os dst start k within t (drop (place k) (bytes k)) in
      record {
        within = omega (arith, within, long-list k);
        collector = sound-bare h len packet on.soundly;
        roomy = (on.roomy, omega (arith, long-bytes k, on.small), before);
        taken = E.put_taken six frames os dst start k within t;
        near = omega (arith, before, long-bytes k, on.small);
        sum = λ r e. omega (arith, e ∙ is, fits, on.small);
        on-place = λ r e. ap (λ (j : ℕ). place k + j) (e ∙ is) ∙ (E.put_place six frames os dst start k within t ∙ ap place next_of);
        on_list = λ r e. ap (λ (j : ℕ). set (list k) k (with_length j (order k))) (e ∙ is) ∙ (E.put_list six frames os dst start k within t ∙ ap list next_of);
        on-bytes = λ zs e. e ∙ (E.put_bytes six frames os dst start k within t ∙ ap bytes next_of);
      }

  -- ---- where they begin
  pub part-0 : start ≡ part 0
  part-0 = E.part_none six frames os dst start

  before : ((leaves_many os dst start).orders ≡ os) × (((leaves_many os dst start).bytes ≡ dst) × (natural (order_report start).number ≡ 0))
  before = begun-leaves rp (length store) (length dst) (length os) os dst

  pub list-0 : os ≡ list 0
  list-0 = sym before.0 ∙ ap (λ (c : Cutting). (leaves_many os dst c).orders) part-0

  pub bytes-0 : dst ≡ bytes 0
  bytes-0 = sym before.1.0 ∙ ap (λ (c : Cutting). (leaves_many os dst c).bytes) part-0

  pub place-0 : 0 ≡ place 0
  place-0 = sym before.1.1 ∙ ap (λ (c : Cutting). natural (order_report c).number) part-0

  -- ---- and end
  pub turns-left : turns (order_report (part turns-1)).number turns-1 ≡ turns-2
  turns-left = ap (λ (c : Cutting). turns (order_report c).number turns-1) (E.part_whole six frames os dst start)

  pub told : (order_report (part turns-1) ≡ (out_many rp store os dst).report) × (list turns-2 ≡ (out_many rp store os dst).orders)
      × (bytes turns-2 ≡ (out_many rp store os dst).bytes)
  unfolding out_many
  told =
      let left = E.part_left six frames os dst start before.0 before.1.0 in
      let all = ap order_report (E.part_whole six frames os dst start) ∙ leaves_report os dst (E.whole six frames os dst start) in
      (all, left.0, left.1)

  -- ---- as the code counts them
  pub counted_1 : {r : OrderReport} {n : ℕ} → r ≡ order_report start → n ≡ turns r.number (length os) → n ≡ turns-1
  counted_1 e f = f ∙ ap (λ (r : OrderReport). turns r.number (length os)) e

  pub counted_2 : {m : OrderReport} {i n all : ℕ} → n ≡ turns-1 → i ≡ n → m ≡ order_report (part i) → all ≡ turns m.number n → all ≡ turns-2
  counted_2 {m} {i} {n} {all} w e r a =
      a
      ∙ (ap (λ (s : OrderReport). turns s.number n) r
      ∙ (ap (λ (j : ℕ). turns (order_report (part j)).number n) (e ∙ w)
      ∙ (ap (λ (j : ℕ). turns (order_report (part turns-1)).number j) w ∙ turns-left)))

  pub ended : {m : OrderReport} {l : List Order} {d : List ℕ} {i k : ℕ} → i ≡ turns-1 → k ≡ turns-2
      → m ≡ order_report (part i) → l ≡ list k → d ≡ bytes k
      → (m ≡ (out_many rp store os dst).report) × (l ≡ (out_many rp store os dst).orders) × (d ≡ (out_many rp store os dst).bytes)
  ended e f r s b =
      (r ∙ (ap (λ (j : ℕ). order_report (part j)) e ∙ told.0), s ∙ (ap list f ∙ told.1), b ∙ (ap bytes f ∙ told.2))
