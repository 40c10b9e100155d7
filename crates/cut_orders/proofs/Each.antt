-- The orders one by one, as the two passes over them count: `part k` is what the first k orders come to.
--     refused_turns, ..            a refusal is no length: no order is gone through, and nothing is counted
--     each_next, each_all          the first i orders and one more; all
--     Opens, opens                 what is known once there is an order to go through: the collector, the store, the destination, the list
--     begun-leaves                 before the first order nothing is written
--     Fits, part-fits              k orders that are not refused: so many lengths, and no more bytes than the destination has
--     part_whole                   the first pass goes through all orders that it has to
--     Turn, turn                   a turn of the second pass: the order is not refused, and its packet fits
--     put_length, ..               what a turn leaves, from what the single output leaves
--     part_left                    where the second pass ends
-- Assumes nothing.
use Prim.Native.Nat.{ℕ, zero, suc, ◌+◌, ◌-◌, ◌≤◌, ◌<◌}
use native.Mathlib.Nat.{le_of_suc-le-suc, not-suc-le-zero}
use native.Mathlib.Omega.{arith}
use mathlib.Core.Path.{◌≡◌, refl, sym, ap, subst, ◌∙◌}
use mathlib.Core.List.{List, [], ◌∷◌, ◌++◌}
use mathlib.Core.Bool.{true, false}
use lib.Dec.{ltb}
use lib.IntN.{ℤ, pos, negsuc}
use lib.ListN.{length, take, drop, get_or, set, length-append, take-append-drop}
use lib.Seq.{sets, length-sets, take-length}
use borrow.Author.Tests.{ltb-true, ltb-false}
use Rattle.laws.proofs.Never.{never, by_test, cond_elim}
use Rattle.opus_defines.specs.Bounds.{most_packet}
use Rattle.opus_defines.specs.Numbers.{refusal_number}
use Rattle.opus_defines.specs.Outcome.{Effect, refusal, wrote, leaves}
use Rattle.opus_defines.specs.declared.Refusal.{Refusal}
use Rattle.opus_defines.specs.declared.Refusal.TheVariants.{BadArg, InvalidState}
use Rattle.opus_defines.proofs.Outcomes.{refusal_negative, refusal-not}
use Rattle.collector.specs.declared.OpusRepacketizer.{OpusRepacketizer}
use Rattle.collector.specs.Collector.{least_store, sound}
use Rattle.repacketizer_out.specs.Output.{out_frames}
use Rattle.cut_orders.specs.declared.Order.{Order}
use Rattle.cut_orders.specs.Orders.{Cutting, refused_at, cut_into, behind, next, each, begun, most_orders, order_report, natural, turns, done}
use Rattle.cut_orders.specs.Orders.{with_length, with_lengths, leaves_many}
use Rattle.cut_orders.proofs.Reports.{begun_unsound, begun_tight, begun_long, begun_crowded, begun_ready}
use Rattle.cut_orders.proofs.Effects.{Whole, stopped, put, effect_whole}
use Rattle.cut_orders.proofs.Orders.{each_refused, each_none, written_behind}

-- ---- a refusal is no length
refused_turns : (e : Refusal) (n : ℕ) → turns (refusal_number e) n ≡ 0
refused_turns e n = ap (λ (z : ℤ). turns z n) (refusal_negative e).1

refused_natural : (e : Refusal) → natural (refusal_number e) ≡ 0
refused_natural e = ap natural (refusal_negative e).1

turns_most : (z : ℤ) (n : ℕ) → turns z n ≤ n
turns_most (pos t) n = omega arith
turns_most (negsuc t) n = omega arith

-- ---- before the orders
-- there is an order to go through
pub record Opens (rp : OpusRepacketizer) (store room orders : ℕ) : Type 0 where
  pub fresh : begun rp store room orders ≡ cut_into [] []
  pub soundly : sound rp ≡ true
  pub roomy : least_store ≤ store
  pub small : room ≤ 65535
  pub few : orders ≤ 48

module _ (rp : OpusRepacketizer) (store room orders : ℕ) where
  abbrev began : Cutting
  began = begun rp store room orders

  refused_none : (n i : ℕ) (e : Refusal) → began ≡ refused_at 0 e → i < turns (order_report began).number n → ⊥
  refused_none n i e q h = not-suc-le-zero (subst (λ (k : ℕ). i < k) (ap (λ (c : Cutting). turns (order_report c).number n) q ∙ refused_turns e n) h)

  pub opens : (n i : ℕ) → i < turns (order_report began).number n → Opens rp store room orders
  opens n i h =
      by_test (sound rp)
      (λ s. by_test (ltb store least_store)
      (λ t. absurd (refused_none n i BadArg (begun_tight rp store room orders s (ltb-true store least_store t)) h))
      (λ t. let enough = ltb-false store least_store t in
      by_test (ltb most_packet room)
      (λ u. absurd (refused_none n i BadArg (begun_long rp store room orders s enough (ltb-true most_packet room u)) h))
      (λ u. let small = ltb-false most_packet room u in
      by_test (ltb most_orders orders)
      (λ v. absurd (refused_none n i BadArg (begun_crowded rp store room orders s enough small (ltb-true most_orders orders v)) h))
      (λ v. let few = ltb-false most_orders orders v in
      record { fresh = begun_ready rp store room orders s enough small few; soundly = s; roomy = enough; small = small; few = few }))))
      (λ s. absurd (refused_none n i InvalidState (begun_unsound rp store room orders s) h))

  -- nothing is written yet
  module _ (os : List Order) (dst : List ℕ) where
    abbrev Unwritten : Cutting → Type 0
    Unwritten c = ((leaves_many os dst c).orders ≡ os) × (((leaves_many os dst c).bytes ≡ dst) × (natural (order_report c).number ≡ 0))

    pub begun-leaves : Unwritten began
    unfolding begun with_lengths
    begun-leaves =
        cond_elim Unwritten (sound rp) _ _
        (λ _. cond_elim Unwritten (ltb store least_store) _ _ (λ _. (refl, (refl, refl)))
        (λ _. cond_elim Unwritten (ltb 65535 room) _ _ (λ _. (refl, (refl, refl)))
        (λ _. cond_elim Unwritten (ltb 48 orders) _ _ (λ _. (refl, (refl, refl))) (λ _. (refl, (refl, refl))))))
        (λ _. (refl, (refl, refl)))

-- ---- the list, and the destination
-- what stands past the end of a list of orders
abbrev pub past : Order
past = record { begin = pos 0; end = pos 0; length = 0 }

-- lengths leave the ranges
lengths_begin : (ns : List ℕ) (os : List Order) (k : ℕ) (d : Order) → (get_or (with_lengths ns os) k d).begin ≡ (get_or os k d).begin
unfolding with_lengths
lengths_begin [] os k d = refl
lengths_begin (n ∷ ns) [] k d = refl
lengths_begin (n ∷ ns) (o ∷ os) zero d = refl
lengths_begin (n ∷ ns) (o ∷ os) (suc k) d = lengths_begin ns os k d

lengths_end : (ns : List ℕ) (os : List Order) (k : ℕ) (d : Order) → (get_or (with_lengths ns os) k d).end ≡ (get_or os k d).end
unfolding with_lengths
lengths_end [] os k d = refl
lengths_end (n ∷ ns) [] k d = refl
lengths_end (n ∷ ns) (o ∷ os) zero d = refl
lengths_end (n ∷ ns) (o ∷ os) (suc k) d = lengths_end ns os k d

lengths_many : (ns : List ℕ) (os : List Order) → length (with_lengths ns os) ≡ length os
unfolding with_lengths
lengths_many [] os = refl
lengths_many (n ∷ ns) [] = refl
lengths_many (n ∷ ns) (o ∷ os) = ap suc (lengths_many ns os)

-- one length more
lengths-next : (ns : List ℕ) (os : List Order) (n : ℕ) (d : Order) → length ns < length os
    → set (with_lengths ns os) (length ns) (with_length n (get_or (with_lengths ns os) (length ns) d)) ≡ with_lengths (ns ++ n ∷ []) os
unfolding with_lengths
lengths-next [] [] n d h = absurd (not-suc-le-zero h)
lengths-next [] (o ∷ os) n d h = refl
lengths-next (m ∷ ns) [] n d h = absurd (not-suc-le-zero h)
lengths-next (m ∷ ns) (o ∷ os) n d h = ap (λ (l : List Order). with_length m o ∷ l) (lengths-next ns os n d (le_of_suc-le-suc h))

-- ---- the orders one by one
-- that c is what i orders come to: where they are not refused, so many lengths, and no more bytes than there is room
abbrev pub Fits : ℕ → ℕ → Cutting → Type 0
Fits room i (refused_at p e) = Unit {0}
Fits room i (cut_into lengths bytes) = (length lengths ≡ i) × (length bytes ≤ room)

pub fits-natural : (room i : ℕ) (c : Cutting) → Fits room i c → natural (order_report c).number ≤ room
fits-natural room i (refused_at p e) f = rw (refused_natural e) (omega arith)
fits-natural room i (cut_into lengths bytes) f = f.1

pub fits-done : (room i : ℕ) (c : Cutting) → Fits room i c → (t : ℕ) → (order_report c).number ≡ pos t → done c ≡ i
fits-done room i (refused_at p e) f t q = absurd (refusal-not e q)
fits-done room i (cut_into lengths bytes) f t q = f.0

module _ (six : ℕ) (frames : List (List ℕ)) (room : ℕ) where
  each_next : (os : List Order) (i : ℕ) (d : Order) (c : Cutting) → i < length os → each six frames room (take (suc i) os) c
      ≡ next six frames room (get_or os i d).begin (get_or os i d).end (each six frames room (take i os) c)
  unfolding each
  each_next [] i d c h = absurd (not-suc-le-zero h)
  each_next (o ∷ os) zero d c h = refl
  each_next (o ∷ os) (suc i) d c h = each_next os i d (next six frames room o.begin o.end c) (le_of_suc-le-suc h)

  each_all : (os : List Order) (c : Cutting) → each six frames room (take (length os) os) c ≡ each six frames room os c
  each_all os c = ap (λ (l : List Order). each six frames room l c) (take-length os)

  each_two : (os us : List Order) (c : Cutting) → each six frames room (os ++ us) c ≡ each six frames room us (each six frames room os c)
  unfolding each
  each_two [] us c = refl
  each_two (o ∷ os) us c = each_two os us (next six frames room o.begin o.end c)

  -- a refusal of the first i is one of all
  each_early : (os : List Order) (i : ℕ) (c : Cutting) (p : ℕ) (e : Refusal) → each six frames room (take i os) c ≡ refused_at p e
      → each six frames room os c ≡ refused_at p e
  each_early os i c p e q =
      ap (λ (l : List Order). each six frames room l c) (sym (take-append-drop i os)) ∙ each_two (take i os) (drop i os) c
      ∙ ap (each six frames room (drop i os)) q ∙ each_refused six frames room (drop i os) p e

  behind-fits : (ls bs : List ℕ) (i : ℕ) → length ls ≡ i → length bs ≤ room → {x : Effect} → Whole (room - length bs) x
      → Fits room (suc i) (behind ls bs x)
  behind-fits ls bs i l b (stopped e) = tt
  behind-fits ls bs i l b (put vs w) = (
    length-append ls (length vs ∷ []) ∙ omega (arith, l),
    subst (λ (m : ℕ). m ≤ room) (sym (length-append bs vs)) (omega (arith, w, b)),
  )

  next_fits : (begin end : ℤ) (i : ℕ) (c : Cutting) → Fits room i c → Fits room (suc i) (next six frames room begin end c)
  next_fits begin end i (refused_at p e) f = tt
  next_fits begin end i (cut_into ls bs) f =
      behind-fits ls bs i f.0 f.1 (effect_whole six frames (room - length bs) begin end)

  pub part-fits : (os : List Order) (i : ℕ) → i ≤ length os → Fits room i (each six frames room (take i os) (cut_into [] []))
  unfolding each
  part-fits os zero h = (refl, omega arith)
  part-fits os (suc i) h =
      subst (Fits room (suc i)) (sym (each_next os i past (cut_into [] []) h))
      (next_fits (get_or os i past).begin (get_or os i past).end i (each six frames room (take i os) (cut_into [] [])) (part-fits os i (omega (arith, h))))

-- ---- what they leave
module _ (os : List Order) (dst : List ℕ) where
  pub list_long : (c : Cutting) → length (leaves_many os dst c).orders ≡ length os
  list_long (refused_at p e) = refl
  list_long (cut_into lengths bytes) = lengths_many lengths os

  pub bytes_long : (c : Cutting) → length (leaves_many os dst c).bytes ≡ length dst
  bytes_long (refused_at p e) = refl
  bytes_long (cut_into lengths bytes) = length-sets dst 0 bytes

  pub leaves_report : (c : Cutting) → order_report c ≡ (leaves_many os dst c).report
  leaves_report (refused_at p e) = refl
  leaves_report (cut_into lengths bytes) = refl

module _ (six : ℕ) (frames : List (List ℕ)) (os : List Order) (dst : List ℕ) (start : Cutting) where
  -- what the first k orders come to, and what they leave: the list, the destination, and the place behind what is written
  abbrev pub part : ℕ → Cutting
  part k = each six frames (length dst) (take k os) start

  abbrev pub list_at : ℕ → List Order
  list_at k = (leaves_many os dst (part k)).orders

  abbrev pub bytes_at : ℕ → List ℕ
  bytes_at k = (leaves_many os dst (part k)).bytes

  abbrev pub place_at : ℕ → ℕ
  place_at k = natural (order_report (part k)).number

  -- all of them
  abbrev pub whole : Cutting
  whole = each six frames (length dst) os start

  -- the orders that each pass goes through
  abbrev pub first_turns : ℕ
  first_turns = turns (order_report start).number (length os)

  abbrev pub second_turns : ℕ
  second_turns = turns (order_report whole).number first_turns

  pub first_most : first_turns ≤ length os
  first_most = turns_most (order_report start).number (length os)

  pub second_most : second_turns ≤ first_turns
  second_most = turns_most (order_report whole).number first_turns

  pub part_none : start ≡ part 0
  part_none = sym (each_none six frames (length dst) start)

  pub part-next : (i : ℕ) → i < length os → next six frames (length dst) (get_or os i past).begin (get_or os i past).end (part i) ≡ part (suc i)
  part-next i h = sym (each_next six frames (length dst) os i past start h)

  -- the single output of order k as the second pass makes it
  abbrev pub effect_at : ℕ → Effect
  effect_at k = out_frames false false six frames (get_or (list_at k) k past).begin (get_or (list_at k) k past).end (length (bytes_at k) - place_at k)

  pub record Turn (k : ℕ) : Type 0 where
    pub lengths : List ℕ
    pub bytes : List ℕ
    pub packet : List ℕ
    pub before : part k ≡ cut_into lengths bytes
    pub writes : out_frames false false six frames (get_or os k past).begin (get_or os k past).end (length dst - length bytes)
        ≡ wrote (length packet) packet
    pub after : part (suc k) ≡ cut_into (lengths ++ length packet ∷ []) (bytes ++ packet)
    pub many : length lengths ≡ k
    pub fits : length bytes + length packet ≤ length dst

  module _ (k : ℕ) (h : k < length os) (ls bs : List ℕ) (accepted : whole ≡ cut_into ls bs) where
    not_refused : (j p : ℕ) (e : Refusal) → part j ≡ refused_at p e → ⊥
    not_refused j p e q = never (let r = sym accepted ∙ each_early six frames (length dst) os j start p e q in cc)

    turn_with : (lk bk : List ℕ) → part k ≡ cut_into lk bk → Fits (length dst) k (cut_into lk bk) → {x : Effect} → Whole (length dst - length bk) x
        → out_frames false false six frames (get_or os k past).begin (get_or os k past).end (length dst - length bk) ≡ x → Turn k
    turn_with lk bk q f (stopped e) y =
        absurd (not_refused (suc k) (length lk + 1) e
        (sym (part-next k h) ∙ ap (next six frames (length dst) (get_or os k past).begin (get_or os k past).end) q ∙ ap (behind lk bk) y))
    turn_with lk bk q f (put vs w) y =
        record {
          lengths = lk;
          bytes = bk;
          packet = vs;
          before = q;
          writes = y;
          after = sym (part-next k h) ∙ ap (next six frames (length dst) (get_or os k past).begin (get_or os k past).end) q ∙ ap (behind lk bk) y;
          many = f.0;
          fits = omega (arith, f.1, w);
        }

    turn_at : (c : Cutting) → part k ≡ c → Fits (length dst) k c → Turn k
    turn_at (refused_at p e) q f = absurd (not_refused k p e q)
    turn_at (cut_into lk bk) q f =
        turn_with lk bk q f (effect_whole six frames (length dst - length bk) (get_or os k past).begin (get_or os k past).end) refl

  turn_if : (k : ℕ) → k < length os → Fits (length dst) k (part k) → (c : Cutting) → whole ≡ c → k < turns (order_report c).number first_turns
      → Turn k
  turn_if k h f (refused_at p e) q l = absurd (not-suc-le-zero (subst (λ (m : ℕ). k < m) (refused_turns e first_turns) l))
  turn_if k h f (cut_into ls bs) q l = turn_at k h ls bs q (part k) refl f

  -- a turn of the second pass: the whole list is not refused, so this order is not
  pub turn : start ≡ cut_into [] [] → (k : ℕ) → k < second_turns → Turn k
  turn new k h =
      let l : k < length os = omega (arith, h, second_most, first_most) in
      turn_if k l (subst (λ (c : Cutting). Fits (length dst) k (each six frames (length dst) (take k os) c)) (sym new)
      (part-fits six frames (length dst) os k (omega (arith, l)))) whole refl h

  module _ (k : ℕ) (h : k < length os) (t : Turn k) where
    was_list : list_at k ≡ with_lengths t.lengths os
    was_list = ap (λ (c : Cutting). (leaves_many os dst c).orders) t.before

    was_bytes : bytes_at k ≡ sets dst 0 t.bytes
    was_bytes = ap (λ (c : Cutting). (leaves_many os dst c).bytes) t.before

    was_place : place_at k ≡ length t.bytes
    was_place = ap (λ (c : Cutting). natural (order_report c).number) t.before

    put_writes : effect_at k ≡ wrote (length t.packet) t.packet
    put_writes =
        rw (was_list, was_bytes, was_place, lengths_begin t.lengths os k past, lengths_end t.lengths os k past, length-sets dst 0 t.bytes) t.writes

    -- it is not refused
    pub put_taken : (e : Refusal) → effect_at k ≡ refusal e → ⊥
    put_taken e q = never (let r = sym put_writes ∙ q in cc)

    pub place_within : place_at k ≤ length (bytes_at k)
    place_within = rw (was_bytes, was_place, length-sets dst 0 t.bytes) (omega (arith, t.fits))

    pub put_length : (s : List ℕ) → natural (leaves s (effect_at k)).report.number ≡ length t.packet
    put_length s = ap (λ (x : Effect). natural (leaves s x).report.number) put_writes

    pub put_bytes : take (place_at k) (bytes_at k) ++ (leaves (drop (place_at k) (bytes_at k)) (effect_at k)).bytes ≡ bytes_at (suc k)
    put_bytes =
        ap (λ (x : Effect). take (place_at k) (bytes_at k) ++ (leaves (drop (place_at k) (bytes_at k)) x).bytes) put_writes
        ∙ rw (was_bytes, was_place) (written_behind dst t.bytes t.packet (omega (arith, t.fits)))
        ∙ sym (ap (λ (c : Cutting). (leaves_many os dst c).bytes) t.after)

    pub put_list : set (list_at k) k (with_length (length t.packet) (get_or (list_at k) k past)) ≡ list_at (suc k)
    put_list =
        ap (λ (l : List Order). set l k (with_length (length t.packet) (get_or l k past))) was_list
        ∙ subst (λ (j : ℕ). set (with_lengths t.lengths os) j (with_length (length t.packet) (get_or (with_lengths t.lengths os) j past))
        ≡ with_lengths (t.lengths ++ length t.packet ∷ []) os) t.many
        (lengths-next t.lengths os (length t.packet) past (omega (arith, h, t.many)))
        ∙ sym (ap (λ (c : Cutting). (leaves_many os dst c).orders) t.after)

    pub put_place : place_at k + length t.packet ≡ place_at (suc k)
    put_place =
        ap (λ (m : ℕ). m + length t.packet) was_place ∙ sym (length-append t.bytes t.packet)
        ∙ sym (ap (λ (c : Cutting). natural (order_report c).number) t.after)

    pub put_fits : place_at k + length t.packet ≤ length dst
    put_fits = rw was_place t.fits

-- the first pass goes through all
pub part_whole : (six : ℕ) (frames : List (List ℕ)) (os : List Order) (dst : List ℕ) (start : Cutting)
    → part six frames os dst start (first_turns six frames os dst start) ≡ whole six frames os dst start
part_whole six frames os dst (refused_at p e) =
    each_refused six frames (length dst) (take (turns (refusal_number e) (length os)) os) p e ∙ sym (each_refused six frames (length dst) os p e)
part_whole six frames os dst (cut_into ls bs) = each_all six frames (length dst) os (cut_into ls bs)

-- where the second pass ends
module _ (six : ℕ) (frames : List (List ℕ)) (os : List Order) (dst : List ℕ) (start : Cutting)
    (same_list : (leaves_many os dst start).orders ≡ os) (same_bytes : (leaves_many os dst start).bytes ≡ dst) where
  abbrev Left : ℕ → Cutting → Type 0
  Left k c = (list_at six frames os dst start k ≡ (leaves_many os dst c).orders) × (bytes_at six frames os dst start k ≡ (leaves_many os dst c).bytes)

  left_at : (c : Cutting) → whole six frames os dst start ≡ c → Left (turns (order_report c).number (first_turns six frames os dst start)) c
  unfolding each
  left_at (refused_at p e) q =
      subst (λ (k : ℕ). Left k (refused_at p e)) (sym (refused_turns e (first_turns six frames os dst start))) (same_list, same_bytes)
  left_at (cut_into ls bs) q =
      let is = part_whole six frames os dst start ∙ q in
      (ap (λ (c : Cutting). (leaves_many os dst c).orders) is, ap (λ (c : Cutting). (leaves_many os dst c).bytes) is)

  pub part_left : Left (second_turns six frames os dst start) (whole six frames os dst start)
  part_left = left_at (whole six frames os dst start) refl
