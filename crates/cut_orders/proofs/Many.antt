-- What a list of orders answers and leaves.
--     many_unsound, many_tight, many_long, many_crowded     what is refused before the orders
--     many_sound                                            and what is not
--     Went, each_went                                       how far the orders get
--     with_more, with_none                                  the list with its lengths
--     many-..                                               what the call leaves, and the call with no order
-- Assumes nothing.
use Prim.Native.Nat.{ℕ, suc, ◌+◌, ◌-◌, ◌≤◌, ◌<◌}
use native.Mathlib.Omega.{arith}
use mathlib.Core.Path.{◌≡◌, refl, sym, ap, ◌∙◌}
use mathlib.Core.List.{List, [], ◌∷◌, ◌++◌, map}
use mathlib.Core.Bool.{true, false}
use lib.Dec.{ltb}
use lib.IntN.{ℤ, pos, negsuc}
use lib.ListN.{length, drop, length-append, length-map}
use lib.Seq.{length-sets}
use Rattle.laws.proofs.Never.{never, cond_elim}
use Rattle.opus_defines.specs.Bounds.{most_packet}
use Rattle.opus_defines.specs.Outcome.{Effect}
use Rattle.opus_defines.specs.declared.Refusal.{Refusal}
use Rattle.opus_defines.specs.declared.Refusal.TheVariants.{BadArg, InvalidState}
use Rattle.opus_defines.proofs.Outcomes.{refusal-not}
use Rattle.opus_toc.specs.Toc.{upper_six}
use Rattle.opus_format.specs.Frames.{total}
use Rattle.opus_format.proofs.Frames.{total_snoc}
use Rattle.blocks.proofs.Sets.{drop-sets_past}
use Rattle.collector.specs.declared.OpusRepacketizer.{OpusRepacketizer}
use Rattle.collector.specs.Collector.{held, least_store, sound}
use Rattle.repacketizer_out.specs.Output.{out_frames}
use Rattle.cut_orders.specs.declared.Order.{Order}
use Rattle.cut_orders.specs.Orders.{Cutting, refused_at, cut_into, behind, each, most_orders, begun, cutting}
use Rattle.cut_orders.specs.Orders.{with_length, with_lengths, ManyOutcome, leaves_many, out_many}
use Rattle.cut_orders.proofs.Reports.{begun_unsound, begun_tight, begun_long, begun_crowded, begun_ready}
use Rattle.cut_orders.proofs.Effects.{Whole, stopped, put, effect_whole}
use Rattle.cut_orders.proofs.Orders.{each_refused}

-- ---- the call by its tests
module _ (rp : OpusRepacketizer) (store : List ℕ) (orders : List Order) (dst : List ℕ) where
  abbrev six : ℕ
  six = upper_six rp.toc

  -- a refusal that is no order's
  guarded : (e : Refusal) → begun rp (length store) (length dst) (length orders) ≡ refused_at 0 e
      → out_many rp store orders dst ≡ leaves_many orders dst (refused_at 0 e)
  unfolding out_many
  guarded e b = rw (b, each_refused six (held rp store) (length dst) orders 0 e)

  pub many_unsound : sound rp ≡ false → out_many rp store orders dst ≡ leaves_many orders dst (refused_at 0 InvalidState)
  many_unsound s = guarded InvalidState (begun_unsound rp (length store) (length dst) (length orders) s)

  module _ (s : sound rp ≡ true) where
    pub many_tight : length store < least_store → out_many rp store orders dst ≡ leaves_many orders dst (refused_at 0 BadArg)
    many_tight h = guarded BadArg (begun_tight rp (length store) (length dst) (length orders) s h)

    module _ (h : least_store ≤ length store) where
      pub many_long : most_packet < length dst → out_many rp store orders dst ≡ leaves_many orders dst (refused_at 0 BadArg)
      many_long k = guarded BadArg (begun_long rp (length store) (length dst) (length orders) s h k)

      module _ (k : length dst ≤ most_packet) where
        pub many_crowded : most_orders < length orders → out_many rp store orders dst ≡ leaves_many orders dst (refused_at 0 BadArg)
        many_crowded n = guarded BadArg (begun_crowded rp (length store) (length dst) (length orders) s h k n)

        pub many_sound : length orders ≤ most_orders
            → out_many rp store orders dst ≡ leaves_many orders dst (each six (held rp store) (length dst) orders (cut_into [] []))
        unfolding out_many
        many_sound n = rw (begun_ready rp (length store) (length dst) (length orders) s h k n)

-- ---- how far the orders get
-- n orders, of which so many are done before: a refusal is at the position of one of the others; else each has its length, and these sum to the bytes
abbrev Went : ℕ → ℕ → Cutting → Type 0
Went before n (refused_at p e) = (before < p) × (p ≤ before + n)
Went before n (cut_into ns bs) = (length ns ≡ before + n) × (total ns ≡ length bs)

went_more : (before n : ℕ) (c : Cutting) → Went (before + 1) n c → Went before (suc n) c
went_more before n (refused_at p e) w = (omega (arith, w.0), omega (arith, w.1))
went_more before n (cut_into ns bs) w = (omega (arith, w.0), w.1)

each_went : (six : ℕ) (frames : List (List ℕ)) (room : ℕ) (os : List Order) (ls bs : List ℕ) → total ls ≡ length bs
    → Went (length ls) (length os) (each six frames room os (cut_into ls bs))
unfolding each
each_went six frames room [] ls bs t = (omega arith, t)
each_went six frames room (o ∷ os) ls bs t =
    let left = room - length bs in
    go (out_frames false false six frames o.begin o.end left) (effect_whole six frames left o.begin o.end)
    (λ n vs. each_went six frames room os (ls ++ n ∷ []) (bs ++ vs))
  where
    go : (x : Effect) → Whole (room - length bs) x
        → ((n : ℕ) (vs : List ℕ) → total (ls ++ n ∷ []) ≡ length (bs ++ vs)
        → Went (length (ls ++ n ∷ [])) (length os) (each six frames room os (cut_into (ls ++ n ∷ []) (bs ++ vs))))
        → Went (length ls) (suc (length os)) (each six frames room os (behind ls bs x))
    go x (stopped e) f = rw (each_refused six frames room os (length ls + 1) e) (omega arith, omega arith)
    go x (put vs w) f =
        let n = length vs in
        went_more (length ls) (length os) (each six frames room os (cut_into (ls ++ n ∷ []) (bs ++ vs)))
        (rw (length-append ls (n ∷ [])) at (f n vs (omega (arith, t, total_snoc ls n, length-append bs vs))))

-- ---- what a call leaves, whatever its orders come to
module _ (os : List Order) (dst : List ℕ) where
  refused_stays : (c : Cutting) (n : ℕ) → (leaves_many os dst c).report.number ≡ negsuc n
      → ((leaves_many os dst c).orders ≡ os) × ((leaves_many os dst c).bytes ≡ dst)
  refused_stays (refused_at p e) n h = (refl, refl)
  refused_stays (cut_into ns bs) n h = never (cc)

  no_position : (c : Cutting) (n : ℕ) → (leaves_many os dst c).report.number ≡ pos n → (leaves_many os dst c).report.position ≡ 0
  no_position (refused_at p e) n h = absurd (refusal-not e h)
  no_position (cut_into ns bs) n h = refl

  position_within : (c : Cutting) → Went 0 (length os) c → (n : ℕ) → (leaves_many os dst c).report.number ≡ negsuc n
      → (1 ≤ (leaves_many os dst c).report.position) × ((leaves_many os dst c).report.position ≤ length os)
  position_within (refused_at p e) w n h = (w.0, omega (arith, w.1))
  position_within (cut_into ns bs) w n h = never (cc)

  past_stays : (c : Cutting) (n : ℕ) → (leaves_many os dst c).report.number ≡ pos n → drop n (leaves_many os dst c).bytes ≡ drop n dst
  past_stays (refused_at p e) n h = absurd (refusal-not e h)
  past_stays (cut_into ns bs) n h =
      let count : length bs ≡ n = cc in
      drop-sets_past dst 0 bs n (omega arith)

  as_long : (c : Cutting) → length (leaves_many os dst c).bytes ≡ length dst
  as_long (refused_at p e) = refl
  as_long (cut_into ns bs) = length-sets dst 0 bs

pub with_more : (n : ℕ) (ns : List ℕ) (o : Order) (os : List Order) → with_lengths (n ∷ ns) (o ∷ os) ≡ with_length n o ∷ with_lengths ns os
unfolding with_lengths
with_more n ns o os = refl

pub with_none : (os : List Order) → with_lengths [] os ≡ os
unfolding with_lengths
with_none os = refl

-- what does not go by an order's length is as it was
with_lengths_lem : {A : Type 0} (f : Order → A) → ((n : ℕ) (o : Order) → f (with_length n o) ≡ f o) → (ns : List ℕ) (os : List Order)
    → map f (with_lengths ns os) ≡ map f os
unfolding with_lengths
with_lengths_lem f same [] os = refl
with_lengths_lem f same (n ∷ ns) [] = refl
with_lengths_lem f same (n ∷ ns) (o ∷ os) = rw (same n o, with_lengths_lem f same ns os)

lengths_with : (ns : List ℕ) (os : List Order) → length ns ≡ length os → map (λ (o : Order). o.length) (with_lengths ns os) ≡ ns
unfolding with_lengths
lengths_with [] [] h = refl
lengths_with [] (o ∷ os) h = absurd (omega arith)
lengths_with (n ∷ ns) [] h = absurd (omega arith)
lengths_with (n ∷ ns) (o ∷ os) h = rw (lengths_with ns os (omega arith))

module _ (os : List Order) (dst : List ℕ) where
  others_stay : {A : Type 0} (f : Order → A) → ((n : ℕ) (o : Order) → f (with_length n o) ≡ f o) → (c : Cutting)
      → map f (leaves_many os dst c).orders ≡ map f os
  others_stay f same (refused_at p e) = refl
  others_stay f same (cut_into ns bs) = with_lengths_lem f same ns os

  sums_up : (c : Cutting) → Went 0 (length os) c → (n : ℕ) → (leaves_many os dst c).report.number ≡ pos n
      → total (map (λ (o : Order). o.length) (leaves_many os dst c).orders) ≡ n
  sums_up (refused_at p e) w n h = absurd (refusal-not e h)
  sums_up (cut_into ns bs) w n h =
      let count : length bs ≡ n = cc in
      rw (lengths_with ns os (omega (arith, w.0))) (w.1 ∙ count)

-- a fact of what is refused before the orders, from the fact of each refusal and of none
begun_by : (P : Cutting → Type 0) (rp : OpusRepacketizer) (store room orders : ℕ) → ((e : Refusal) → P (refused_at 0 e)) → P (cut_into [] [])
    → P (begun rp store room orders)
unfolding begun
begun_by P rp store room orders r c =
    cond_elim P (sound rp) _ _
    (λ s. cond_elim P (ltb store least_store) _ _ (λ t. r BadArg)
    (λ t. cond_elim P (ltb most_packet room) _ _ (λ u. r BadArg)
    (λ u. cond_elim P (ltb most_orders orders) _ _ (λ v. r BadArg) (λ v. c))))
    (λ s. r InvalidState)

-- ---- what the call leaves
module _ (rp : OpusRepacketizer) (store : List ℕ) (orders : List Order) (dst : List ℕ) where
  abbrev many : ManyOutcome
  many = out_many rp store orders dst

  pub many_refused_stays : (n : ℕ) → many.report.number ≡ negsuc n → (many.orders ≡ orders) × (many.bytes ≡ dst)
  unfolding out_many
  many_refused_stays = refused_stays orders dst (cutting rp store orders (length dst))

  pub many_no_position : (n : ℕ) → many.report.number ≡ pos n → many.report.position ≡ 0
  unfolding out_many
  many_no_position = no_position orders dst (cutting rp store orders (length dst))

  pub many_position : sound rp ≡ true → least_store ≤ length store → length dst ≤ most_packet → length orders ≤ most_orders
      → (n : ℕ) → many.report.number ≡ negsuc n → (1 ≤ many.report.position) × (many.report.position ≤ length orders)
  many_position s h k few =
      rw (many_sound rp store orders dst s h k few)
      (position_within orders dst (each (upper_six rp.toc) (held rp store) (length dst) orders (cut_into [] []))
      (each_went (upper_six rp.toc) (held rp store) (length dst) orders [] [] refl))

  pub many_past_stays : (n : ℕ) → many.report.number ≡ pos n → drop n many.bytes ≡ drop n dst
  unfolding out_many
  many_past_stays = past_stays orders dst (cutting rp store orders (length dst))

  pub many_as_long : length many.bytes ≡ length dst
  unfolding out_many
  many_as_long = as_long orders dst (cutting rp store orders (length dst))

  pub many_others_stay : {A : Type 0} (f : Order → A) → ((n : ℕ) (o : Order) → f (with_length n o) ≡ f o) → map f many.orders ≡ map f orders
  unfolding out_many
  many_others_stay f same = others_stay orders dst f same (cutting rp store orders (length dst))

  pub many_as_many : length many.orders ≡ length orders
  many_as_many =
      let begin : Order → ℤ = λ o. o.begin in
      sym (length-map many.orders begin) ∙ (ap length (many_others_stay begin (λ n o. refl)) ∙ length-map orders begin)

  pub many_sums_up : (n : ℕ) → many.report.number ≡ pos n → total (map (λ (o : Order). o.length) many.orders) ≡ n
  unfolding out_many
  many_sums_up =
      let ones = each (upper_six rp.toc) (held rp store) (length dst) orders in
      begun_by
      (λ (c : Cutting). (n : ℕ) → (leaves_many orders dst (ones c)).report.number ≡ pos n
      → total (map (λ (o : Order). o.length) (leaves_many orders dst (ones c)).orders) ≡ n)
      rp (length store) (length dst) (length orders)
      (λ e. rw (each_refused (upper_six rp.toc) (held rp store) (length dst) orders 0 e) (λ n h. absurd (refusal-not e h)))
      (sums_up orders dst (ones (cut_into [] [])) (each_went (upper_six rp.toc) (held rp store) (length dst) orders [] [] refl))

-- no order
pub many_none : (rp : OpusRepacketizer) (store dst : List ℕ) → sound rp ≡ true → least_store ≤ length store → length dst ≤ most_packet
    → out_many rp store [] dst ≡ record { report = record { number = pos 0; position = 0 }; orders = []; bytes = dst }
unfolding each with_lengths
many_none rp store dst s h k = many_sound rp store [] dst s h k (omega arith)
