-- A list of orders is single calls, one after another.
--     singly_wrote, singly_refused             single calls, one more
--     Agrees, each_agrees, Same, many_same     the orders one by one against single calls one by one
-- Assumes nothing.
use Prim.Native.Nat.{ℕ, suc, ◌+◌, ◌-◌, ◌≤◌}
use native.Mathlib.Omega.{arith}
use mathlib.Core.Path.{◌≡◌, refl, sym, ap, ◌∙◌}
use mathlib.Core.List.{List, [], ◌∷◌, ◌++◌, append-nil, append_assoc}
use mathlib.Core.Bool.{true, false}
use lib.IntN.{pos, negsuc}
use lib.ListN.{length, take, drop, length-append, length-drop}
use lib.Seq.{sets, length-sets}
use Rattle.laws.proofs.Never.{never}
use Rattle.opus_defines.specs.Bounds.{most_packet}
use Rattle.opus_defines.specs.Outcome.{Effect, refusal, wrote, Outcome, leaves}
use Rattle.opus_defines.proofs.Outcomes.{refusal_negative, refusal-not}
use Rattle.opus_toc.specs.Toc.{upper_six}
use Rattle.collector.specs.declared.OpusRepacketizer.{OpusRepacketizer}
use Rattle.collector.specs.Collector.{held, least_store, sound}
use Rattle.repacketizer_out.specs.Output.{out_frames, out_range}
use Rattle.repacketizer_out.proofs.Outputs.{out_sound}
use Rattle.cut_orders.specs.declared.Order.{Order}
use Rattle.cut_orders.specs.Orders.{Cutting, refused_at, cut_into, behind, each, most_orders, order_report}
use Rattle.cut_orders.specs.Orders.{with_lengths, ManyOutcome, leaves_many, out_many}
use Rattle.cut_orders.specs.Singly.{Singles, and_then, singly}
use Rattle.cut_orders.proofs.Effects.{Whole, stopped, put, effect_whole}
use Rattle.cut_orders.proofs.Orders.{each_refused, written_behind}
use Rattle.cut_orders.proofs.Many.{many_sound}

-- ---- the destination
-- what is left of it
left_over : (dst bs : List ℕ) → length (drop (length bs) (sets dst 0 bs)) ≡ length dst - length bs
left_over dst bs = simp (length-drop, length-sets)

-- ---- single calls, one more
module _ (rp : OpusRepacketizer) (store : List ℕ) (o : Order) (os : List Order) (p at : ℕ) (dst : List ℕ) (call : Outcome)
    (is : out_range false false rp store o.begin o.end (drop at dst) ≡ call) (n : ℕ) where
  singly_wrote : call.report.number ≡ pos n
      → singly rp store (o ∷ os) p at dst ≡ and_then n (singly rp store os (suc p) (at + n) (take at dst ++ call.bytes))
  unfolding singly
  singly_wrote e = rw (is, e)

  singly_refused : call.report.number ≡ negsuc n
      → singly rp store (o ∷ os) p at dst ≡ record { report = record { number = negsuc n; position = p }; lengths = []; bytes = dst }
  unfolding singly
  singly_refused e = rw (is, e)

-- ---- the orders one by one
-- what they come to, ls lengths being there before them, against what single calls answer and leave of the destination
abbrev Agrees : List ℕ → List ℕ → Cutting → Singles → Type 0
Agrees dst ls (refused_at p e) s = s.report ≡ order_report (refused_at p e)
Agrees dst ls (cut_into ns bs) s = (s.report ≡ order_report (cut_into ns bs)) × ((ns ≡ ls ++ s.lengths) × (s.bytes ≡ sets dst 0 bs))

agrees_then : (dst ls : List ℕ) (n : ℕ) (c : Cutting) (s : Singles) → Agrees dst (ls ++ n ∷ []) c s → Agrees dst ls c (and_then n s)
agrees_then dst ls n (refused_at p e) s a = a
agrees_then dst ls n (cut_into ns bs) s a = (a.0, (a.1.0 ∙ append_assoc ls (n ∷ []) s.lengths, a.1.1))

module _ (rp : OpusRepacketizer) (store : List ℕ) (s : sound rp ≡ true) (h : least_store ≤ length store) (dst : List ℕ)
    (k : length dst ≤ most_packet) where
  abbrev ones : List Order → Cutting → Cutting
  ones os c = each (upper_six rp.toc) (held rp store) (length dst) os c

  abbrev calls : List Order → List ℕ → List ℕ → Singles
  calls os ls bs = singly rp store os (length ls + 1) (length bs) (sets dst 0 bs)

  abbrev rest : List ℕ → List ℕ
  rest bs = drop (length bs) (sets dst 0 bs)

  abbrev one : Order → List ℕ → Effect
  one o bs = out_frames false false (upper_six rp.toc) (held rp store) o.begin o.end (length dst - length bs)

  call_is : (o : Order) (bs : List ℕ) → out_range false false rp store o.begin o.end (rest bs) ≡ leaves (rest bs) (one o bs)
  call_is o bs =
      out_sound false false rp store o.begin o.end (rest bs) s h (omega (arith, left_over dst bs)) ∙ rw (left_over dst bs)

  more_agree : (o : Order) (os : List Order) (ls bs vs : List ℕ) → length bs ≤ length dst → length vs ≤ length dst - length bs
      → out_range false false rp store o.begin o.end (rest bs) ≡ leaves (rest bs) (wrote (length vs) vs)
      → (c : Cutting) → Agrees dst (ls ++ length vs ∷ []) c (calls os (ls ++ length vs ∷ []) (bs ++ vs)) → Agrees dst ls c (calls (o ∷ os) ls bs)
  more_agree o os ls bs vs m f is c a =
      let n = length vs in
      let next : suc (length ls + 1) ≡ length (ls ++ n ∷ []) + 1 = omega (arith, length-append ls (n ∷ [])) in
      let all : length bs + n ≡ length (bs ++ vs) = sym (length-append bs vs) in
      rw (
        singly_wrote rp store o os (length ls + 1) (length bs) (sets dst 0 bs) (leaves (rest bs) (wrote n vs)) is n refl,
        written_behind dst bs vs m,
        next,
        all,
      ) (agrees_then dst ls n c (calls os (ls ++ n ∷ []) (bs ++ vs)) a)

  each_agrees : (os : List Order) (ls bs : List ℕ) → length bs ≤ length dst → Agrees dst ls (ones os (cut_into ls bs)) (calls os ls bs)
  unfolding each singly
  each_agrees [] ls bs m = (refl, (sym (append-nil ls), refl))
  each_agrees (o ∷ os) ls bs m =
      go (one o bs) (call_is o bs) (effect_whole (upper_six rp.toc) (held rp store) (length dst - length bs) o.begin o.end)
      (λ vs. each_agrees os (ls ++ length vs ∷ []) (bs ++ vs))
    where
      go : (x : Effect) → out_range false false rp store o.begin o.end (rest bs) ≡ leaves (rest bs) x → Whole (length dst - length bs) x
          → ((vs : List ℕ) → length (bs ++ vs) ≤ length dst
          → Agrees dst (ls ++ length vs ∷ []) (ones os (cut_into (ls ++ length vs ∷ []) (bs ++ vs))) (calls os (ls ++ length vs ∷ []) (bs ++ vs)))
          → Agrees dst ls (ones os (behind ls bs x)) (calls (o ∷ os) ls bs)
      go x is (stopped e) f =
          let z = refusal_negative e in
          rw (
            each_refused (upper_six rp.toc) (held rp store) (length dst) os (length ls + 1) e,
            singly_refused rp store o os (length ls + 1) (length bs) (sets dst 0 bs) (leaves (rest bs) (refusal e)) is z.0 z.1,
            z.1,
          )
      go x is (put vs w) f =
          more_agree o os ls bs vs m w is (ones os (cut_into (ls ++ length vs ∷ []) (bs ++ vs))) (f vs (omega (arith, w, length-append bs vs)))

-- ---- the call
-- its answer against that of single calls; where they are not refused what both leave; and what it leaves where they are
abbrev pub Same : List Order → List ℕ → ManyOutcome → Singles → Type 0
Same orders dst o s =
    (o.report ≡ s.report)
    × ((n : ℕ) → s.report.number ≡ pos n → (o.orders ≡ with_lengths s.lengths orders) × (o.bytes ≡ s.bytes))
    × ((n : ℕ) → s.report.number ≡ negsuc n → (o.orders ≡ orders) × (o.bytes ≡ dst))

agrees_same : (orders : List Order) (dst : List ℕ) (c : Cutting) (s : Singles) → Agrees dst [] c s → Same orders dst (leaves_many orders dst c) s
agrees_same orders dst (refused_at p e) s a = (sym a, λ n h. absurd (refusal-not e (rw a at h)), λ n h. (refl, refl))
agrees_same orders dst (cut_into ns bs) s a =
    (sym a.0, λ n h. (ap (λ (l : List ℕ). with_lengths l orders) a.1.0, sym a.1.1), λ n h. never (let z = rw a.0 at h in cc))

pub many_same : (rp : OpusRepacketizer) (store : List ℕ) → sound rp ≡ true → least_store ≤ length store
    → (dst : List ℕ) → length dst ≤ most_packet
    → (orders : List Order) → length orders ≤ most_orders
    → Same orders dst (out_many rp store orders dst) (singly rp store orders 1 0 dst)
many_same rp store s h dst k orders n =
    rw (many_sound rp store orders dst s h k n)
    (agrees_same orders dst (each (upper_six rp.toc) (held rp store) (length dst) orders (cut_into [] [])) (singly rp store orders 1 0 dst)
    (each_agrees rp store s h dst k orders [] [] (omega arith)))
