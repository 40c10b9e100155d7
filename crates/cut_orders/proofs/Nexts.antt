-- One order more, as the first pass answers it.
--     next_refused     a call that is refused stays so
--     next_stops       the order is refused
--     next_goes        it is not
--     natural_most, number_most     how much it can be
-- Assumes nothing.
use Prim.Native.Nat.{ℕ, ◌+◌, ◌-◌, ◌≤◌}
use mathlib.Core.Path.{◌≡◌, sym, ap, ◌∙◌, subst}
use mathlib.Core.List.{List, ◌++◌}
use mathlib.Core.Bool.{false}
use lib.IntN.{ℤ, pos}
use lib.ListN.{length, length-append}
use Rattle.laws.proofs.Never.{never}
use Rattle.opus_defines.specs.Numbers.{refusal_number, number_of, count_of}
use Rattle.opus_defines.specs.Outcome.{Effect, refusal, wrote, leaves}
use Rattle.std.specs.Prelude.{Err, None, Ok, Result}
use Rattle.opus_defines.specs.declared.Refusal.{Refusal}
use Rattle.opus_defines.proofs.Outcomes.{refusal-not}
use Rattle.repacketizer_out.specs.Output.{out_frames}
use Rattle.cut_orders.specs.declared.OrderReport.{OrderReport}
use Rattle.cut_orders.specs.Orders.{Cutting, refused_at, cut_into, behind, next, order_report, done, natural}
use Rattle.cut_orders.proofs.Reports.{reported}
use Rattle.cut_orders.proofs.Effects.{Whole, stopped, put, effect_whole}

number_of_lem : {r s : OrderReport} → r ≡ s → r.number ≡ s.number
number_of_lem e = ap (λ (r : OrderReport). r.number) e

-- ---- one packet more
behind_stops : (ls bs dst : List ℕ) (x : Effect) (e : Refusal) (i : ℕ) → length ls ≡ i → refusal_number e ≡ (leaves dst x).report.number
    → reported (Err e) (i + 1) ≡ order_report (behind ls bs x)
behind_stops ls bs dst (refusal f) e i l h = rw (l, h)
behind_stops ls bs dst (wrote n vs) e i l h = absurd (refusal-not e h)

behind_goes : (room : ℕ) (ls bs dst : List ℕ) (x : Effect) → Whole room x → (n t : ℕ) → t ≡ length bs → pos n ≡ (leaves dst x).report.number
    → reported (Ok (t + n)) 0 ≡ order_report (behind ls bs x)
behind_goes room ls bs dst x (stopped e) n t b h = absurd (refusal-not e (sym h))
behind_goes room ls bs dst x (put vs k) n t b h =
    let m : n ≡ length vs = cc in
    let long : length (bs ++ vs) ≡ length bs + length vs = length-append bs vs in
    rw (long, b, m)

-- ---- by the cutting so far
module _ (six : ℕ) (frames : List (List ℕ)) (room : ℕ) (begin end : ℤ) (m : OrderReport) where
  pub next_refused : (c : Cutting) → m ≡ order_report c → count_of m.number ≡ None → m ≡ order_report (next six frames room begin end c)
  next_refused (refused_at p e) h k = h
  next_refused (cut_into ls bs) h k = never (let n = number_of_lem h in cc)

  module _ (t : ℕ) (used : m.number ≡ pos t) (dst : List ℕ) where
    module _ (a : Result ℕ Refusal) (g : number_of a ≡ (leaves dst (out_frames false false six frames begin end (room - t))).report.number) where
      pub next_stops : (c : Cutting) → m ≡ order_report c → (e : Refusal) → a ≡ Err e → (i : ℕ) → done c ≡ i
          → reported a (i + 1) ≡ order_report (next six frames room begin end c)
      next_stops (refused_at p f) h e q i d = absurd (refusal-not f (sym (number_of_lem h) ∙ used))
      next_stops (cut_into ls bs) h e q i d =
          let same : t ≡ length bs = cc in
          let says : refusal_number e ≡ (leaves dst (out_frames false false six frames begin end (room - t))).report.number = sym (ap number_of q) ∙ g in
          rw q (behind_stops ls bs dst (out_frames false false six frames begin end (room - length bs)) e i d (rw (← same) says))

      pub next_goes : (c : Cutting) → m ≡ order_report c → (n : ℕ) → a ≡ Ok n → {w : ℕ} → w ≡ n
          → reported (Ok (t + w)) 0 ≡ order_report (next six frames room begin end c)
      next_goes (refused_at p f) h n q v = absurd (refusal-not f (sym (number_of_lem h) ∙ used))
      next_goes (cut_into ls bs) h n q v =
          let same : t ≡ length bs = cc in
          let says : pos n ≡ (leaves dst (out_frames false false six frames begin end (room - t))).report.number = sym (ap number_of q) ∙ g in
          rw v
          (behind_goes (room - length bs) ls bs dst (out_frames false false six frames begin end (room - length bs))
          (effect_whole six frames (room - length bs) begin end) n t same (rw (← same) says))

-- ---- how much it can be
pub natural_most : {z : ℤ} {t room : ℕ} → z ≡ pos t → natural z ≤ room → t ≤ room
natural_most {room = room} e h = subst (λ (y : ℤ). natural y ≤ room) e h

pub number_most : {a : Result ℕ Refusal} {n room : ℕ} → a ≡ Ok n → natural (number_of a) ≤ room → n ≤ room
number_most {room = room} e h = subst (λ (b : Result ℕ Refusal). natural (number_of b) ≤ room) e h
