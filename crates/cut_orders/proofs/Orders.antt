-- The orders one by one, and the packets that they leave.
--     each_refused, each_wrote, each_stopped, each_none     by what one order does
--     written_behind                                        a packet behind those that are written
-- Assumes nothing.
use Prim.Native.Nat.{ℕ, ◌+◌, ◌-◌, ◌≤◌}
use native.Mathlib.Omega.{arith}
use mathlib.Core.Path.{◌≡◌, refl, ◌∙◌}
use mathlib.Core.List.{List, [], ◌∷◌, ◌++◌}
use mathlib.Core.Bool.{false}
use lib.ListN.{length, take, drop, length-append}
use lib.Seq.{sets, length-sets}
use Rattle.opus_defines.specs.Outcome.{Effect, refusal, wrote}
use Rattle.opus_defines.specs.declared.Refusal.{Refusal}
use Rattle.repacketizer_out.specs.Output.{out_frames}
use Rattle.cut_orders.specs.declared.Order.{Order}
use Rattle.cut_orders.specs.Orders.{Cutting, refused_at, cut_into, each}
use Rattle.blocks.proofs.LentParts.{sets-front}
use Rattle.blocks.proofs.Sets.{take-sets, sets_over}

-- orders behind a refused one, or behind a refusal that is no order's, are not looked at
pub each_refused : (six : ℕ) (frames : List (List ℕ)) (room : ℕ) (os : List Order) (p : ℕ) (e : Refusal)
    → each six frames room os (refused_at p e) ≡ refused_at p e
unfolding each
each_refused six frames room [] p e = refl
each_refused six frames room (o ∷ os) p e = each_refused six frames room os p e

-- one order more
module _ (six : ℕ) (frames : List (List ℕ)) (room : ℕ) (o : Order) (os : List Order) (ls bs : List ℕ) where
  abbrev first : Effect
  first = out_frames false false six frames o.begin o.end (room - length bs)

  pub each_wrote : {n : ℕ} {vs : List ℕ} → first ≡ wrote n vs
      → each six frames room (o ∷ os) (cut_into ls bs) ≡ each six frames room os (cut_into (ls ++ n ∷ []) (bs ++ vs))
  unfolding each
  each_wrote e = rw e

  pub each_stopped : {e : Refusal} → first ≡ refusal e → each six frames room (o ∷ os) (cut_into ls bs) ≡ refused_at (length ls + 1) e
  unfolding each
  each_stopped {e} r = rw r (each_refused six frames room os (length ls + 1) e)

pub each_none : (six : ℕ) (frames : List (List ℕ)) (room : ℕ) (c : Cutting) → each six frames room [] c ≡ c
unfolding each
each_none six frames room c = refl

-- a packet behind those that are written
pub written_behind : (dst bs vs : List ℕ) → length bs ≤ length dst
    → take (length bs) (sets dst 0 bs) ++ sets (drop (length bs) (sets dst 0 bs)) 0 vs ≡ sets dst 0 (bs ++ vs)
written_behind dst bs vs h =
    let inside : length bs ≤ length (sets dst 0 bs) = omega (arith, length-sets dst 0 bs) in
    let more : length bs ≤ length (bs ++ vs) = omega (arith, length-append bs vs) in
    sets-front (sets dst 0 bs) (length bs) vs inside ∙ rw (take-sets dst bs h, sets_over dst 0 bs (bs ++ vs) more)
