-- An order's packet put into what the destination has left.
--     range_room, range_put          of a range of the frames held
--     Taken, taken                   an order that is not refused has a range of the frames held, and room
--     passed_fits, .., put_part_lem      what is put into that part is what the single output leaves of the whole
-- Assumes nothing.
use Prim.Native.Nat.{ℕ, ◌-◌, ◌^◌, ◌≤◌, ◌<◌}
use native.Mathlib.Omega.{arith}
use mathlib.Core.Path.{◌≡◌, refl, sym, ap, ◌∙◌, subst}
use mathlib.Core.List.{List, ◌++◌}
use mathlib.Core.Bool.{false}
use lib.IntN.{ℤ, pos, negsuc, nat_abs}
use lib.Signed.{non_neg}
use lib.ListN.{length, take, drop, length-take, length-drop}
use lib.Seq.{sets}
use lib.Dec.{T, ltb}
use mir.Syntax.{w32, w64}
use mir.Val.{SFits, Fits, of_z, to_z}
use mir.ValLaws.{to_z-of_z}
use borrow.Author.Tests.{ltb-true, ltb-false}
use borrow.Author.Rules.{part_to_end}
use borrow.Rule.Slice.PartMut.{put_mid}
use Rattle.laws.proofs.Never.{by_test}
use Rattle.opus_defines.specs.Outcome.{refusal, written, leaves}
use Rattle.opus_defines.specs.declared.Refusal.{Refusal}
use Rattle.opus_defines.specs.declared.Refusal.TheVariants.{BadArg, BufferTooSmall}
use Rattle.opus_format.specs.Frames.{cut, total}
use Rattle.blocks.proofs.LentParts.{put_back}
use Rattle.opus_header.specs.Compact.{compact}
use Rattle.collector.specs.declared.OpusRepacketizer.{OpusRepacketizer}
use Rattle.collector.specs.Collector.{held}
use Rattle.repacketizer_out.specs.Output.{range, out_frames}
use Rattle.repacketizer_out.proofs.Ranges.{Part}
use Rattle.repacketizer_out.proofs.Outputs.{output-short, output-fits}
use Rattle.cut_orders.specs.Orders.{natural}
use Rattle.cut_orders.proofs.Effects.{effect_none, effect_past, effect_within}

-- ---- a range of the frames held, which stands in the store from a place on
module _ {rp : OpusRepacketizer} {b e : ℕ} (p : Part rp b e) (store : List ℕ) {from : ℕ} (f : from ≡ total (take b rp.len)) (six : ℕ) where
  same : compact false six (range b e (held rp store)) ≡ compact false six (cut (range b e rp.len) (drop from store))
  same = rw (p.frames store, f)

  pub range_room : {n : ℕ} → length (compact false six (range b e (held rp store))) ≤ n
      → length (compact false six (cut (range b e rp.len) (drop from store))) ≤ n
  range_room h = rw same at h

  pub range_put : (s : List ℕ) {n : ℕ} {v : List ℕ} → n ≡ length (compact false six (cut (range b e rp.len) (drop from store)))
      → v ≡ sets s 0 (compact false six (cut (range b e rp.len) (drop from store)))
      → (n ≡ length (compact false six (range b e (held rp store)))) × (v ≡ sets s 0 (compact false six (range b e (held rp store))))
  range_put s l e = rw same (l, e)

-- ---- an order that is not refused
pub record Taken (six : ℕ) (frames : List (List ℕ)) (left : ℕ) (begin end : ℤ) : Type 0 where
  pub begins : begin ≡ pos (natural begin)
  pub ends : end ≡ pos (natural end)
  pub some : natural begin < natural end
  pub within : natural end ≤ length frames
  pub room : length (compact false six (range (natural begin) (natural end) frames)) ≤ left
  pub effect : out_frames false false six frames begin end left ≡ written (compact false six (range (natural begin) (natural end) frames))

module _ (six : ℕ) (frames : List (List ℕ)) (left : ℕ) where
  pub taken : (begin end : ℤ) → ((e : Refusal) → out_frames false false six frames begin end left ≡ refusal e → ⊥)
      → Taken six frames left begin end
  taken (negsuc b) end t = absurd (t BadArg refl)
  taken (pos b) (negsuc e) t = absurd (t BadArg refl)
  taken (pos b) (pos e) t =
      let c = compact false six (range b e frames) in
      let some : b < e = by_test (ltb b e) (ltb-true b e) (λ u. absurd (t BadArg (effect_none six frames left refl refl (ltb-false b e u)))) in
      let within : e ≤ length frames =
      by_test (ltb (length frames) e) (λ u. absurd (t BadArg (effect_past six frames left refl refl some (ltb-true (length frames) e u))))
      (ltb-false (length frames) e) in
      let is = effect_within six frames left refl refl some within in
      let room : length c ≤ left =
      by_test (ltb left (length c)) (λ u. absurd (t BufferTooSmall (is ∙ output-short false false six (range b e frames) left (ltb-true left (length c) u))))
      (ltb-false left (length c)) in
      record { begins = refl; ends = refl; some = some; within = within; room = room; effect = is ∙ output-fits false false six (range b e frames) left room }

-- a number that is not negative, passed as its bits and made wider
abbrev passed : ℤ → ℕ
passed z = nat_abs (to_z w32 (of_z w32 z))

passed_is : {z : ℤ} → SFits w32 z → z ≡ pos (natural z) → passed z ≡ natural z
passed_is {z} f e = ap nat_abs (to_z-of_z w32 z f) ∙ ap nat_abs e

pub passed_fits : {z : ℤ} → SFits w32 z → z ≡ pos (natural z) → natural z ≤ 65535 → T (non_neg (to_z w32 (of_z w32 z))) × Fits w64 (passed z)
passed_fits {z} f e h =
    let is : to_z w32 (of_z w32 z) ≡ pos (natural z) = to_z-of_z w32 z f ∙ e in
    let few : passed z < 2 ^ 64 = omega (arith, passed_is f e) in
    (subst (λ (y : ℤ). T (non_neg y)) (sym is) tt, record { fits = few })

-- an order's range, passed so; and its packet, put into the part of the destination behind `at` bytes
module _ (six : ℕ) (frames : List (List ℕ)) {begin end : ℤ} (fb : SFits w32 begin) (fe : SFits w32 end) (s : List ℕ) (at : ℕ)
    (t : Taken six frames (length s - at) begin end) where
  abbrev lent : List ℕ
  lent = take (length s - at) (drop at s)

  abbrev wanted : List ℕ
  wanted = compact false six (range (passed begin) (passed end) frames)

  pub passed_range : (passed begin < passed end) × (passed end ≤ length frames)
  passed_range = rw (passed_is fb t.begins, passed_is fe t.ends) (t.some, t.within)

  pub passed_room : length wanted ≤ length lent
  passed_room =
      let left : length (drop at s) ≡ length s - at = length-drop at s in
      rw (passed_is fb t.begins, passed_is fe t.ends, part_to_end s at, left) t.room

  pub put_part_lem : {n : ℕ} {v : List ℕ} → n ≡ length wanted → v ≡ sets lent 0 wanted
      → let x = out_frames false false six frames begin end (length s - at) in
      (n ≡ natural (leaves (drop at s) x).report.number) × (put_mid at (length s - at) s v ≡ take at s ++ (leaves (drop at s) x).bytes)
  put_part_lem {n} {v} l e =
      let n-is = rw (passed_is fb t.begins, passed_is fe t.ends) at l in
      let v-is = rw (passed_is fb t.begins, passed_is fe t.ends, part_to_end s at) at e in
      rw (t.effect, put_back s at v) (n-is, ap (λ w. take at s ++ w) v-is)

pub put_fits : (s : List ℕ) (at : ℕ) {n m : ℕ} → n ≡ m → m ≤ length (take (length s - at) (drop at s))
    → length s ≤ 65535 → Fits w32 n
put_fits s at {n} e room most =
    let few : n < 2 ^ 32 = omega (arith, length-take (length s - at) (drop at s)) in
    record { fits = few }
