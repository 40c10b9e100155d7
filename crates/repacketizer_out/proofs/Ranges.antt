-- Ranges of the frames held.
--     lasts_fewer                                 fewer frames last at most 120 ms too
--     range-cut, length_cut, length-held          a range of frames that lengths cut off a block is cut by that range of the lengths
--     Part, part_of, part_from_lem                    what is known of a range of the frames that a sound collector holds
--     ready_holding, range-lasts, range_small     the same of a collector with its store
-- Assumes nothing.
use Prim.Native.Nat.{ℕ, zero, suc, ◌+◌, ◌*◌, ◌-◌, ◌/◌, ◌%◌, ◌≤◌, ◌<◌}
use native.Mathlib.Nat.{mul-le-mul}
use native.Mathlib.Omega.{arith}
use mathlib.Core.Path.{◌≡◌, refl, ◌∙◌}
use mathlib.Core.List.{List, [], ◌∷◌}
use lib.ListN.{length, take, drop, length-take, length-drop}
use lib.Seq.{take-take, drop-drop}
use Rattle.opus_size.specs.Size.{most_bytes}
use Rattle.opus_toc.specs.Toc.{upper_six, duration}
use Rattle.opus_format.specs.Frames.{lengths, cut, total, longest}
use Rattle.opus_format.specs.Format.{Lasts}
use Rattle.opus_format.proofs.Frames.{lengths-cut}
use Rattle.opus_format.proofs.Lengths.{longest-take}
use Rattle.collector.specs.declared.OpusRepacketizer.{OpusRepacketizer}
use Rattle.collector.specs.Collector.{held, held_lengths, least_store}
use Rattle.collector.proofs.Sound.{sound-framed}
use Rattle.collector.proofs.Held.{Holding, holding}
use Rattle.repacketizer.specs.Runs.{State, Ready}
use Rattle.repacketizer_out.specs.Output.{range}

-- ---- ranges of a list
pub length-range : {A : Type 0} (b e : ℕ) (l : List A) → e ≤ length l → length (range b e l) ≡ e - b
length-range b e l h = simp (length-take, length-drop) (omega arith)

-- of the front of a list
part-front : {A : Type 0} (b m n : ℕ) (l : List A) → b + m ≤ n → take m (drop b (take n l)) ≡ take m (drop b l)
part-front zero m n l h = take-take m n l (omega arith)
part-front (suc b) m zero l h = absurd (omega arith)
part-front (suc b) m (suc n) [] h = refl
part-front (suc b) m (suc n) (a ∷ l) h = part-front b m n l (omega arith)

range_front : {A : Type 0} (b e n : ℕ) (l : List A) → b ≤ e → e ≤ n → range b e (take n l) ≡ range b e l
range_front b e n l h k = part-front b (e - b) n l (omega arith)

-- ---- lengths of a part, and its time
total_split : (n : ℕ) (ns : List ℕ) → total (take n ns) + total (drop n ns) ≡ total ns
total_split zero ns = omega arith
total_split (suc n) [] = refl
total_split (suc n) (m ∷ ns) = omega (arith, total_split n ns)

total-range : (b e : ℕ) (ns : List ℕ) → total (take b ns) + total (range b e ns) ≤ total ns
total-range b e ns = omega (arith, total_split b ns, total_split (e - b) (drop b ns))

longest-drop : (n : ℕ) (ns : List ℕ) → longest (drop n ns) ≤ longest ns
longest-drop zero ns = omega arith
longest-drop (suc n) [] = omega arith
longest-drop (suc n) (m ∷ ns) = omega (arith, longest-drop n ns)

longest-range : (b e : ℕ) (ns : List ℕ) → longest (range b e ns) ≤ longest ns
longest-range b e ns = omega (arith, longest-take (drop b ns) (e - b), longest-drop b ns)

pub lasts_fewer : {six count : ℕ} (n : ℕ) → Lasts six count → 1 ≤ n → n ≤ count → Lasts six n
lasts_fewer {six} {count} n l h k =
    let d = duration (six / 2) in
    let less : n * d ≤ count * d = mul-le-mul {n₁ = n} {m₁ = d} {n₂ = count} {m₂ = d} k (omega arith) in
    record { some = h; short = omega (arith, l.short) }

-- ---- frames
take-cut : (n : ℕ) (ns s : List ℕ) → take n (cut ns s) ≡ cut (take n ns) s
take-cut zero ns s = refl
take-cut (suc n) [] s = refl
take-cut (suc n) (m ∷ ns) s = rw (take-cut n ns (drop m s))

drop-cut : (n : ℕ) (ns s : List ℕ) → drop n (cut ns s) ≡ cut (drop n ns) (drop (total (take n ns)) s)
drop-cut zero ns s = refl
drop-cut (suc n) [] s = refl
drop-cut (suc n) (m ∷ ns) s = rw (drop-cut n ns (drop m s), drop-drop (total (take n ns)) m s)

range-cut : (b e : ℕ) (ns s : List ℕ) → range b e (cut ns s) ≡ cut (range b e ns) (drop (total (take b ns)) s)
range-cut b e ns s = rw (drop-cut b ns s, take-cut (e - b) (drop b ns) (drop (total (take b ns)) s))

length_cut : (ns s : List ℕ) → length (cut ns s) ≡ length ns
length_cut [] s = refl
length_cut (n ∷ ns) s = rw (length_cut ns (drop n s))

pub length-held : (rp : OpusRepacketizer) (store : List ℕ) → Holding rp → length (held rp store) ≡ rp.nb_frames
length-held rp store h = length_cut (held_lengths rp) store ∙ h.count

-- ---- a range of the frames held: `len` is the collector's array, as the code goes by it
pub record Part (rp : OpusRepacketizer) (b e : ℕ) : Type 0 where
  pub inside : e ≤ length rp.len
  pub count : length (range b e rp.len) ≡ e - b
  pub few : e ≤ 48
  pub small : longest (range b e rp.len) ≤ most_bytes
  pub block : total (take b rp.len) + total (range b e rp.len) ≤ least_store
  pub lasts : Lasts (upper_six rp.toc) (length (range b e rp.len))
  pub frames : (store : List ℕ) → range b e (held rp store) ≡ cut (range b e rp.len) (drop (total (take b rp.len)) store)

pub part_of : (rp : OpusRepacketizer) → Holding rp → (b e : ℕ) → b < e → e ≤ rp.nb_frames → Part rp b e
part_of rp h b e some within =
    let n = rp.nb_frames in
    let long : n ≤ length rp.len = omega (arith, h.count, length-take n rp.len) in
    let front : take b (held_lengths rp) ≡ take b rp.len = take-take b n rp.len (omega arith) in
    let same : range b e (held_lengths rp) ≡ range b e rp.len = range_front b e n rp.len (omega arith) within in
    let count : length (range b e rp.len) ≡ e - b = length-range b e rp.len (omega arith) in
    record {
      inside = omega arith;
      count = count;
      few = omega (arith, h.few);
      small = rw (← same) (omega (arith, longest-range b e (held_lengths rp), h.small));
      block = rw (← same, ← front) (omega (arith, total-range b e (held_lengths rp), h.fits));
      lasts = lasts_fewer (length (range b e rp.len)) (h.lasts (omega arith)) (omega arith) (omega arith);
      frames = λ store. rw (range-cut b e (held_lengths rp) store, same, front);
    }

-- where it begins in the store, as the code counts it
pub part_from_lem : {rp : OpusRepacketizer} {b e : ℕ} → Part rp b e → {sum : ℕ} → sum ≡ total (take b rp.len) % 65536
    → {from : ℕ} → from ≡ sum → from ≡ total (take b rp.len)
part_from_lem p q f = f ∙ (q ∙ omega (arith, p.block))

-- ---- the same of a collector with its store
pub ready_holding : (s : State) → Ready s → Holding s.rp
ready_holding s r = holding s.rp r.byte r.lengths48 (sound-framed s.rp r.soundly)

module _ (s : State) (r : Ready s) (b e : ℕ) (some : b < e) (within : e ≤ length (held s.rp s.store)) where
  part : Part s.rp b e
  part = let h = ready_holding s r in part_of s.rp h b e some (omega (arith, length-held s.rp s.store h))

  pub range-lasts : Lasts (upper_six s.rp.toc) (length (range b e (held s.rp s.store)))
  range-lasts =
      let ns = range b e s.rp.len in
      let from = total (take b s.rp.len) in
      rw (part.frames s.store, length_cut ns (drop from s.store)) part.lasts

  pub range_small : longest (lengths (range b e (held s.rp s.store))) ≤ most_bytes
  range_small =
      let ns = range b e s.rp.len in
      let from = total (take b s.rp.len) in
      rw (part.frames s.store, lengths-cut ns (drop from s.store) (omega (arith, length-drop from s.store, part.block, r.roomy))) part.small
