-- What is refused, and for what.
--     join_outside                              what no join takes
--     inside_or_outside, join_by                what is left, by what the packets hold
--     first_unreadable                          the first packet that cannot be read, with its place in the buffer
--     readable_held, nth_time                   packets that can be read, and how long they last
--     equal-all, unequal_one, streams_agree_or-not      whether they last equally long
--     readable_or-not                           all can be read, or one is the first that cannot
--     times_differ, some_differs, times_agree_or-not, times_agree   the join of packets that can be read, by how long they last
--     take_outside, take_outside_or-not, take-unread-or-not      what no taking out takes
--     take-unread, take-unequal, take_some_differs, take_agree      what is left, likewise
-- Assumes nothing.
use Prim.Native.Nat.{ℕ, zero, suc, ◌+◌, ◌-◌, ◌≤◌, ◌<◌}
use native.Mathlib.Omega.{arith}
use mathlib.Core.Path.{◌≡◌, refl, sym, ap, ◌∙◌}
use mathlib.Core.List.{List, [], ◌∷◌, map}
use mathlib.Core.Bool.{Bool, true, false, ◌&&◌}
use mathlib.Core.Logic.{◌⊎◌, inl, inr, ⊎_elim}
use lib.Dec.{eqb, ltb, leb}
use lib.IntN.{ℤ, pos, negsuc}
use lib.ListN.{length, get_or, take, drop, length-drop}
use lib.Seq.{length-take-le}
use borrow.Author.Tests.{lt-ltb, le-ltb, lt-leb, leb-true, leb-false, ltb-true, ltb-false, eqb-true, eqb-false}
use Rattle.laws.proofs.Never.{never, by_test}
use Rattle.opus_defines.specs.Rules.{rule_refusal}
use Rattle.opus_defines.specs.Outcome.{refusal, written, into_room}
use Rattle.opus_defines.specs.declared.Refusal.{Refusal}
use Rattle.opus_defines.specs.declared.Refusal.TheVariants.{BadArg, BufferTooSmall, InvalidPacket}
use Rattle.opus_defines.specs.declared.Rule.{Rule}
use Rattle.opus_defines.proofs.Outcomes.{shifted_rule}
use Rattle.opus_toc.specs.Toc.{time}
use Rattle.opus_format.specs.Frames.{cut, total}
use Rattle.opus_format.specs.Reading.{Reading, refused, accepted, read}
use Rattle.multistream.specs.Streams.{streams_of}
use Rattle.multistream.specs.Reading.{Stream, streams, read_streams}
use Rattle.multistream.specs.Unpad.{Repacked, unread, repacked, repack_streams, repacks, unpad_streams}
use Rattle.multistream.specs.Parts.{is_accepted}
use Rattle.stream_join.specs.Join.{Held, stuck, holds, then_packets, held_by, lasting, all_last, equally_long, by_held}
use Rattle.stream_join.specs.Join.{joined_streams, join, held_as, held_in, packet_of}
use Rattle.stream_join.specs.Join as Join
use Rattle.stream_join.specs.Parts.{stream_at}
use Rattle.stream_join.specs.Refusals.{Outside, Inside, Readable, Unread, lasts, OutsideTake}
use Rattle.stream_join.proofs.Looked.{cut_count, time_six}
use Rattle.stream_join.proofs.Taking.{take_long, take_wide, take_negative, take_above, unread-or_streams}
use Rattle.stream_join.proofs.Apart.{held_of}
use Rattle.stream_join.proofs.Joining.{held_count, join-empty, join_many, join_long, join_wide, join_uneven, join-checked}

-- ---- -1
module _ (s ns : List ℕ) (room : ℕ) where
  pub inside_or_outside : Inside s ns room ⊎ Outside s ns room
  inside_or_outside =
      by_test (eqb (length ns) 0) (λ t. inr (inl (eqb-true (length ns) 0 t)))
      (λ t0. by_test (ltb 255 (length ns)) (λ t. inr (inr (inl (ltb-true 255 (length ns) t))))
      (λ t1. by_test (ltb 65535 (length s)) (λ t. inr (inr (inr (inl (ltb-true 65535 (length s) t)))))
      (λ t2. by_test (ltb 65535 room) (λ t. inr (inr (inr (inr (inl (ltb-true 65535 room t))))))
      (λ t3. by_test (eqb (total ns) (length s))
      (λ t. inl (record {
        some = eqb-false (length ns) 0 t0;
        few = ltb-false 255 (length ns) t1;
        short = ltb-false 65535 (length s) t2;
        narrow = ltb-false 65535 room t3;
        sum = eqb-true (total ns) (length s) t;
      }))
      (λ t. inr (inr (inr (inr (inr (eqb-false (total ns) (length s) t))))))))))

  not_both : Inside s ns room → Outside s ns room → ⊥
  not_both i o =
      ⊎_elim i.some
      (⊎_elim (λ (h : 255 < length ns). omega (arith, i.few))
      (⊎_elim (λ (h : 65535 < length s). omega (arith, i.short))
      (⊎_elim (λ (h : 65535 < room). omega (arith, i.narrow)) (λ (h : total ns ≡ length s → ⊥). h i.sum)))) o

  pub join_outside : Outside s ns room → join s ns room ≡ refusal BadArg
  join_outside o =
      by_test (eqb (length ns) 0) (λ t. join-empty s ns room (eqb-true (length ns) 0 t))
      (λ t0. let some = eqb-false (length ns) 0 t0 in
      by_test (ltb 255 (length ns)) (λ t. join_many s ns room some (ltb-true 255 (length ns) t))
      (λ t1. let few = ltb-false 255 (length ns) t1 in
      by_test (ltb 65535 (length s)) (λ t. join_long s ns room some few (ltb-true 65535 (length s) t))
      (λ t2. let short = ltb-false 65535 (length s) t2 in
      by_test (ltb 65535 room) (λ t. join_wide s ns room some few short (ltb-true 65535 room t))
      (λ t3. let narrow = ltb-false 65535 room t3 in
      join_uneven s ns room some few short narrow
      (λ e. not_both (record { some = some; few = few; short = short; narrow = narrow; sum = e }) o)))))

  pub join_by : Inside s ns room → join s ns room ≡ by_held room joined_streams (held_by (cut ns s))
  join_by i = join-checked s ns room i.some i.few i.short i.narrow i.sum

-- ---- the first packet that cannot be read
ahead_stuck : (n : ℕ) (p : List ℕ) (r : Reading) (h : Held) (rule : Rule) (place : ℕ) → is_accepted r ≡ true → length p ≡ n
    → h ≡ stuck (rule_refusal rule place) → then_packets h p r ≡ stuck (rule_refusal rule (n + place))
ahead_stuck n p (refused r l) h rule place a c e = never (cc)
ahead_stuck n p (accepted toc ns first taken) h rule place a c e = rw (e, c, shifted_rule n rule place)

pub first_unreadable : (k : ℕ) (ns s : List ℕ) → total ns ≤ length s → k < length ns
    → ((i : ℕ) → i < k → is_accepted (read false (get_or (cut ns s) i [])) ≡ true)
    → (rule : Rule) (place : ℕ) → read false (get_or (cut ns s) k []) ≡ refused rule place
    → held_by (cut ns s) ≡ stuck (rule_refusal rule (total (take k ns) + place))
first_unreadable k [] s t h f rule place r = absurd (omega (arith, h))
first_unreadable zero (n ∷ ns) s t h f rule place r =
    let none : 0 + place ≡ place = omega arith in
    rw (none, r)
first_unreadable (suc k) (n ∷ ns) s t h f rule place r =
    let rest = first_unreadable k ns (drop n s) (omega (arith, t, length-drop n s)) (omega (arith, h)) (λ i l. f (suc i) (omega (arith, l))) rule place r in
    let sum : n + (total (take k ns) + place) ≡ n + total (take k ns) + place = omega arith in
    rw (← sum)
    (ahead_stuck n (take n s) (read false (take n s)) (held_by (cut ns (drop n s))) rule (total (take k ns) + place) (f 0 (omega arith))
    (length-take-le n s (omega (arith, t))) rest)

-- ---- how long packets last: by TOC byte and frame count (M-104)
lasts_as : (p : List ℕ) (toc : ℕ) (ns : List ℕ) (first : ℕ) → lasting (stream_at p toc ns first) ≡ time toc (length ns)
lasts_as p toc ns first = rw (cut_count ns (drop first p)) (sym (time_six toc (length ns)))

readable_held : (ps : List (List ℕ)) → ((i : ℕ) → i < length ps → is_accepted (read false (get_or ps i [])) ≡ true)
    → (xs : List Stream) × (held_by ps ≡ holds xs)
readable_held [] f = ([], refl)
readable_held (p ∷ ps) f = go (readable_held ps (λ i h. f (suc i) (omega (arith, h)))) (read false p) (f 0 (omega arith))
  where
    go : (xs : List Stream) × (held_by ps ≡ holds xs) → (r : Reading) → is_accepted r ≡ true
        → (xs : List Stream) × (then_packets (held_by ps) p r ≡ holds xs)
    go h (refused rule place) a = never (cc)
    go h (accepted toc ns first taken) a = (stream_at p toc ns first ∷ h.0, rw h.1)

nth_time : (ps : List (List ℕ)) (xs : List Stream) → held_by ps ≡ holds xs → (i : ℕ) → i < length ps
    → get_or (map lasting xs) i 0 ≡ lasts (read false (get_or ps i []))
nth_time [] xs e i h = absurd (omega (arith, h))
nth_time (p ∷ ps) xs e i h = go i (λ j ys. λ f l. nth_time ps ys f j l) (held_by ps) refl (read false p) refl e h
  where
    go : (i : ℕ)
        → ((j : ℕ) (ys : List Stream) → held_by ps ≡ holds ys → j < length ps → get_or (map lasting ys) j 0 ≡ lasts (read false (get_or ps j [])))
        → (g : Held) → held_by ps ≡ g → (r : Reading) → read false p ≡ r → then_packets g p r ≡ holds xs → i < suc (length ps)
        → get_or (map lasting xs) i 0 ≡ lasts (read false (get_or (p ∷ ps) i []))
    go i next g f (refused rule place) q e h = never (cc)
    go i next (stuck d) f (accepted toc ns first taken) q e h = never (cc)
    go zero next (holds ys) f (accepted toc ns first taken) q e h =
        let all : stream_at p toc ns first ∷ ys ≡ xs = cc in
        rw (← all, q) (lasts_as p toc ns first)
    go (suc i) next (holds ys) f (accepted toc ns first taken) q e h =
        let all : stream_at p toc ns first ∷ ys ≡ xs = cc in
        rw (← all) (next i ys f (omega (arith, h)))

-- ---- equally long
and_both : (a b : Bool) → (a && b) ≡ true → (a ≡ true) × (b ≡ true)
and_both true b e = (refl, e)
and_both false b e = never (cc)

last-all : (t : ℕ) (xs : List Stream) → all_last t xs ≡ true → (i : ℕ) → i < length xs → get_or (map lasting xs) i 0 ≡ t
last-all t [] e i h = absurd (omega (arith, h))
last-all t (x ∷ xs) e zero h = eqb-true (lasting x) t (and_both (eqb (lasting x) t) (all_last t xs) e).0
last-all t (x ∷ xs) e (suc i) h = last-all t xs (and_both (eqb (lasting x) t) (all_last t xs) e).1 i (omega (arith, h))

-- all last as long as the first
equal-all : (xs : List Stream) → equally_long xs ≡ true → (i j : ℕ) → i < length xs → j < length xs
    → get_or (map lasting xs) i 0 ≡ get_or (map lasting xs) j 0
equal-all [] e i j h k = absurd (omega (arith, h))
equal-all (x ∷ xs) e i j h k = as_first i h ∙ sym (as_first j k)
  where
    as_first : (i : ℕ) → i < suc (length xs) → get_or (lasting x ∷ map lasting xs) i 0 ≡ lasting x
    as_first zero h = refl
    as_first (suc i) h = last-all (lasting x) xs e i (omega (arith, h))

not-all : (t : ℕ) (xs : List Stream) → all_last t xs ≡ false → (i : ℕ) × (i < length xs) × (get_or (map lasting xs) i 0 ≡ t → ⊥)
not-all t [] e = never (cc)
not-all t (x ∷ xs) e =
    by_test (eqb (lasting x) t)
    (λ b. let rest : all_last t xs ≡ false = rw b at e in
    let n = not-all t xs rest in
    (suc n.0, omega (arith, n.1), n.2))
    (λ b. (0, omega arith, eqb-false (lasting x) t b))

-- one lasts otherwise than the first
unequal_one : (xs : List Stream) → equally_long xs ≡ false
    → (i : ℕ) × (i < length xs) × (get_or (map lasting xs) i 0 ≡ get_or (map lasting xs) 0 0 → ⊥)
unequal_one [] e = never (cc)
unequal_one (x ∷ xs) e =
    let n = not-all (lasting x) xs e in
    (suc n.0, omega (arith, n.1), n.2)

pub streams_agree_or-not : (xs : List Stream)
    → ((i : ℕ) → i < length xs → get_or (map lasting xs) i 0 ≡ get_or (map lasting xs) 0 0)
    ⊎ ((i : ℕ) × (i < length xs) × (get_or (map lasting xs) i 0 ≡ get_or (map lasting xs) 0 0 → ⊥))
streams_agree_or-not xs =
    by_test (equally_long xs) (λ t. inl (λ i h. equal-all xs t i 0 h (omega (arith, h)))) (λ t. inr (unequal_one xs t))

-- ---- which packet is the first that cannot be read
pub readable_or-not : (ps : List (List ℕ)) → Readable ps ⊎ Unread ps
readable_or-not [] = inl (λ i h. absurd (omega (arith, h)))
readable_or-not (p ∷ ps) = go (read false p) refl (readable_or-not ps)
  where
    both : is_accepted (read false p) ≡ true → (m : ℕ) → ((i : ℕ) → i < m → is_accepted (read false (get_or ps i [])) ≡ true)
        → (i : ℕ) → i < suc m → is_accepted (read false (get_or (p ∷ ps) i [])) ≡ true
    both a m f zero h = a
    both a m f (suc i) h = f i (omega (arith, h))

    go : (r : Reading) → read false p ≡ r → Readable ps ⊎ Unread ps → Readable (p ∷ ps) ⊎ Unread (p ∷ ps)
    go (refused rule place) q o =
        inr (record { at = 0; inside = omega arith; before = λ i h. absurd (omega (arith, h)); rule = rule; place = place; is = q })
    go (accepted toc ns first taken) q (inl f) = inl (both (rw q) (length ps) f)
    go (accepted toc ns first taken) q (inr u) =
        inr (record {
          at = suc u.at;
          inside = omega (arith, u.inside);
          before = both (rw q) u.at u.before;
          rule = u.rule;
          place = u.place;
          is = u.is;
        })

-- ---- packets that can be read, by how long they last
module _ (s ns : List ℕ) (room : ℕ) (i : Inside s ns room) (r : Readable (cut ns s)) where
  abbrev held_all : List Stream
  held_all = (readable_held (cut ns s) r).0

  held_is : held_by (cut ns s) ≡ holds held_all
  held_is = (readable_held (cut ns s) r).1

  many : length held_all ≡ length ns
  many = held_count (cut ns s) held_all held_is ∙ cut_count ns s

  abbrev pub lasts_at : ℕ → ℕ
  lasts_at k = lasts (read false (get_or (cut ns s) k []))

  time_at : (k : ℕ) → k < length ns → get_or (map lasting held_all) k 0 ≡ lasts_at k
  time_at k h = nth_time (cut ns s) held_all held_is k (omega (arith, h, cut_count ns s))

  pub times_differ : (k j : ℕ) → k < length ns → j < length ns → (lasts_at k ≡ lasts_at j → ⊥) → join s ns room ≡ refusal InvalidPacket
  times_differ k j h l d =
      join_by s ns room i
      ∙ (ap (by_held room joined_streams) held_is
      ∙ by_test (equally_long held_all)
      (λ t. absurd (d (sym (time_at k h) ∙ (equal-all held_all t k j (omega (arith, h, many)) (omega (arith, l, many)) ∙ time_at j l))))
      (λ t. rw t))

  one_differs : equally_long held_all ≡ false → (k : ℕ) × (k < length ns) × (lasts_at k ≡ lasts_at 0 → ⊥)
  one_differs t =
      let u = unequal_one held_all t in
      let below : u.0 < length ns = omega (arith, u.1, many) in
      let least : 0 < length ns = omega (arith, below) in
      (u.0, below, λ e. u.2 (time_at u.0 below ∙ (e ∙ sym (time_at 0 least))))

  pub some_differs : join s ns room ≡ refusal InvalidPacket → (k : ℕ) × (k < length ns) × (lasts_at k ≡ lasts_at 0 → ⊥)
  some_differs w =
      by_test (equally_long held_all)
      (λ t. never (let x = sym (join_by s ns room i ∙ (ap (by_held room joined_streams) held_is ∙ rw t)) ∙ w in not-invalid x))
      one_differs
    where
      not-invalid : into_room (joined_streams held_all) room ≡ refusal InvalidPacket → ◌≡◌ {A = ℕ} 0 1
      not-invalid e =
          by_test (ltb room (length (joined_streams held_all)))
          (λ t. let x : refusal BufferTooSmall ≡ refusal InvalidPacket = rw t at e in never (cc))
          (λ t. let x : written (joined_streams held_all) ≡ refusal InvalidPacket = rw t at e in never (cc))

  pub times_agree_or-not : ((k : ℕ) → k < length ns → lasts_at k ≡ lasts_at 0) ⊎ ((k : ℕ) × (k < length ns) × (lasts_at k ≡ lasts_at 0 → ⊥))
  times_agree_or-not =
      by_test (equally_long held_all)
      (λ t. inl (λ k h. let least : 0 < length ns = omega (arith, h) in
      sym (time_at k h) ∙ (equal-all held_all t k 0 (omega (arith, h, many)) (omega (arith, least, many)) ∙ time_at 0 least)))
      (λ t. inr (one_differs t))

  -- all last equally long
  pub times_agree : ((k : ℕ) → k < length ns → lasts_at k ≡ lasts_at 0)
      → (xs : List Stream) × (held_by (cut ns s) ≡ holds xs) × (room < length (joined_streams xs) → join s ns room ≡ refusal BufferTooSmall)
      × (length (joined_streams xs) ≤ room → join s ns room ≡ written (joined_streams xs))
  times_agree f =
      let q = joined_streams held_all in
      let by : join s ns room ≡ into_room q room =
      join_by s ns room i
      ∙ (ap (by_held room joined_streams) held_is
      ∙ by_test (equally_long held_all) (λ t. rw t) (λ t. let d = one_differs t in absurd (d.2 (f d.0 d.1)))) in
      (held_all, held_is, λ h. by ∙ rw (lt-ltb room (length q) h), λ h. by ∙ rw (le-ltb room (length q) h))

-- ---- taking out
module _ (s : List ℕ) (nb : ℤ) (room : ℕ) where
  pub take_outside : (k : ℤ) → OutsideTake s nb k room → Join.take s nb k room ≡ refusal BadArg
  take_outside k o =
      by_test (ltb 65535 (length s)) (λ t. take_long s nb k room (ltb-true 65535 (length s) t))
      (λ t0. let short = ltb-false 65535 (length s) t0 in
      by_test (ltb 65535 room) (λ t. take_wide s nb k room short (ltb-true 65535 room t))
      (λ t1. go k o short (ltb-false 65535 room t1)))
    where
      go : (k : ℤ) → OutsideTake s nb k room → length s ≤ 65535 → room ≤ 65535 → Join.take s nb k room ≡ refusal BadArg
      go (negsuc m) o short narrow = take_negative s nb (negsuc m) room short narrow refl
      go (pos m) o short narrow =
          by_test (leb (streams_of nb) m)
          (λ t. take_above s nb (pos m) room short narrow (streams_of nb) refl m refl (leb-true (streams_of nb) m t))
          (λ t. let below : m < streams_of nb = leb-false (streams_of nb) m t in
          absurd (⊎_elim (λ (h : 65535 < length s). omega (arith, short))
          (⊎_elim (λ (h : 65535 < room). omega (arith, narrow)) (λ (f : (j : ℕ) → j < streams_of nb → pos m ≡ pos j → ⊥). f m below refl)) o))

  pub take_outside_or-not : (k : ℤ)
      → ((m : ℕ) × (k ≡ pos m) × (m < streams_of nb) × (length s ≤ 65535) × (room ≤ 65535)) ⊎ OutsideTake s nb k room
  take_outside_or-not k =
      by_test (ltb 65535 (length s)) (λ t. inr (inl (ltb-true 65535 (length s) t)))
      (λ t0. by_test (ltb 65535 room) (λ t. inr (inr (inl (ltb-true 65535 room t))))
      (λ t1. go k (ltb-false 65535 (length s) t0) (ltb-false 65535 room t1)))
    where
      go : (k : ℤ) → length s ≤ 65535 → room ≤ 65535
          → ((m : ℕ) × (k ≡ pos m) × (m < streams_of nb) × (length s ≤ 65535) × (room ≤ 65535)) ⊎ OutsideTake s nb k room
      go (negsuc m) short narrow = inr (inr (inr (λ j h e. never (cc))))
      go (pos m) short narrow =
          by_test (leb (streams_of nb) m)
          (λ t. inr (inr (inr (λ j h e. let same : m ≡ j = cc in omega (arith, leb-true (streams_of nb) m t)))))
          (λ t. inl (m, refl, leb-false (streams_of nb) m t, short, narrow))

  pub take-unread-or-not : ((e : Refusal) × (unpad_streams (streams_of nb) s ≡ refusal e))
      ⊎ ((xs : List Stream) × (read_streams (streams_of nb - 1) s ≡ streams xs))
  unfolding unpad_streams
  take-unread-or-not =
      ⊎_elim (λ (u : (e : Refusal) × (repack_streams (streams_of nb - 1) s ≡ unread e)). inl (u.0, ap repacks u.1)) inr
      (unread-or_streams (streams_of nb - 1) s)

  -- stream k of the packet
  module _ (short : length s ≤ 65535) (narrow : room ≤ 65535) (k : ℕ) (below : k < streams_of nb) where
    take_by : Join.take s nb (pos k) room ≡ by_held room (packet_of k) (held_in (streams_of nb - 1) s)
    unfolding Join.take
    take_by = rw (le-ltb 65535 (length s) short, le-ltb 65535 room narrow, lt-leb (streams_of nb) k below)

    pub take-unread : (e : Refusal) → unpad_streams (streams_of nb) s ≡ refusal e → Join.take s nb (pos k) room ≡ refusal e
    unfolding unpad_streams
    take-unread e u = take_by ∙ go (repack_streams (streams_of nb - 1) s) u
      where
        go : (r : Repacked) → repacks r ≡ refusal e → by_held room (packet_of k) (held_as r (read_streams (streams_of nb - 1) s)) ≡ refusal e
        go (unread f) u = let same : f ≡ e = cc in rw same
        go (repacked q) u = never (cc)

    module _ (xs : List Stream) (r : read_streams (streams_of nb - 1) s ≡ streams xs) where
      by_streams : Join.take s nb (pos k) room ≡ by_held room (packet_of k) (holds xs)
      by_streams = take_by ∙ ap (by_held room (packet_of k)) (held_of (streams_of nb - 1) s xs r)

      pub take-unequal : (i j : ℕ) → i < length xs → j < length xs → (get_or (map lasting xs) i 0 ≡ get_or (map lasting xs) j 0 → ⊥)
          → Join.take s nb (pos k) room ≡ refusal InvalidPacket
      take-unequal i j h l d =
          by_streams ∙ by_test (equally_long xs) (λ t. absurd (d (equal-all xs t i j h l))) (λ t. rw t)

      pub take_some_differs : Join.take s nb (pos k) room ≡ refusal InvalidPacket
          → (i : ℕ) × (i < length xs) × (get_or (map lasting xs) i 0 ≡ get_or (map lasting xs) 0 0 → ⊥)
      take_some_differs w =
          by_test (equally_long xs) (λ t. never (not-invalid (sym (by_streams ∙ rw t) ∙ w))) (unequal_one xs)
        where
          not-invalid : into_room (packet_of k xs) room ≡ refusal InvalidPacket → ◌≡◌ {A = ℕ} 0 1
          not-invalid e =
              by_test (ltb room (length (packet_of k xs)))
              (λ t. let x : refusal BufferTooSmall ≡ refusal InvalidPacket = rw t at e in never (cc))
              (λ t. let x : written (packet_of k xs) ≡ refusal InvalidPacket = rw t at e in never (cc))

      pub take_agree : ((i : ℕ) → i < length xs → get_or (map lasting xs) i 0 ≡ get_or (map lasting xs) 0 0)
          → (room < length (packet_of k xs) → Join.take s nb (pos k) room ≡ refusal BufferTooSmall)
          × (length (packet_of k xs) ≤ room → Join.take s nb (pos k) room ≡ written (packet_of k xs))
      take_agree f =
          let c = packet_of k xs in
          let by : Join.take s nb (pos k) room ≡ into_room c room =
          by_streams ∙ by_test (equally_long xs) (λ t. rw t) (λ t. let d = unequal_one xs t in absurd (d.2 (f d.0 d.1))) in
          (λ h. by ∙ rw (lt-ltb room (length c) h), λ h. by ∙ rw (le-ltb room (length c) h))
