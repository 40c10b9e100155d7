-- What is joined comes apart, and what was taken apart joins.
--     Valid, AllValid, packets_valid, streams_valid      streams that were read: their compact packets are packets of RFC 6716
--     joined_reads, held_of                              the compact packets one behind another hold the streams
--     apart-held                                         so do the ordinary ones by themselves
--     nth_unpads                                         what unpadding the k-th packet gives
--     plain-within                                       the ordinary compact packets take no more bytes than the joined ones
--     Wrote, held_was, Joined, join_was                  what is known where packets were joined
--     take_gives, take_was                               taking out of streams that last equally long
--     parts_join                                         all that was taken out, joined
--     streams_count, unpads_as                           any multistream packet: its streams, and what unpadding it gives
-- Assumes nothing.
use Prim.Native.Nat.{ℕ, zero, suc, ◌-◌, ◌≤◌, ◌<◌}
use native.Mathlib.Omega.{arith}
use mathlib.Core.Path.{◌≡◌, refl, sym, ◌∙◌}
use mathlib.Core.List.{List, [], ◌∷◌, map, append-nil}
use mathlib.Core.Bool.{Bool, true, false}
use lib.Dec.{eqb, ltb}
use lib.IntN.{pos}
use lib.ListN.{length, get_or, take, drop, length-append, length-map}
use borrow.Author.Tests.{lt-ltb, le-ltb, lt-leb, ltb-true, ltb-false, eqb-true, eqb-false}
use Rattle.laws.specs.Bytes.{Bytes}
use Rattle.laws.proofs.Bytes.{bytes_take, bytes_drop}
use Rattle.laws.proofs.Never.{never, by_test}
use Rattle.opus_defines.specs.Outcome.{Effect, refusal, written, into_room}
use Rattle.opus_defines.specs.declared.Refusal.TheVariants.{BadArg, BufferTooSmall, InvalidPacket}
use Rattle.opus_format.specs.Frames.{lengths, joined, cut, total}
use Rattle.opus_format.specs.Format.{Spells}
use Rattle.opus_format.specs.Reading.{Reading, refused, accepted, read}
use Rattle.opus_format.proofs.Frames.{cut-joined, total-lengths}
use Rattle.opus_format.proofs.Sound.{read_spelled}
use Rattle.opus_header.specs.Sums.{sums_of}
use Rattle.opus_header.proofs.Forms.{compact_bytes_lem, compact-size}
use Rattle.opus_header.proofs.Rebuilt.{spelled_lasts}
use Rattle.opus_header.proofs.Spelled.{compact_spelled}
use Rattle.packet_pad.specs.Unpad.{unpad_packet}
use Rattle.packet_pad.proofs.Spelled.{reading, cuts_back}
use Rattle.packet_pad.proofs.Unpadding.{unpad_taken}
use Rattle.opus_format.proofs.Complete.{spelled_six}
use Rattle.multistream.specs.Reading.{Stream, Streams, streams, read_streams, compact_streams}
use Rattle.multistream.specs.Unpad.{unpad_streams}
use Rattle.multistream.proofs.Holding.{held, spelled_streams, repack_compact}
use Rattle.stream_join.specs.Join.{Held, stuck, holds, then_packets, held_by, held_in, equally_long, by_held}
use Rattle.stream_join.specs.Join.{joined_streams, join, packet_of}
use Rattle.stream_join.specs.Join as Join
use Rattle.stream_join.specs.Parts.{stream_at, packed}
use Rattle.stream_join.proofs.Joining.{join-empty, join_many, join_long, join_wide, join_uneven, join-checked}

-- ---- streams that were read
pub record Valid (x : Stream) : Type 0 where
  pub spelled : (sd : Bool) → Spells sd x.six (packed sd x) x.frames

abbrev pub AllValid : List Stream → Type 0
AllValid [] = Unit {0}
AllValid (x ∷ xs) = Valid x × AllValid xs

valid_of : {sd : Bool} {six : ℕ} {p : List ℕ} {frames : List (List ℕ)} → Spells sd six p frames → Valid (record { six = six; frames = frames })
valid_of {six = six} {frames = frames} w = record { spelled = λ sd. compact_spelled sd six frames (spelled_lasts w) w.small }

valid_read : (sd : Bool) (p : List ℕ) (toc : ℕ) (ns : List ℕ) (first taken : ℕ) → Bytes p → read sd p ≡ accepted toc ns first taken
    → Valid (stream_at p toc ns first)
valid_read sd p toc ns first taken bytes r = valid_of (read_spelled sd p toc ns first taken bytes r).packet

pub packets_valid : (ns s : List ℕ) → Bytes s → (xs : List Stream) → held_by (cut ns s) ≡ holds xs → AllValid xs
packets_valid [] s bytes [] e = tt
packets_valid [] s bytes (x ∷ xs) e = never (cc)
packets_valid (n ∷ ns) s bytes xs e =
    go (λ ys. packets_valid ns (drop n s) (bytes_drop n s bytes) ys) (held_by (cut ns (drop n s))) refl (read false (take n s)) refl e
  where
    go : ((ys : List Stream) → held_by (cut ns (drop n s)) ≡ holds ys → AllValid ys) → (h : Held) → held_by (cut ns (drop n s)) ≡ h → (r : Reading)
        → read false (take n s) ≡ r → then_packets h (take n s) r ≡ holds xs → AllValid xs
    go next h g (refused rule place) q e = never (cc)
    go next (stuck f) g (accepted toc ms first taken) q e = never (cc)
    go next (holds ys) g (accepted toc ms first taken) q e =
        let all : stream_at (take n s) toc ms first ∷ ys ≡ xs = cc in
        rw (← all) (valid_read false (take n s) toc ms first taken (bytes_take n s bytes) q, next ys g)

pub streams_valid : (k : ℕ) (p : List ℕ) → Bytes p → (xs : List Stream) → read_streams k p ≡ streams xs → AllValid xs
streams_valid zero p bytes xs e =
    let next : List ℕ → Streams = λ t. streams [] in
    let h = held false next p xs e in
    let none : [] ≡ h.others = let r : streams [] ≡ streams h.others = h.rest in cc in
    rw (← h.all, ← none) (valid_read false p h.toc h.ns h.first h.taken bytes h.means, tt)
streams_valid (suc k) p bytes xs e =
    let h = held true (read_streams k) p xs e in
    let rest = streams_valid k (drop h.taken p) (bytes_drop h.taken p bytes) h.others h.rest in
    rw (← h.all) (valid_read true p h.toc h.ns h.first h.taken bytes h.means, rest)

-- ---- the compact packets one behind another
pub joined_reads : (k : ℕ) (xs : List Stream) → length xs ≡ suc k → AllValid xs → read_streams k (compact_streams k xs) ≡ streams xs
joined_reads k [] c v = absurd (omega (arith, c))
joined_reads zero (x ∷ []) c v =
    rw (append-nil (packed false x)) at (spelled_streams (v.0.spelled false) [] refl (λ t. streams []))
joined_reads zero (x ∷ y ∷ ys) c v = absurd (omega (arith, c))
joined_reads (suc k) (x ∷ xs) c v =
    spelled_streams (v.0.spelled true) (compact_streams k xs) tt (read_streams k) ∙ rw (joined_reads k xs (omega (arith, c)) v.1)

pub held_of : (k : ℕ) (p : List ℕ) (xs : List Stream) → read_streams k p ≡ streams xs → held_in k p ≡ holds xs
held_of k p xs e = rw (e, repack_compact k p xs e)

-- each by itself
apart-held : (xs : List Stream) → AllValid xs → held_by (map (packed false) xs) ≡ holds xs
apart-held [] v = refl
apart-held (x ∷ xs) v =
    let w = v.0.spelled false in
    rw (reading w, cuts_back w, spelled_six w, apart-held xs v.1)

-- ---- the k-th packet
pub nth_unpads : (ps : List (List ℕ)) (k : ℕ) (xs : List Stream) → held_by ps ≡ holds xs → k < length ps
    → unpad_packet (get_or ps k []) ≡ written (packet_of k xs)
nth_unpads [] k xs e h = absurd (omega (arith, h))
nth_unpads (p ∷ ps) k xs e h = go k (λ j ys. nth_unpads ps j ys) (held_by ps) refl (read false p) refl e h
  where
    go : (k : ℕ) → ((j : ℕ) (ys : List Stream) → held_by ps ≡ holds ys → j < length ps → unpad_packet (get_or ps j []) ≡ written (packet_of j ys))
        → (g : Held) → held_by ps ≡ g → (r : Reading) → read false p ≡ r → then_packets g p r ≡ holds xs → k < suc (length ps)
        → unpad_packet (get_or (p ∷ ps) k []) ≡ written (packet_of k xs)
    go k next g f (refused rule place) q e h = never (cc)
    go k next (stuck d) f (accepted toc ns first taken) q e h = never (cc)
    go zero next (holds ys) f (accepted toc ns first taken) q e h =
        let all : stream_at p toc ns first ∷ ys ≡ xs = cc in
        rw (← all) (unpad_taken p toc ns first taken q)
    go (suc k) next (holds ys) f (accepted toc ns first taken) q e h =
        let all : stream_at p toc ns first ∷ ys ≡ xs = cc in
        rw (← all) (next k ys f (omega (arith, h)))

-- ---- the ordinary form is the shorter one
plain-shorter : (x : Stream) → length (packed false x) ≤ length (packed true x)
plain-shorter x =
    let ns = lengths x.frames in
    let m = sums_of ns in
    omega (
      arith,
      compact-size false x.six x.frames,
      compact-size true x.six x.frames,
      compact_bytes_lem false x.six ns m refl,
      compact_bytes_lem true x.six ns m refl,
    )

plain-within : (k : ℕ) (xs : List Stream) → length xs ≡ suc k → length (joined (map (packed false) xs)) ≤ length (compact_streams k xs)
plain-within k [] c = absurd (omega (arith, c))
plain-within zero (x ∷ []) c = rw (append-nil (packed false x)) (omega arith)
plain-within zero (x ∷ y ∷ ys) c = absurd (omega (arith, c))
plain-within (suc k) (x ∷ xs) c =
    omega (
      arith,
      plain-shorter x,
      plain-within k xs (omega (arith, c)),
      length-append (packed false x) (joined (map (packed false) xs)),
      length-append (packed true x) (compact_streams k xs),
    )

-- ---- where packets were joined
by_room : (room : ℕ) (p q : List ℕ) → into_room p room ≡ written q → (q ≡ p) × (length p ≤ room)
by_room room p q e =
    by_test (ltb room (length p))
    (λ t. let x : refusal BufferTooSmall ≡ written q = rw t at e in never (cc))
    (λ t. let x : written p ≡ written q = rw t at e in (cc, ltb-false room (length p) t))

pub record Wrote (room : ℕ) (f : List Stream → List ℕ) (h : Held) (q : List ℕ) : Type 0 where
  pub all : List Stream
  pub held : h ≡ holds all
  pub equal : equally_long all ≡ true
  pub bytes : q ≡ f all
  pub fits : length q ≤ room

held_was : (room : ℕ) (f : List Stream → List ℕ) (h : Held) (q : List ℕ) → by_held room f h ≡ written q → Wrote room f h q
held_was room f (stuck e) q w = never (cc)
held_was room f (holds xs) q w =
    by_test (equally_long xs)
    (λ t. let x = by_room room (f xs) q (rw t at w) in
    record { all = xs; held = refl; equal = t; bytes = x.0; fits = rw x.0 x.1 })
    (λ t. let x : refusal InvalidPacket ≡ written q = rw t at w in never (cc))

pub record Joined (s ns : List ℕ) (room : ℕ) (q : List ℕ) : Type 0 where
  pub some : 1 ≤ length ns
  pub few : length ns ≤ 255
  pub short : length s ≤ 65535
  pub narrow : room ≤ 65535
  pub sum : total ns ≡ length s
  pub wrote : Wrote room joined_streams (held_by (cut ns s)) q

refused_not : (q : List ℕ) {e : Effect} → e ≡ written q → e ≡ refusal BadArg → {P : Type 0} → P
refused_not q w r = never (cc)

pub join_was : (s ns : List ℕ) (room : ℕ) (q : List ℕ) → join s ns room ≡ written q → Joined s ns room q
join_was s ns room q w =
    by_test (eqb (length ns) 0) (λ t. refused_not q w (join-empty s ns room (eqb-true (length ns) 0 t)))
    (λ t0. let some = eqb-false (length ns) 0 t0 in
    by_test (ltb 255 (length ns)) (λ t. refused_not q w (join_many s ns room some (ltb-true 255 (length ns) t)))
    (λ t1. let few = ltb-false 255 (length ns) t1 in
    by_test (ltb 65535 (length s)) (λ t. refused_not q w (join_long s ns room some few (ltb-true 65535 (length s) t)))
    (λ t2. let short = ltb-false 65535 (length s) t2 in
    by_test (ltb 65535 room) (λ t. refused_not q w (join_wide s ns room some few short (ltb-true 65535 room t)))
    (λ t3. let narrow = ltb-false 65535 room t3 in
    by_test (eqb (total ns) (length s))
    (λ t. let sum = eqb-true (total ns) (length s) t in
    record {
      some = omega (arith, some);
      few = few;
      short = short;
      narrow = narrow;
      sum = sum;
      wrote = held_was room joined_streams (held_by (cut ns s)) q (sym (join-checked s ns room some few short narrow sum) ∙ w);
    })
    (λ t. refused_not q w (join_uneven s ns room some few short narrow (eqb-false (total ns) (length s) t)))))))

-- ---- taking out of a packet q of n streams xs that last equally long
module _ (q : List ℕ) (n : ℕ) (few : n ≤ 255) (short : length q ≤ 65535) (xs : List Stream) (h : held_in (n - 1) q ≡ holds xs)
    (equal : equally_long xs ≡ true) (k : ℕ) (below : k < n) where
  take_in : (room : ℕ) → room ≤ 65535 → Join.take q (pos n) (pos k) room ≡ into_room (packet_of k xs) room
  unfolding Join.take
  take_in room narrow = rw (le-ltb 65535 (length q) short, le-ltb 65535 room narrow, le-ltb 255 n few, lt-leb n k below, h, equal)

  pub take_gives : (room : ℕ) → room ≤ 65535 → length (packet_of k xs) ≤ room → Join.take q (pos n) (pos k) room ≡ written (packet_of k xs)
  take_gives room narrow fits = take_in room narrow ∙ rw (le-ltb room (length (packet_of k xs)) fits)

  take_too_wide : (room : ℕ) → 65535 < room → Join.take q (pos n) (pos k) room ≡ refusal BadArg
  unfolding Join.take
  take_too_wide room wide = rw (le-ltb 65535 (length q) short, lt-ltb 65535 room wide)

  take_was : (room : ℕ) (c : List ℕ) → Join.take q (pos n) (pos k) room ≡ written c → c ≡ packet_of k xs
  take_was room c w =
      by_test (ltb 65535 room)
      (λ t. refused_not c w (take_too_wide room (ltb-true 65535 room t)))
      (λ t. (by_room room (packet_of k xs) c (sym (take_in room (ltb-false 65535 room t)) ∙ w)).0)

-- ---- all that was taken out, joined
same_list : (ts us : List (List ℕ)) → length ts ≡ length us → ((k : ℕ) → k < length us → get_or ts k [] ≡ get_or us k []) → ts ≡ us
same_list [] [] c f = refl
same_list [] (u ∷ us) c f = absurd (omega (arith, c))
same_list (t ∷ ts) [] c f = absurd (omega (arith, c))
same_list (t ∷ ts) (u ∷ us) c f =
    let first : t ≡ u = f 0 (omega arith) in
    let rest : ts ≡ us = same_list ts us (omega (arith, c)) (λ k h. f (suc k) (omega (arith, h))) in
    rw (first, rest)

nth_is : (xs : List Stream) (k : ℕ) → packet_of k xs ≡ get_or (map (packed false) xs) k []
nth_is [] k = refl
nth_is (x ∷ xs) zero = refl
nth_is (x ∷ xs) (suc k) = nth_is xs k

module _ (n : ℕ) (some : 1 ≤ n) (few : n ≤ 255) (xs : List Stream) (count : length xs ≡ n) (valid : AllValid xs) (equal : equally_long xs ≡ true)
    (small : length (joined_streams xs) ≤ 65535) (room : ℕ) (narrow : room ≤ 65535) (fits : length (joined_streams xs) ≤ room) where
  apart-join : join (joined (map (packed false) xs)) (lengths (map (packed false) xs)) room ≡ written (joined_streams xs)
  apart-join =
      let ts = map (packed false) xs in
      let many : length (lengths ts) ≡ n = length-map ts length ∙ (length-map xs (packed false) ∙ count) in
      let back : cut (lengths ts) (joined ts) ≡ ts = rw (append-nil (joined ts)) at (cut-joined ts []) in
      let one : suc (length xs - 1) ≡ length xs = omega (arith, count) in
      let within = plain-within (length xs - 1) xs (sym one) in
      join-checked (joined ts) (lengths ts) room (λ e. omega (arith, many)) (omega (arith, many)) (omega (arith, within, small)) narrow (total-lengths ts)
      ∙ rw (back, apart-held xs valid, equal, le-ltb room (length (joined_streams xs)) fits)

  -- ts are the packets that were taken out of q
  pub parts_join : (q : List ℕ) → length q ≤ 65535 → held_in (n - 1) q ≡ holds xs → (ts : List (List ℕ)) → length ts ≡ n
      → ((k : ℕ) → k < n → (wide : ℕ) × (Join.take q (pos n) (pos k) wide ≡ written (get_or ts k [])))
      → join (joined ts) (lengths ts) room ≡ written (joined_streams xs)
  parts_join q short h ts c t =
      let us = map (packed false) xs in
      let long : length us ≡ n = length-map xs (packed false) ∙ count in
      let are : ts ≡ us = same_list ts us (omega (arith, c, long))
      (λ k b. let below : k < n = omega (arith, b, long) in
      take_was q n few short xs h equal k below (t k below).0 (get_or ts k []) (t k below).1 ∙ nth_is xs k) in
      rw are apart-join

-- ---- any multistream packet
pub streams_count : (k : ℕ) (p : List ℕ) (xs : List Stream) → read_streams k p ≡ streams xs → length xs ≡ suc k
streams_count zero p xs e =
    let next : List ℕ → Streams = λ t. streams [] in
    let h = held false next p xs e in
    let none : [] ≡ h.others = let r : streams [] ≡ streams h.others = h.rest in cc in
    rw (← h.all, ← none)
streams_count (suc k) p xs e =
    let h = held true (read_streams k) p xs e in
    rw (← h.all, streams_count k (drop h.taken p) h.others h.rest)

pub unpads_as : (k : ℕ) (p : List ℕ) (xs : List Stream) → read_streams k p ≡ streams xs → unpad_streams (suc k) p ≡ written (compact_streams k xs)
unfolding unpad_streams
unpads_as k p xs e =
    let one : suc k - 1 ≡ k = omega arith in
    rw (one, repack_compact k p xs e)
