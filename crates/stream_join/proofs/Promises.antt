-- What a buyer may count on when packets are joined, and when streams are taken out (document 02, M-108).
-- Assumes nothing.
use Prim.Native.Nat.{ℕ, suc, ◌+◌, ◌-◌, ◌≤◌, ◌<◌}
use native.Mathlib.Omega.{arith}
use mathlib.Core.Path.{◌≡◌, refl, sym, ap, ◌∙◌}
use mathlib.Core.List.{List, [], map}
use mathlib.Core.Bool.{Bool, true, false}
use mathlib.Core.Logic.{◌⊎◌, inl, inr, ⊎_elim}
use lib.IntN.{ℤ, pos, negsuc}
use lib.ListN.{length, get_or, take as listTake}
use Rattle.laws.specs.Bytes.{Bytes}
use Rattle.opus_defines.specs.Rules.{rule_refusal}
use Rattle.opus_defines.specs.Outcome.{refusal, written, leaves}
use Rattle.opus_defines.specs.declared.Refusal.{Refusal}
use Rattle.opus_defines.specs.declared.Refusal.TheVariants.{BadArg, BufferTooSmall, InvalidPacket}
use Rattle.opus_defines.proofs.Outcomes.{refusal-keeps}
use Rattle.opus_format.specs.Frames.{lengths, joined, cut, total}
use Rattle.opus_format.specs.Format.{Spells}
use Rattle.opus_format.specs.Reading.{read}
use Rattle.opus_header.specs.Compact.{compact}
use Rattle.opus_header.proofs.Rebuilt.{never_longer}
use Rattle.packet_pad.specs.Unpad.{unpad_packet}
use Rattle.multistream.specs.Reading.{Stream, streams, read_streams, compact_streams}
use Rattle.multistream.specs.Streams.{streams_of}
use Rattle.multistream.specs.Unpad.{unpad_streams}
use Rattle.multistream.proofs.Written.{compact-within}
use Rattle.stream_join.specs.Join.{holds, held_in, lasting, equally_long, by_held, joined_streams, join, packets_joined, packet_of, take, stream_taken}
use Rattle.stream_join.specs.Refusals.{Outside, Inside, Readable, Unread, lasts, OutsideTake}
use Rattle.stream_join.proofs.Looked.{cut_count}
use Rattle.stream_join.proofs.Joining.{held_count}
use Rattle.stream_join.proofs.Apart.{Joined, join_was, packets_valid, streams_valid, joined_reads, held_of, nth_unpads, take_gives, parts_join}
use Rattle.stream_join.proofs.Apart.{streams_count, unpads_as}
use Rattle.stream_join.proofs.Refusing.{inside_or_outside, join_outside, join_by, readable_or-not}
use Rattle.stream_join.proofs.Refusing.{first_unreadable, times_differ, some_differs, times_agree_or-not, times_agree}
use Rattle.stream_join.proofs.Refusing.{take_outside, take_outside_or-not, take-unread-or-not}
use Rattle.stream_join.proofs.Refusing.{streams_agree_or-not, take-unread, take-unequal, take_some_differs, take_agree}

-- ---- packets of lengths ns, one behind another in s, that were joined into q
module _ (s ns : List ℕ) (bytes : Bytes s) (room : ℕ) (q : List ℕ) (j : join s ns room ≡ written q) where
  was : Joined s ns room q
  was = join_was s ns room q j

  abbrev all : List Stream
  all = was.wrote.all

  abbrev n : ℕ
  n = length ns

  count : length all ≡ n
  count = held_count (cut ns s) all was.wrote.held ∙ cut_count ns s

  least : suc (n - 1) ≡ n
  least = omega (arith, was.some)

  q_is : q ≡ compact_streams (n - 1) all
  q_is = was.wrote.bytes ∙ ap (λ m. compact_streams (m - 1) all) count

  reads : read_streams (n - 1) q ≡ streams all
  reads =
      ap (λ v. read_streams (n - 1) v) q_is ∙ joined_reads (n - 1) all (count ∙ sym least) (packets_valid ns s bytes all was.wrote.held)

  short : length q ≤ 65535
  short = omega (arith, was.wrote.fits, was.narrow)

  -- 1. Taking out stream k gives the compact packet of the k-th packet, which is what unpadding that gives, with any room that holds it,
  pub joined_comes_apart : (k : ℕ) → k < length ns
      → (c : List ℕ) × (unpad_packet (get_or (cut ns s) k []) ≡ written c)
      × ((room' : ℕ) → length c ≤ room' → room' ≤ 65535 → take q (pos (length ns)) (pos k) room' ≡ written c)
  joined_comes_apart k h = (
    packet_of k all,
    nth_unpads (cut ns s) k all was.wrote.held (omega (arith, h, cut_count ns s)),
    λ room' fits narrow. take_gives q n was.few short all (held_of (n - 1) q all reads) was.wrote.equal k h room' narrow fits,
  )

  -- 2. and all that were taken out, joined, give q again.
  pub apart_joins_again : (ts : List (List ℕ)) → length ts ≡ length ns
      → ((k : ℕ) → k < length ns → (room' : ℕ) × (take q (pos (length ns)) (pos k) room' ≡ written (get_or ts k [])))
      → join (joined ts) (lengths ts) room ≡ written q
  apart_joins_again ts c t =
      let fits : length (joined_streams all) ≤ room = omega (arith, was.wrote.fits, ap length was.wrote.bytes) in
      parts_join n was.some was.few all count (packets_valid ns s bytes all was.wrote.held) was.wrote.equal
      (omega (arith, fits, was.narrow)) room was.narrow fits q short (held_of (n - 1) q all reads) ts c t
      ∙ ap (λ (v : List ℕ). written v) (sym was.wrote.bytes)

  -- 3. It is a multistream packet of as many streams, written as their compact packets one behind another, each the shortest packet of RFC 6716 in its
  -- delimiting with those frames and upper six TOC bits; and no multistream packet with these streams is shorter.
  pub joined_is_shortest : (xs : List Stream) × (read_streams (length ns - 1) q ≡ streams xs) × (q ≡ compact_streams (length ns - 1) xs)
      × ((x : Stream) (sd : Bool) (p : List ℕ) → Spells sd x.six p x.frames → length (compact sd x.six x.frames) ≤ length p)
      × ((p : List ℕ) → Bytes p → read_streams (length ns - 1) p ≡ streams xs → length q ≤ length p)
  joined_is_shortest =
      (all, reads, q_is, λ x sd p w. never_longer w, λ p b e. omega (arith, ap length q_is, compact-within (n - 1) p b all e))

-- ---- 4. The parts of any multistream packet whose streams last equally long, taken out and joined, are what unpadding it gives.
pub parts-joined_are_unpadded : (k : ℕ) (p : List ℕ) → Bytes p → length p ≤ 65535 → suc k ≤ 255
    → (xs : List Stream) → read_streams k p ≡ streams xs
    → equally_long xs ≡ true → (ts : List (List ℕ)) → length ts ≡ suc k
    → ((i : ℕ) → i < suc k → (room' : ℕ) × (take p (pos (suc k)) (pos i) room' ≡ written (get_or ts i [])))
    → (room : ℕ) → length p ≤ room → room ≤ 65535 → join (joined ts) (lengths ts) room ≡ unpad_streams (suc k) p
parts-joined_are_unpadded k p bytes short few xs e equal ts c t room fits narrow =
    let count = streams_count k p xs e in
    let same : length xs - 1 ≡ k = omega (arith, count) in
    let less : length (joined_streams xs) ≤ length p = rw same (compact-within k p bytes xs e) in
    let one : suc k - 1 ≡ k = omega arith in
    let there : held_in (suc k - 1) p ≡ holds xs = rw one (held_of k p xs e) in
    parts_join (suc k) (omega arith) few xs count (streams_valid k p bytes xs e) equal (omega (arith, less)) room narrow (omega (arith, less)) p short there
    ts c t
    ∙ (ap (λ m. written (compact_streams m xs)) same ∙ sym (unpads_as k p xs e))

-- ---- 5. All of this is about the calls: the room is the length of the destination, at whose front the bytes stand, and those past them stay. Beside a refusal
-- nothing is written.
pub join_is_the_call : (s ns dst : List ℕ) → packets_joined s ns dst ≡ leaves dst (join s ns (length dst))
unfolding packets_joined
join_is_the_call s ns dst = refl

pub take_is_the_call : (s : List ℕ) (nb k : ℤ) (dst : List ℕ) → stream_taken s nb k dst ≡ leaves dst (take s nb k (length dst))
unfolding stream_taken
take_is_the_call s nb k dst = refl

pub refused_join_changes_nothing : (s ns dst : List ℕ) (n : ℕ) → (packets_joined s ns dst).report.number ≡ negsuc n
    → (packets_joined s ns dst).bytes ≡ dst
unfolding packets_joined
refused_join_changes_nothing s ns dst n e = refusal-keeps dst (join s ns (length dst)) n e

pub refused_take_changes_nothing : (s : List ℕ) (nb k : ℤ) (dst : List ℕ) (n : ℕ) → (stream_taken s nb k dst).report.number ≡ negsuc n
    → (stream_taken s nb k dst).bytes ≡ dst
unfolding stream_taken
refused_take_changes_nothing s nb k dst n e = refusal-keeps dst (take s nb k (length dst)) n e

-- ---- 6. What a join refuses, in this order and nothing else. Either something is outside, and the join is refused by -1,
pub join_outside_or-not : (s ns : List ℕ) (room : ℕ) → Inside s ns room ⊎ (Outside s ns room × (join s ns room ≡ refusal BadArg))
join_outside_or-not s ns room = ⊎_elim inl (λ (o : Outside s ns room). inr (o, join_outside s ns room o)) (inside_or_outside s ns room)

module _ (s ns : List ℕ) (room : ℕ) (i : Inside s ns room) where
  -- or a packet is the first that cannot be read, and the join is refused by its rule and place, counted from the front of the buffer,
  pub join-unreadable-or-not : Readable (cut ns s)
      ⊎ ((u : Unread (cut ns s)) × (join s ns room ≡ refusal (rule_refusal u.rule (total (listTake u.at ns) + u.place))))
  join-unreadable-or-not =
      ⊎_elim inl
      (λ (u : Unread (cut ns s)). inr (
        u,
        join_by s ns room i
            ∙ ap (by_held room joined_streams)
            (first_unreadable u.at ns s (omega (arith, i.sum)) (omega (arith, u.inside, cut_count ns s)) u.before u.rule u.place u.is),
      ))
      (readable_or-not (cut ns s))

  module _ (r : Readable (cut ns s)) where
    -- how long packet k lasts, by its TOC byte and its frame count
    abbrev pub lasts_at : ℕ → ℕ
    lasts_at k = lasts (read false (get_or (cut ns s) k []))

    -- 7. or two do not last equally long, exactly where the join is refused by -4 without rule,
    pub equal-times-exactly :
        ((k j : ℕ) → k < length ns → j < length ns → (lasts_at k ≡ lasts_at j → ⊥) → join s ns room ≡ refusal InvalidPacket)
        × (join s ns room ≡ refusal InvalidPacket → (k : ℕ) × (k < length ns) × (lasts_at k ≡ lasts_at 0 → ⊥))
    equal-times-exactly = (times_differ s ns room i r, some_differs s ns room i r)

    pub times-agree-or-differ :
        ((k : ℕ) → k < length ns → lasts_at k ≡ lasts_at 0) ⊎ ((k : ℕ) × (k < length ns) × (lasts_at k ≡ lasts_at 0 → ⊥))
    times-agree-or-differ = times_agree_or-not s ns room i r

    -- or there is no room for the streams of the packets, all but the last self-delimited, and the join is refused by -2; else they are written. (A packet's
    -- stream is told by its compact packet, which is what unpadding it gives.)
    pub join_has_room_or-not : ((k : ℕ) → k < length ns → lasts_at k ≡ lasts_at 0)
        → (xs : List Stream) × (length xs ≡ length ns) × ((k : ℕ) → k < length ns → unpad_packet (get_or (cut ns s) k []) ≡ written (packet_of k xs))
        × (room < length (compact_streams (length ns - 1) xs) → join s ns room ≡ refusal BufferTooSmall)
        × (length (compact_streams (length ns - 1) xs) ≤ room → join s ns room ≡ written (compact_streams (length ns - 1) xs))
    join_has_room_or-not f =
        let t = times_agree s ns room i r f in
        let many : length t.0 ≡ length ns = held_count (cut ns s) t.0 t.1 ∙ cut_count ns s in (
          t.0,
          many,
          λ k h. nth_unpads (cut ns s) k t.0 t.1 (omega (arith, h, cut_count ns s)),
          rw (sym many) t.2,
          rw (sym many) t.3,
        )

-- ---- 8. What taking out refuses, in this order. -1 where a packet or a destination is above 65,535 bytes, or k is no stream of the packet,
pub take_refused_outside : (s : List ℕ) (nb k : ℤ) (room : ℕ) → OutsideTake s nb k room → take s nb k room ≡ refusal BadArg
take_refused_outside s nb k room = take_outside s nb room k

pub take_inside_or_outside : (s : List ℕ) (nb k : ℤ) (room : ℕ)
    → ((m : ℕ) × (k ≡ pos m) × (m < streams_of nb) × (length s ≤ 65535) × (room ≤ 65535)) ⊎ OutsideTake s nb k room
take_inside_or_outside s nb k room = take_outside_or-not s nb room k

-- (either unpad cannot read the packet, or it has streams)
pub take-unreadable-or_streams : (s : List ℕ) (nb : ℤ)
    → ((e : Refusal) × (unpad_streams (streams_of nb) s ≡ refusal e)) ⊎ ((xs : List Stream) × (read_streams (streams_of nb - 1) s ≡ streams xs))
take-unreadable-or_streams s nb = take-unread-or-not s nb 0

module _ (s : List ℕ) (nb : ℤ) (room : ℕ) (short : length s ≤ 65535) (narrow : room ≤ 65535) (k : ℕ) (below : k < streams_of nb) where
  -- what multistream unpad says of a packet that it cannot read,
  pub take_refused_unreadable : (e : Refusal) → unpad_streams (streams_of nb) s ≡ refusal e → take s nb (pos k) room ≡ refusal e
  take_refused_unreadable = take-unread s nb room short narrow k below

  module _ (xs : List Stream) (r : read_streams (streams_of nb - 1) s ≡ streams xs) where
    -- -4 without rule exactly where two streams do not last equally long,
    pub take-equal-times-exactly :
        ((i j : ℕ) → i < length xs → j < length xs → (get_or (map lasting xs) i 0 ≡ get_or (map lasting xs) j 0 → ⊥)
        → take s nb (pos k) room ≡ refusal InvalidPacket)
        × (take s nb (pos k) room ≡ refusal InvalidPacket
        → (i : ℕ) × (i < length xs) × (get_or (map lasting xs) i 0 ≡ get_or (map lasting xs) 0 0 → ⊥))
    take-equal-times-exactly = (take-unequal s nb room short narrow k below xs r, take_some_differs s nb room short narrow k below xs r)

    pub take-times_agree_or_differ : ((i : ℕ) → i < length xs → get_or (map lasting xs) i 0 ≡ get_or (map lasting xs) 0 0)
        ⊎ ((i : ℕ) × (i < length xs) × (get_or (map lasting xs) i 0 ≡ get_or (map lasting xs) 0 0 → ⊥))
    take-times_agree_or_differ = streams_agree_or-not xs

    -- and -2 where there is no room for the stream's compact packet; else that is written.
    pub take_has_room_or-not : ((i : ℕ) → i < length xs → get_or (map lasting xs) i 0 ≡ get_or (map lasting xs) 0 0)
        → (room < length (packet_of k xs) → take s nb (pos k) room ≡ refusal BufferTooSmall)
        × (length (packet_of k xs) ≤ room → take s nb (pos k) room ≡ written (packet_of k xs))
    take_has_room_or-not = take_agree s nb room short narrow k below xs r
