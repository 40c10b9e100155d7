-- A stream that is rewritten in compact form further to the front, and the loop over all streams.
--     readable_ok, lent_ok                          one stream: the reader's answer, with its lengths in a lent array
--     lying, taken_fits, rewrite_fits, rewritten    how it lies, and what its rewrite needs and leaves
--     Repacking                                     what the loop keeps: the streams so far stand in compact form at the front, and the
--                                                   unread ones are as they were
--     same_size, in_places                          the buffer and the places at any turn
--     repacking_start                               the start
--     repacking_reads, repacking_more               a turn: the stream is read, and what its rewrite leaves
--     repacking_last, repacking_end                 the last stream likewise
-- Assumes nothing.
use Prim.Native.Nat.{ℕ, zero, suc, ◌+◌, ◌-◌, ◌≤◌, ◌<◌}
use native.Mathlib.Nat.{add-zero}
use native.Mathlib.Omega.{arith}
use mathlib.Core.Path.{◌≡◌, refl, sym, ap, ◌∙◌}
use mathlib.Core.List.{List, [], ◌++◌, append-nil, append_assoc}
use mathlib.Core.Bool.{Bool, true, false}
use lib.ListN.{length, take, drop, length-append, length-take, length-drop}
use lib.Seq.{sets, drop-drop, length-sets, length-take-le}
use borrow.Author.Rules.{part_to_end}
use borrow.Rule.Slice.PartMut.{put_mid}
use Rattle.laws.specs.Bytes.{Bytes}
use Rattle.laws.proofs.Bytes.{bytes_drop, bytes_take}
use Rattle.laws.proofs.Never.{never}
use Rattle.blocks.proofs.Sets.{sets-append, drop-sets_past, drop-take}
use Rattle.opus_defines.proofs.Others.{shifted_none, shifted_more}
use Rattle.opus_defines.specs.declared.Refusal.{Refusal}
use Rattle.std.specs.Prelude.{Err, Ok, Result, IsOk}
use Rattle.opus_toc.specs.Toc.{upper_six}
use Rattle.opus_format.specs.Frames.{cut, total}
use Rattle.opus_format.specs.Reading.{Reading, refused, accepted, read}
use Rattle.opus.specs.Answers.{packet_of, parsed, answer_of}
use Rattle.opus.specs.declared.Packet.{Packet}
use Rattle.opus.specs.declared.PacketHead.{PacketHead}
use Rattle.opus_header.specs.Header.{compact_header}
use Rattle.opus_header.specs.Compact.{compact}
use Rattle.opus.proofs.Parsed.{lengths_of}
use Rattle.opus.proofs.AtPacket.{parse_read}
use Rattle.packet_pad.proofs.Framed.{Lies, lies}
use Rattle.multistream.specs.declared.Places.{Places}
use Rattle.multistream.specs.Unpad.{Repacked, unread, repacked, ahead, repack_reading, repack_streams}
use Rattle.multistream.specs.Parts.{stream, compact_by, compact_of, taken_by, is_accepted, next_places, verdict_of, packed_of}
use Rattle.multistream.proofs.Bounds.{by_within}
use Rattle.multistream.proofs.Passing.{shifted_verdict, ahead_verdict}
use Rattle.blocks.proofs.LentParts.{sets_lent}

-- ---- one stream
pub readable_ok : (sd : Bool) (p : List ℕ) → length p ≤ 65535 → is_accepted (read sd p) ≡ true → (r : Packet) × (Ok r ≡ parsed sd p)
readable_ok sd p h ok = go (read sd p) (parse_read sd p h) ok
  where
    go : (x : Reading) → packet_of x ≡ parsed sd p → is_accepted x ≡ true → (r : Packet) × (Ok r ≡ parsed sd p)
    go (refused rule place) e a = never (cc)
    go (accepted toc ns first taken) e a = (_, e)

-- what the reader answers of a packet that was read before, with its lengths in a lent array, is no refusal
pub lent_ok : (sd : Bool) (p : List ℕ) → length p ≤ 65535 → is_accepted (read sd p) ≡ true → (r : Result PacketHead Refusal) (l : List ℕ)
    → answer_of r l ≡ parsed sd p → IsOk r
lent_ok sd p h ok (Ok x) l e = refl
lent_ok sd p h ok (Err c) l e = never (let q = (readable_ok sd p h ok).1 ∙ sym e in cc)

-- the stream at `from`, of what ends at `len`, is so short
pub stream_short : (s : List ℕ) (from len : ℕ) → len ≤ 65535 → length (stream s from len) ≤ 65535
stream_short s from len h = omega (arith, length-take (len - from) (drop from s))

-- the stream at `from`, of what ends at `len`, goes to `to`; r is the reader's answer
module _ (sd : Bool) (s : List ℕ) (to from len : ℕ) (places : (to ≤ from) × (from ≤ len) × (len ≤ length s) × (len ≤ 65535))
    (ok : is_accepted (read sd (stream s from len)) ≡ true) (bytes : Bytes s) (r : Packet) (p : Ok r ≡ parsed sd (stream s from len)) where
  fits : len - from ≤ length (drop from s)
  fits = omega (arith, length-drop from s)

  long : length (stream s from len) ≡ len - from
  long = length-take-le (len - from) (drop from s) fits

  inner : Bytes (stream s from len)
  inner = bytes_take (len - from) (drop from s) (bytes_drop from s bytes)

  pub lying : Lies sd (drop from s) (len - from) r
  lying = lies sd (drop from s) (len - from) r (bytes_drop from s bytes) fits p

  taken_is : taken_by (read sd (stream s from len)) ≡ r.taken
  taken_is = rw lying.means

  pub taken_fits : from + r.taken ≤ len
  taken_fits = omega (arith, taken_is, (by_within sd (stream s from len) inner).1, long)

  compact-fits : length (compact_of sd (stream s from len)) ≤ r.taken
  compact-fits = omega (arith, taken_is, (by_within sd (stream s from len) inner).0)

  abbrev first : ℕ
  first = from - to + r.first

  block : first + total (lengths_of r) ≤ length (drop to s)
  block = omega (arith, lying.within, length-drop to s)

  -- the frames stand where the code says
  written : compact sd (upper_six r.toc) (cut (lengths_of r) (drop first (drop to s))) ≡ compact_of sd (stream s from len)
  written =
      let place : to + first ≡ from + r.first = omega arith in
      let there : drop first (drop to s) ≡ drop r.first (drop from s) = rw (drop-drop first to s, place, drop-drop r.first from s) in
      rw (there, lying.means, lying.frames)

  -- of the part that is lent
  pub rewrite_fits : (first + total (lengths_of r) ≤ length (take (length s - to) (drop to s)))
      × (length (compact_header sd (upper_six r.toc) (lengths_of r)) ≤ first)
  rewrite_fits = (rw (part_to_end s to) block, omega (arith, lying.short))

  pub rewritten : {v : List ℕ} {n : ℕ}
      → let d = take (length s - to) (drop to s) in
      let q = compact sd (upper_six r.toc) (cut (lengths_of r) (drop first d)) in
      v ≡ sets d 0 q → n ≡ length q
      → (put_mid to (length s - to) s v ≡ sets s to (compact_of sd (stream s from len)))
      × (◌≡◌ {A = Places} (record { to = to + n; from = from + r.taken }) (next_places to from sd (stream s from len))) × (to + n ≤ len)
  rewritten a b =
      let a' = rw (part_to_end s to, written) at a in
      let b' = rw (part_to_end s to, written) at b in
      (rw a' (sets_lent s to (compact_of sd (stream s from len))), rw (b', taken_is), omega (arith, compact-fits, taken_fits))

-- ---- one stream and those behind it
-- where the verdict is good, the stream was read
module _ (sd : Bool) (next : List ℕ → Repacked) (p : List ℕ) where
  was_read : (x : Reading) → verdict_of (repack_reading sd next p x) ≡ Ok tt → is_accepted x ≡ true
  was_read (refused rule place) v = never (cc)
  was_read (accepted toc ns first taken) v = refl

  was_repacked : (x : Reading) → verdict_of (repack_reading sd next p x) ≡ Ok tt
      → repack_reading sd next p x ≡ ahead (compact_by sd p x) (taken_by x) (next (drop (taken_by x) p))
  was_repacked (refused rule place) v = never (cc)
  was_repacked (accepted toc ns first taken) v = refl

ahead_more : (a b : List ℕ) (n m : ℕ) (x : Repacked) → ahead a n (ahead b m x) ≡ ahead (a ++ b) (n + m) x
ahead_more a b n m (unread e) = ap unread (shifted_more n m e)
ahead_more a b n m (repacked v) = rw (append_assoc a b v)

ahead_none : (x : Repacked) → ahead [] 0 x ≡ x
ahead_none (unread e) = ap unread (shifted_none e)
ahead_none (repacked v) = refl

accepted_shifted : (n : ℕ) (v : Result (Unit {0}) Refusal) → shifted_verdict n v ≡ Ok tt → v ≡ Ok tt
accepted_shifted n (Ok tt) e = refl
accepted_shifted n (Err r) e = never (cc)

-- ---- the loop: i of k streams are rewritten and end at `to`, the next to read is at `from`; s was the buffer at first, d is it now
pub record Repacking (s : List ℕ) (len k : ℕ) (d : List ℕ) (to from i : ℕ) : Type 0 where
  pub done : List ℕ
  pub now_is : d ≡ sets s 0 done
  pub size : length done ≡ to
  pub behind : to ≤ from
  pub inside : from ≤ len
  pub left : ℕ
  pub count : left + i ≡ k
  pub rest : ahead done from (repack_streams left (drop from (take len s))) ≡ repack_streams k (take len s)

module _ (s : List ℕ) (len k : ℕ) where
  pub repacking_start : Repacking s len k s 0 0 0
  repacking_start =
      record {
        done = [];
        now_is = refl;
        size = refl;
        behind = omega arith;
        inside = omega arith;
        left = k;
        count = add-zero k;
        rest = ahead_none (repack_streams k (take len s));
      }

  module _ (fits : len ≤ length s) (short : len ≤ 65535) (good : verdict_of (repack_streams k (take len s)) ≡ Ok tt) (d : List ℕ) (to from i : ℕ)
      (z : Repacking s len k d to from i) where
    -- what is left to read
    abbrev rest : List ℕ
    rest = drop from (take len s)

    pub same_size : length d ≡ length s
    same_size = rw z.now_is (length-sets s 0 z.done)

    unread_are : stream d from len ≡ rest
    unread_are =
        rw (z.now_is, drop-sets_past s 0 z.done from (omega (arith, z.size, z.behind)), drop-take from len s)

    pub in_places : (to ≤ from) × (from ≤ len) × (len ≤ length d) × (len ≤ 65535)
    in_places = (z.behind, z.inside, omega (arith, same_size), short)

    verdict_is : verdict_of (repack_streams z.left rest) ≡ Ok tt
    verdict_is =
        accepted_shifted from (verdict_of (repack_streams z.left rest))
        (sym (ahead_verdict z.done from (repack_streams z.left rest)) ∙ (ap verdict_of z.rest ∙ good))

    -- the next stream, by the delimiting
    module _ (sd : Bool) (next : List ℕ → Repacked) (e : repack_streams z.left rest ≡ repack_reading sd next rest (read sd rest)) where
      good_reading : verdict_of (repack_reading sd next rest (read sd rest)) ≡ Ok tt
      good_reading = ap verdict_of (sym e) ∙ verdict_is

      next_reads : is_accepted (read sd (stream d from len)) ≡ true
      next_reads = rw unread_are (was_read sd next rest (read sd rest) good_reading)

      -- d' and at are the buffer and the places after it
      module _ (bytes : Bytes s) (d' : List ℕ) (b : d' ≡ sets d to (compact_of sd (stream d from len))) (at : Places)
          (a : at ≡ next_places to from sd (stream d from len)) where
        within : (length (compact_of sd rest) ≤ taken_by (read sd rest)) × (taken_by (read sd rest) ≤ length rest)
        within = by_within sd rest (bytes_drop from (take len s) (bytes_take len s bytes))

        next_now : d' ≡ sets s 0 (z.done ++ compact_of sd rest)
        next_now =
            let place : 0 + length z.done ≡ to = omega (arith, z.size) in
            rw (b, unread_are, sets-append s 0 z.done (compact_of sd rest), place, z.now_is)

        next-size : length (z.done ++ compact_of sd rest) ≡ at.to
        next-size = rw (a, unread_are, length-append z.done (compact_of sd rest), z.size)

        next_rest : let n = taken_by (read sd rest) in ahead (z.done ++ compact_of sd rest) (from + n) (next (drop n rest)) ≡ repack_streams k (take len s)
        next_rest =
            let n = taken_by (read sd rest) in
            sym (ahead_more z.done (compact_of sd rest) from n (next (drop n rest)))
            ∙ (ap (ahead z.done from) (sym (was_repacked sd next rest (read sd rest) good_reading)) ∙ (ap (ahead z.done from) (sym e) ∙ z.rest))

        next_from : at.from ≡ from + taken_by (read sd rest)
        next_from = rw (a, unread_are)

    -- another self-delimited stream, and the last one
    more_left : i < k → (l : ℕ) × (z.left ≡ suc l)
    more_left h = go z.left z.count refl
      where
        go : (l : ℕ) → l + i ≡ k → z.left ≡ l → (m : ℕ) × (z.left ≡ suc m)
        go zero c e = absurd (omega arith)
        go (suc l) c e = (l, e)

    module _ (h : i < k) where
      next_is : repack_streams z.left rest ≡ repack_reading true (repack_streams (more_left h).0) rest (read true rest)
      next_is = ap (λ (n : ℕ). repack_streams n rest) (more_left h).1

      pub repacking_reads : is_accepted (read true (stream d from len)) ≡ true
      repacking_reads = next_reads true (repack_streams (more_left h).0) next_is

      pub repacking_more : Bytes s → (d' : List ℕ) → d' ≡ sets d to (compact_of true (stream d from len)) → (at : Places)
          → at ≡ next_places to from true (stream d from len) → Repacking s len k d' at.to at.from (i + 1)
      repacking_more bytes d' b at a =
          let next = repack_streams (more_left h).0 in
          let w = within true next next_is bytes d' b at a in
          let n = next_from true next next_is bytes d' b at a in
          let size = next-size true next next_is bytes d' b at a in
          record {
            done = z.done ++ compact_of true rest;
            now_is = next_now true next next_is bytes d' b at a;
            size = size;
            behind = omega (arith, size, w.0, n, z.size, z.behind, length-append z.done (compact_of true rest));
            inside = omega (arith, w.1, n, z.inside, length-drop from (take len s), length-take-le len s fits);
            left = (more_left h).0;
            count = omega (arith, (more_left h).1, z.count);
            rest = rw (n, ← drop-drop (taken_by (read true rest)) from (take len s)) (next_rest true next next_is bytes d' b at a);
          }

    module _ (h : k ≤ i) where
      last_is : repack_streams z.left rest ≡ repack_reading false (λ t. repacked []) rest (read false rest)
      last_is = let none : z.left ≡ 0 = omega (arith, z.count) in ap (λ (n : ℕ). repack_streams n rest) none

      pub repacking_last : is_accepted (read false (stream d from len)) ≡ true
      repacking_last = next_reads false (λ t. repacked []) last_is

      pub repacking_end : Bytes s → (d' : List ℕ) → d' ≡ sets d to (compact_of false (stream d from len)) → (at : Places)
          → at ≡ next_places to from false (stream d from len)
          → (d' ≡ sets s 0 (packed_of (repack_streams k (take len s)))) × (at.to ≡ length (packed_of (repack_streams k (take len s))))
      repacking_end bytes d' b at a =
          let next : List ℕ → Repacked = λ t. repacked [] in
          let all : repacked (z.done ++ compact_of false rest) ≡ repack_streams k (take len s) =
          rw append-nil at (next_rest false next last_is bytes d' b at a) in
          rw (← all) (next_now false next last_is bytes d' b at a, sym (next-size false next last_is bytes d' b at a))
