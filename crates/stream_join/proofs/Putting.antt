-- Packets written one behind another, which were read before: the laws of the second pass.
--     is_held_lem                                        what is held is a list of streams
--     FirstOf, first_of                              the first packet and those behind it
--     Putting                                        what the loop keeps: what is written now and the packets from here on are all that is to be written
--     putting_start, putting_end                     its start and its end
--     put_within, put_long                           a turn: the packet is there,
--     putting_reads, putting_fits, putting_room      it is read again, and has room,
--     putting_more                                   and what it leaves
-- Assumes nothing.
use Prim.Native.Nat.{ℕ, ◌+◌, ◌-◌, ◌≤◌, ◌<◌}
use native.Mathlib.Omega.{arith}
use mathlib.Core.Path.{◌≡◌, refl, sym, ap, ◌∙◌}
use mathlib.Core.List.{List, [], ◌∷◌, ◌++◌}
use mathlib.Core.Bool.{Bool, true, false}
use lib.Dec.{ltb}
use lib.ListN.{length, get_or, take, drop, length-append, length-drop, drop_of_length-le}
use lib.Seq.{sets, drop-drop, length-sets, length-take-le}
use borrow.Author.Rules.{part_to_end}
use borrow.Rule.Slice.PartMut.{put_mid}
use Rattle.laws.proofs.Never.{never}
use Rattle.blocks.proofs.Sets.{sets-append}
use Rattle.blocks.proofs.LentParts.{sets_lent}
use Rattle.opus_format.specs.Frames.{cut, total}
use Rattle.opus_format.specs.Reading.{Reading, refused, accepted, read}
use Rattle.multistream.specs.Reading.{Stream}
use Rattle.multistream.specs.Parts.{is_accepted, compact_by}
use Rattle.stream_join.specs.Join.{Held, stuck, holds, then_packets, held_by}
use Rattle.stream_join.specs.Parts.{stream_at, packed, packed_from, is_held, held_streams}
use Rattle.stream_join.proofs.Surveyed.{next-length}

pub is_held_lem : (h : Held) → is_held h ≡ true → h ≡ holds (held_streams h)
is_held_lem (stuck e) t = never (cc)
is_held_lem (holds xs) t = refl

-- ---- the first packet and those behind it
pub record FirstOf (h : Held) (p : List ℕ) (r : Reading) (xs : List Stream) : Type 0 where
  pub ok : is_accepted r ≡ true
  pub one : Stream
  pub others : List Stream
  pub behind : h ≡ holds others
  pub all : xs ≡ one ∷ others
  pub puts : (out : Bool) → compact_by out p r ≡ packed out one

pub first_of : (h : Held) (p : List ℕ) (r : Reading) (xs : List Stream) → then_packets h p r ≡ holds xs → FirstOf h p r xs
first_of h p (refused rule place) xs e = never (cc)
first_of (stuck f) p (accepted toc ns first taken) xs e = never (cc)
first_of (holds ys) p (accepted toc ns first taken) xs e =
    record { ok = refl; one = stream_at p toc ns first; others = ys; behind = refl; all = cc; puts = λ out. refl }

-- ---- the loop: i packets are written and end at `to`, the next to read is at `at`; d₀ was the buffer at first, d is it now
pub record Putting (s ns d₀ d : List ℕ) (at to i : ℕ) : Type 0 where
  pub inside : i ≤ length ns
  pub place : at + total (drop i ns) ≡ length s
  pub left : List Stream
  pub held : held_by (cut (drop i ns) (drop at s)) ≡ holds left
  pub room : to + length (packed_from (length ns) i left) ≤ length d
  pub size : length d ≡ length d₀
  pub same : sets d to (packed_from (length ns) i left) ≡ sets d₀ 0 (packed_from (length ns) 0 (held_streams (held_by (cut ns s))))

module _ (s ns d₀ : List ℕ) where
  pub putting_start : total ns ≡ length s → is_held (held_by (cut ns s)) ≡ true
      → length (packed_from (length ns) 0 (held_streams (held_by (cut ns s)))) ≤ length d₀ → Putting s ns d₀ d₀ 0 0 0
  putting_start h k room =
      record {
        inside = omega arith;
        place = omega arith;
        left = held_streams (held_by (cut ns s));
        held = is_held_lem (held_by (cut ns s)) k;
        room = omega (arith, room);
        size = refl;
        same = refl;
      }

  module _ (d : List ℕ) (at to i : ℕ) (z : Putting s ns d₀ d at to i) where
    pub putting_end : length ns ≤ i → d ≡ sets d₀ 0 (packed_from (length ns) 0 (held_streams (held_by (cut ns s))))
    putting_end h =
        let none : holds [] ≡ holds z.left = rw (drop_of_length-le ns h) at z.held in
        let is : z.left ≡ [] = cc in
        rw is at z.same

    module _ (h : i < length ns) (k : ℕ) (is : k ≡ get_or ns i 0) where
      pub put_within : at + k ≤ length s
      put_within = let p = rw (next-length ns i h) at z.place in omega (arith, p, is)

      abbrev lent : List ℕ
      lent = take (at + k - at) (drop at s)

      lent_is : lent ≡ take (get_or ns i 0) (drop at s)
      lent_is = let e : at + k - at ≡ get_or ns i 0 = omega (arith, is) in rw e

      pub put_long : length lent ≡ k
      put_long =
          let e : at + k - at ≡ k = omega arith in
          rw e (length-take-le k (drop at s) (omega (arith, length-drop at s, put_within)))

      parts : FirstOf (held_by (cut (drop (i + 1) ns) (drop (at + k) s))) lent (read false lent) z.left
      parts =
          let r = rw (next-length ns i h) at z.held in
          first_of (held_by (cut (drop (i + 1) ns) (drop (at + k) s))) lent (read false lent) z.left
          (rw (lent_is, is, ← drop-drop (get_or ns i 0) at s) r)

      pub putting_reads : is_accepted (read false lent) ≡ true
      putting_reads = parts.ok

      abbrev out : Bool
      out = ltb (i + 1) (length ns)

      -- what is put now
      abbrev now_put : List ℕ
      now_put = compact_by out lent (read false lent)

      abbrev later : List ℕ
      later = packed_from (length ns) (i + 1) parts.others

      splits : packed_from (length ns) i z.left ≡ now_put ++ later
      splits = ap (λ xs. packed_from (length ns) i xs) parts.all ∙ ap (λ q. q ++ later) (sym (parts.puts out))

      fits : to + (length now_put + length later) ≤ length d
      fits = omega (arith, z.room, ap length splits, length-append now_put later)

      pub putting_fits : to + length now_put ≤ length d
      putting_fits = omega (arith, fits)

      pub putting_room : length now_put ≤ length (take (length d - to) (drop to d))
      putting_room = rw (part_to_end d to) (omega (arith, fits, length-drop to d))

      pub putting_more : {v : List ℕ} {n : ℕ} → v ≡ sets (take (length d - to) (drop to d)) 0 now_put → n ≡ length now_put
          → Putting s ns d₀ (put_mid to (length d - to) d v) (at + k) (to + n) (i + 1)
      putting_more {v} {n} a b =
          let a' = rw (part_to_end d to) at a in
          let put : put_mid to (length d - to) d v ≡ sets d to now_put = rw a' (sets_lent d to now_put) in
          let p = rw (next-length ns i h) at z.place in
          record {
            inside = omega arith;
            place = omega (arith, p, is);
            left = parts.others;
            held = parts.behind;
            room = rw (put, length-sets d to now_put) (omega (arith, fits, b));
            size = rw (put, length-sets d to now_put) z.size;
            same = rw (put, b, ← sets-append d to now_put later) (rw splits at z.same);
          }
