-- A stream taken out of a multistream packet.
--     held_in_lem                                       the streams are those of multistream's reading
--     unread-or_streams                             a packet that cannot be read, or its streams
--     Place, place_in                               where stream k stands
--     take_inside, take_reads, take_puts            it is there, it is read again, and its compact packet is put
--     take_bytes                                    of so many bytes
--     take_no_room, take_done                       with or without room
--     take_long, take_wide, take_negative, take_above, take-checked      the refusals by -1, and what is left
--     take-told                                     streams that last equally long
--     take-leaves, take_passed                      what the call leaves; it is passed the bits of its numbers
--     streams_few                                   a stream count is at most 255
-- Assumes nothing.
use Prim.Native.Nat.{ℕ, zero, suc, ◌+◌, ◌-◌, ◌≤◌, ◌<◌}
use native.Mathlib.Omega.{arith}
use mathlib.Core.Path.{◌≡◌, refl, sym, ap, ◌∙◌}
use mathlib.Core.List.{List, [], ◌∷◌}
use mathlib.Core.Bool.{Bool, true, false}
use lib.Dec.{ltb}
use mathlib.Core.Logic.{◌⊎◌, inl, inr}
use lib.IntN.{ℤ, pos, negsuc}
use lib.ListN.{length, take, drop}
use lib.Seq.{drop-drop}
use mir.Syntax.{w32}
use mir.Val.{to_z, of_z, SFits}
use mir.ValLaws.{to_z-of_z}
use borrow.Author.Tests.{lt-ltb, le-ltb, le-leb, lt-leb, ltb-false}
use borrow.Author.Rules.{part_to_end}
use Rattle.laws.specs.Bytes.{Bytes}
use Rattle.laws.proofs.Never.{never, by_test}
use Rattle.opus_defines.specs.Numbers.{count_of}
use Rattle.opus_defines.specs.Outcome.{Effect, refusal, written, leaves, into_room}
use Rattle.opus_defines.specs.declared.Refusal.{Refusal}
use Rattle.opus_defines.specs.declared.Refusal.TheVariants.{BadArg, BufferTooSmall}
use Rattle.std.specs.Prelude.{Result, Ok, None, Some}
use Rattle.opus_defines.proofs.Counts.{is_natural}
use Rattle.opus_format.specs.Reading.{Reading, refused, accepted, read}
use Rattle.multistream.specs.Streams.{streams_of, pass_streams}
use Rattle.multistream.specs.Unpad.{Repacked, unread, repacked, repack_reading, repack_streams}
use Rattle.multistream.specs.Unpad as Unpad
use Rattle.multistream.specs.Reading.{Stream, Streams, unreadable, streams, and_streams, then_streams, read_streams}
use Rattle.multistream.specs.Parts.{is_accepted, compact_by}
use Rattle.multistream.proofs.Bounds.{pass_within}
use Rattle.stream_join.specs.Join.{Held, stuck, holds, ahead, held_as, held_in, by_held, packet_of, take_of, stream_taken}
use Rattle.stream_join.specs.Join as Join
use Rattle.stream_join.specs.Parts.{stream_at, look_by, bytes_of, place_of, is_held, held_streams, is_some, then_held, held_streams_in}
use Rattle.stream_join.specs.declared.Look.{Look}
use Rattle.stream_join.proofs.Surveyed.{some_left}
use Rattle.stream_join.proofs.Putting.{is_held_lem}
use Rattle.stream_join.proofs.Joining.{Told}

-- ---- the streams are those of multistream's reading
-- the two readings accept the same packets
abbrev agree : Repacked → Streams → Type 0
agree (unread e) xs = xs ≡ unreadable
agree (repacked q) unreadable = ⊥
agree (repacked q) (streams xs) = Unit {0}

module _ (c : List ℕ) (n : ℕ) (x : Stream) where
  agree_more : (r : Repacked) (xs : Streams) → agree r xs → agree (Unpad.ahead c n r) (and_streams x xs)
  agree_more (unread e) xs a = rw a
  agree_more (repacked q) unreadable a = absurd a
  agree_more (repacked q) (streams xs) a = tt

  ahead_more : (r : Repacked) (xs : Streams) → agree r xs → held_as (Unpad.ahead c n r) (and_streams x xs) ≡ ahead n x (held_as r xs)
  ahead_more (unread e) xs a = refl
  ahead_more (repacked q) unreadable a = absurd a
  ahead_more (repacked q) (streams xs) a = refl

-- one stream and those behind it, by the reading
module _ (sd : Bool) (s : List ℕ) (nextR : List ℕ → Repacked) (next_s : List ℕ → Streams) (a : (t : List ℕ) → agree (nextR t) (next_s t)) where
  agree_reading : (x : Reading) → agree (repack_reading sd nextR s x) (then_streams next_s s x)
  agree_reading (refused rule place) = refl
  agree_reading (accepted toc ns first taken) =
      agree_more (compact_by sd s (accepted toc ns first taken)) taken (stream_at s toc ns first) (nextR (drop taken s)) (next_s (drop taken s))
      (a (drop taken s))

  held-reading : (x : Reading) → held_as (repack_reading sd nextR s x) (then_streams next_s s x) ≡ then_held (λ t. held_as (nextR t) (next_s t)) s x
  held-reading (refused rule place) = refl
  held-reading (accepted toc ns first taken) =
      ahead_more (compact_by sd s (accepted toc ns first taken)) taken (stream_at s toc ns first) (nextR (drop taken s)) (next_s (drop taken s))
      (a (drop taken s))

agree_streams : (k : ℕ) (s : List ℕ) → agree (repack_streams k s) (read_streams k s)
agree_streams zero s = agree_reading false s (λ t. repacked []) (λ t. streams []) (λ t. tt) (read false s)
agree_streams (suc k) s = agree_reading true s (repack_streams k) (read_streams k) (λ t. agree_streams k t) (read true s)

then_same : (f g : List ℕ → Held) (s : List ℕ) → ((t : List ℕ) → f t ≡ g t) → (x : Reading) → then_held f s x ≡ then_held g s x
then_same f g s e (refused rule place) = refl
then_same f g s e (accepted toc ns first taken) = ap (ahead taken (stream_at s toc ns first)) (e (drop taken s))

held_in_lem : (k : ℕ) (s : List ℕ) → held_in k s ≡ held_streams_in (suc k) s
held_in_lem zero s =
    held-reading false s (λ t. repacked []) (λ t. streams []) (λ t. tt) (read false s)
held_in_lem (suc k) s =
    held-reading true s (repack_streams k) (read_streams k) (λ t. agree_streams k t) (read true s)
    ∙ then_same (held_in k) (held_streams_in (suc k)) s (λ t. held_in_lem k t) (read true s)

-- a packet that cannot be read, or its streams
pub unread-or_streams : (k : ℕ) (s : List ℕ)
    → ((e : Refusal) × (repack_streams k s ≡ unread e)) ⊎ ((xs : List Stream) × (read_streams k s ≡ streams xs))
unread-or_streams k s = go (repack_streams k s) (read_streams k s) (agree_streams k s)
  where
    go : (r : Repacked) (xs : Streams) → agree r xs → ((e : Refusal) × (r ≡ unread e)) ⊎ ((ys : List Stream) × (xs ≡ streams ys))
    go (unread e) xs a = inl (e, refl)
    go (repacked q) unreadable a = absurd a
    go (repacked q) (streams xs) a = inr (xs, refl)

-- ---- where stream k stands
pub record Place (m k : ℕ) (s : List ℕ) (xs : List Stream) : Type 0 where
  pub at : ℕ
  pub passed : pass_streams k s ≡ Ok at
  pub ok : is_accepted (read (is_some m) (drop at s)) ≡ true
  pub puts : compact_by false (drop at s) (read (is_some m) (drop at s)) ≡ packet_of k xs

-- m streams stand behind it
place_in : (n k m : ℕ) (s : List ℕ) (xs : List Stream) → k + suc m ≡ n → held_streams_in n s ≡ holds xs → Place m k s xs
place_in zero k m s xs c e = absurd (omega arith)
place_in (suc n) zero m s xs c e =
    let same : n ≡ m = omega arith in
    go (read (is_some m) s) refl (rw same at e)
  where
    go : (x : Reading) → read (is_some m) s ≡ x → then_held (held_streams_in m) s x ≡ holds xs → Place m zero s xs
    go (refused rule place) q e = never (cc)
    go (accepted toc ns first taken) q e = more (held_streams_in m (drop taken s)) e
      where
        more : (h : Held) → ahead taken (stream_at s toc ns first) h ≡ holds xs → Place m zero s xs
        more (stuck f) e = never (cc)
        more (holds ys) e =
            let all : xs ≡ stream_at s toc ns first ∷ ys = cc in
            record { at = 0; passed = refl; ok = rw q; puts = rw (q, all) }
place_in (suc n) (suc k) m s xs c e =
    let d : k + suc m ≡ n = omega arith in
    let some : is_some n ≡ true = is_some_lem n (omega arith) in
    go (λ t ys. place_in n k m t ys d) (read true s) refl (rw some at e)
  where
    is_some_lem : (n : ℕ) → 1 ≤ n → is_some n ≡ true
    is_some_lem zero h = absurd (omega arith)
    is_some_lem (suc n) h = refl

    go : ((t : List ℕ) (ys : List Stream) → held_streams_in n t ≡ holds ys → Place m k t ys) → (x : Reading) → read true s ≡ x
        → then_held (held_streams_in n) s x ≡ holds xs → Place m (suc k) s xs
    go next (refused rule place) q e = never (cc)
    go next (accepted toc ns first taken) q e = more (held_streams_in n (drop taken s)) refl e
      where
        more : (h : Held) → held_streams_in n (drop taken s) ≡ h → ahead taken (stream_at s toc ns first) h ≡ holds xs → Place m (suc k) s xs
        more (stuck f) g e = never (cc)
        more (holds ys) g e =
            let all : xs ≡ stream_at s toc ns first ∷ ys = cc in
            let p = next (drop taken s) ys g in
            record {
              at = taken + p.at;
              passed = rw (q, p.passed);
              ok = rw (drop-drop p.at taken s) at p.ok;
              puts = rw all (rw (drop-drop p.at taken s) at p.puts);
            }

-- what is told of a packet that is accepted
look_bytes : (out : Bool) (p : List ℕ) (r : Reading) → is_accepted r ≡ true → bytes_of (look_by out p r) ≡ length (compact_by out p r)
look_bytes out p (refused rule place) a = never (cc)
look_bytes out p (accepted toc ns first taken) a = refl

-- ---- stream k of n; p and at are what passing the first k streams answered
module _ (s : List ℕ) (n k : ℕ) (h : k < n) (held : is_held (held_streams_in n s) ≡ true) (p : Result ℕ Refusal) (e : p ≡ pass_streams k s) (at : ℕ)
    (a : at ≡ place_of p) where
  abbrev taken_out : List ℕ
  taken_out = packet_of k (held_streams (held_streams_in n s))

  stands : Place (n - suc k) k s (held_streams (held_streams_in n s))
  stands = place_in n k (n - suc k) s (held_streams (held_streams_in n s)) (omega arith) (is_held_lem (held_streams_in n s) held)

  at_is : stands.at ≡ at
  at_is = sym (rw (e, stands.passed) at a)

  pub take_inside : Bytes s → at ≤ length s
  take_inside bytes = pass_within k s at bytes (stands.passed ∙ ap Ok at_is)

  abbrev lent : List ℕ
  lent = take (length s - at) (drop at s)

  sd_is : is_some (n - suc k) ≡ ltb (k + 1) n
  sd_is = some_left (n - suc k) k n (omega arith)

  pub take_reads : is_accepted (read (ltb (k + 1) n) lent) ≡ true
  take_reads = rw (part_to_end s at, ← sd_is, ← at_is) stands.ok

  pub take_puts : compact_by false lent (read (ltb (k + 1) n) lent) ≡ taken_out
  take_puts = rw (part_to_end s at, ← sd_is, ← at_is) stands.puts

  module _ (x : Result Look Refusal) (f : x ≡ look_by false lent (read (ltb (k + 1) n) lent)) (m : ℕ) (g : m ≡ bytes_of x) where
    pub take_bytes : m ≡ length taken_out
    take_bytes = g ∙ (ap bytes_of f ∙ (look_bytes false lent (read (ltb (k + 1) n) lent) take_reads ∙ ap length take_puts))

    pub take_no_room : (room : ℕ) → room < m → into_room taken_out room ≡ refusal BufferTooSmall
    take_no_room room l = rw (lt-ltb room (length taken_out) (omega (arith, take_bytes)))

    pub take_done : (room : ℕ) → m ≤ room → into_room taken_out room ≡ written taken_out
    take_done room l = rw (le-ltb room (length taken_out) (omega (arith, take_bytes)))

-- ---- the call
module _ (s : List ℕ) (nb k : ℤ) (room : ℕ) where
  pub take_long : 65535 < length s → Join.take s nb k room ≡ refusal BadArg
  unfolding Join.take
  take_long h = rw (lt-ltb 65535 (length s) h)

  module _ (short : length s ≤ 65535) where
    pub take_wide : 65535 < room → Join.take s nb k room ≡ refusal BadArg
    unfolding Join.take
    take_wide h = rw (le-ltb 65535 (length s) short, lt-ltb 65535 room h)

    module _ (narrow : room ≤ 65535) where
      by_number : Join.take s nb k room ≡ take_of s (streams_of nb) k room
      unfolding Join.take
      by_number = rw (le-ltb 65535 (length s) short, le-ltb 65535 room narrow)

      pub take_negative : count_of k ≡ None → Join.take s nb k room ≡ refusal BadArg
      take_negative e = by_number ∙ go k e
        where
          go : (k : ℤ) → count_of k ≡ None → take_of s (streams_of nb) k room ≡ refusal BadArg
          go (pos m) e = never (cc)
          go (negsuc m) e = refl

      module _ (n : ℕ) (count : streams_of nb ≡ n) (m : ℕ) (is : count_of k ≡ Some m) where
        pub take_above : n ≤ m → Join.take s nb k room ≡ refusal BadArg
        take_above h = by_number ∙ rw (is_natural k m is, count, le-leb n m h)

        pub take-checked : m < n → Join.take s nb k room ≡ by_held room (packet_of m) (held_streams_in n s)
        take-checked h =
            let some : suc (n - 1) ≡ n = omega arith in
            let all : held_in (n - 1) s ≡ held_streams_in n s = held_in_lem (n - 1) s ∙ ap (λ j. held_streams_in j s) some in
            by_number ∙ rw (is_natural k m is, count, lt-leb n m h, all)

-- streams that were told
pub take-told : (n k room m : ℕ) (h : Held) → Told n h m → by_held room (packet_of k) h ≡ into_room (packet_of k (held_streams h)) room
take-told n k room m h t = ap (by_held room (packet_of k)) t.streams ∙ rw t.equal

pub take-leaves : (s : List ℕ) (nb k : ℤ) (dst : List ℕ) {e : Effect} → Join.take s nb k (length dst) ≡ e → stream_taken s nb k dst ≡ leaves dst e
unfolding stream_taken
take-leaves s nb k dst h = ap (leaves dst) h

pub take_passed : (s : List ℕ) (nb k : ℤ) (dst : List ℕ) → SFits w32 nb → SFits w32 k
    → stream_taken s nb k dst ≡ stream_taken s (to_z w32 (of_z w32 nb)) (to_z w32 (of_z w32 k)) dst
take_passed s nb k dst f g = rw (to_z-of_z w32 nb f, to_z-of_z w32 k g)

-- a stream count is at most 255
pub streams_few : (x : ℤ) {n : ℕ} → streams_of x ≡ n → n ≤ 255
streams_few (negsuc m) e = omega (arith, e)
streams_few (pos m) {n} e =
    by_test (ltb 255 m)
    (λ t. let none : 0 ≡ n = rw t at e in omega arith)
    (λ t. let same : m ≡ n = rw t at e in omega (arith, ltb-false 255 m t))
