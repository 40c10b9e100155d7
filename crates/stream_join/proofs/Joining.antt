-- What the first pass tells of streams, and what joining them answers.
--     tally_bytes, tally_equal         what is counted of the streams
--     packed_as, packed_all            their compact packets one behind another
--     held_count                       as many streams as lengths
--     told_holds, Told, needs_told, unequal-told, stuck_told       the first pass by what is held
--     join-checked, join-empty, join_many, join_long, join_wide, join_uneven      the refusals by -1, and what is left
--     joined_is, join_small, join-done      the answers of what is left
--     join-leaves                      what the call leaves
-- Assumes nothing.
use Prim.Native.Nat.{ℕ, zero, suc, ◌+◌, ◌-◌, ◌≤◌, ◌<◌}
use native.Mathlib.Omega.{arith}
use mathlib.Core.Path.{◌≡◌, refl, sym, ap, ◌∙◌}
use mathlib.Core.List.{List, [], ◌∷◌, append-nil}
use mathlib.Core.Bool.{Bool, true, false, cond, ◌&&◌}
use lib.Dec.{eqb, ltb}
use lib.ListN.{length, length-append}
use borrow.Author.Tests.{lt-ltb, le-ltb, ltb-false, eq-eqb, ne_eqb}
use Rattle.laws.proofs.Never.{never, by_test}
use Rattle.opus_defines.specs.Rules.{shifted}
use Rattle.opus_defines.specs.Outcome.{Effect, refusal, written, leaves, into_room}
use Rattle.opus_defines.specs.declared.Refusal.{Refusal}
use Rattle.opus_defines.specs.declared.Refusal.TheVariants.{BadArg, BufferTooSmall, InvalidPacket}
use Rattle.opus_format.specs.Frames.{cut, total}
use Rattle.opus_format.specs.Reading.{Reading, refused, accepted, read}
use Rattle.multistream.specs.Reading.{Stream, compact_streams}
use Rattle.opus_defines.proofs.Others.{shifted_none}
use Rattle.stream_join.specs.Join.{Held, stuck, holds, then_packets, held_by, lasting, all_last, equally_long, by_held, joined_streams}
use Rattle.stream_join.specs.Join.{join, packets_joined}
use Rattle.stream_join.specs.Parts.{packed, and_one, tallied, nothing, surveyed, packed_from, is_held, held_streams}
use Rattle.stream_join.specs.declared.Tally.{Tally}
use Rattle.stream_join.specs.declared.Survey.TheVariants.{Needs, Unequal, Stuck}
use Rattle.stream_join.proofs.Looked.{cut_count}

-- ---- what is counted
tally_bytes : (n i : ℕ) (t : Tally) (xs : List Stream) → (tallied n i t xs).bytes ≡ t.bytes + length (packed_from n i xs)
tally_bytes n i t [] = omega arith
tally_bytes n i t (x ∷ xs) =
    let p = packed (ltb (i + 1) n) x in
    omega (arith, tally_bytes n (i + 1) (and_one t i (lasting x) (length p)) xs, length-append p (packed_from n (i + 1) xs))

and_assoc : (a b c : Bool) → ((a && b) && c) ≡ (a && (b && c))
and_assoc true b c = refl
and_assoc false b c = refl

and-true : (a : Bool) → (a && true) ≡ a
and-true true = refl
and-true false = refl

tally_later : (n i : ℕ) (t : Tally) (xs : List Stream) → (i ≡ 0 → ⊥) → (tallied n i t xs).equal ≡ (t.equal && all_last t.time xs)
tally_later n i t [] h = sym (and-true t.equal)
tally_later n i t (x ∷ xs) h =
    let next = tally_later n (i + 1) (and_one t i (lasting x) (length (packed (ltb (i + 1) n) x))) xs (λ e. omega arith) in
    next ∙ rw (ne_eqb i 0 h) (and_assoc t.equal (eqb (lasting x) t.time) (all_last t.time xs))

tally_equal : (n : ℕ) (xs : List Stream) → (tallied n 0 nothing xs).equal ≡ equally_long xs
tally_equal n [] = refl
tally_equal n (x ∷ xs) = tally_later n 1 (and_one nothing 0 (lasting x) (length (packed (ltb 1 n) x))) xs (λ e. omega arith)

-- ---- their compact packets
packed_as : (k i n : ℕ) (xs : List Stream) → length xs ≡ suc k → i + suc k ≡ n → packed_from n i xs ≡ compact_streams k xs
packed_as k i n [] c e = absurd (omega (arith, c))
packed_as zero i n (x ∷ []) c e = rw (le-ltb (i + 1) n (omega arith)) (append-nil (packed false x))
packed_as zero i n (x ∷ y ∷ ys) c e = absurd (omega (arith, c))
packed_as (suc k) i n (x ∷ xs) c e =
    rw (lt-ltb (i + 1) n (omega arith), packed_as k (i + 1) n xs (omega (arith, c)) (omega arith))

packed_all : (n : ℕ) (xs : List Stream) → length xs ≡ n → packed_from n 0 xs ≡ joined_streams xs
packed_all n [] c = refl
packed_all n (x ∷ xs) c =
    let k : length (x ∷ xs) - 1 ≡ length xs = omega arith in
    rw k (packed_as (length xs) 0 n (x ∷ xs) refl (omega (arith, c)))

-- ---- as many streams as packets
pub held_count : (ps : List (List ℕ)) (xs : List Stream) → held_by ps ≡ holds xs → length xs ≡ length ps
held_count [] [] e = refl
held_count [] (x ∷ xs) e = never (cc)
held_count (p ∷ ps) xs e = go (λ ys. held_count ps ys) (held_by ps) refl (read false p) e
  where
    go : ((ys : List Stream) → held_by ps ≡ holds ys → length ys ≡ length ps) → (h : Held) → held_by ps ≡ h → (r : Reading)
        → then_packets h p r ≡ holds xs → length xs ≡ suc (length ps)
    go next h q (refused rule place) e = never (cc)
    go next (stuck f) q (accepted toc ns first taken) e = never (cc)
    go next (holds ys) q (accepted toc ns first taken) e =
        let n = next ys q in
        let is = ap (λ (h : Held). length (held_streams h)) e in
        omega (arith, n, is)

-- ---- the first pass
told_holds : (n : ℕ) (xs : List Stream) → surveyed n (holds xs) ≡ cond (equally_long xs) (Needs (length (packed_from n 0 xs))) Unequal
told_holds n xs =
    let b : (tallied n 0 nothing xs).bytes ≡ length (packed_from n 0 xs) = omega (arith, tally_bytes n 0 nothing xs) in
    rw (tally_equal n xs, b)

-- streams that last equally long
pub record Told (n : ℕ) (h : Held) (m : ℕ) : Type 0 where
  pub held : is_held h ≡ true
  pub streams : h ≡ holds (held_streams h)
  pub equal : equally_long (held_streams h) ≡ true
  pub bytes : m ≡ length (packed_from n 0 (held_streams h))

pub needs_told : (n : ℕ) (h : Held) (m : ℕ) → Needs m ≡ surveyed n h → Told n h m
needs_told n (stuck e) m q = never (cc)
needs_told n (holds xs) m q =
    by_test (equally_long xs)
    (λ t. let k : Needs m ≡ Needs (length (packed_from n 0 xs)) = rw t at (q ∙ told_holds n xs) in
    record { held = refl; streams = refl; equal = t; bytes = cc })
    (λ t. let k : Needs m ≡ Unequal = rw t at (q ∙ told_holds n xs) in never (cc))

pub unequal-told : (n room : ℕ) (f : List Stream → List ℕ) (h : Held) → Unequal ≡ surveyed n h → by_held room f h ≡ refusal InvalidPacket
unequal-told n room f (stuck e) q = never (cc)
unequal-told n room f (holds xs) q =
    by_test (equally_long xs)
    (λ t. let k : Unequal ≡ Needs (length (packed_from n 0 xs)) = rw t at (q ∙ told_holds n xs) in never (cc))
    (λ t. rw t)

pub stuck_told : (n room : ℕ) (f : List Stream → List ℕ) (h : Held) (e : Refusal) → Stuck e ≡ surveyed n h → by_held room f h ≡ refusal e
stuck_told n room f (stuck d) e q =
    let none : shifted 0 d ≡ d = shifted_none d in
    let same : e ≡ d = cc in
    rw same
stuck_told n room f (holds xs) e q =
    by_test (equally_long xs)
    (λ t. let k : Stuck e ≡ Needs (length (packed_from n 0 xs)) = rw t at (q ∙ told_holds n xs) in never (cc))
    (λ t. let k : Stuck e ≡ Unequal = rw t at (q ∙ told_holds n xs) in never (cc))

-- ---- joining
module _ (s ns : List ℕ) (room : ℕ) where
  pub join-empty : length ns ≡ 0 → join s ns room ≡ refusal BadArg
  unfolding join
  join-empty h = rw (eq-eqb (length ns) 0 h)

  module _ (some : length ns ≡ 0 → ⊥) where
    pub join_many : 255 < length ns → join s ns room ≡ refusal BadArg
    unfolding join
    join_many h = rw (ne_eqb (length ns) 0 some, lt-ltb 255 (length ns) h)

    module _ (few : length ns ≤ 255) where
      pub join_long : 65535 < length s → join s ns room ≡ refusal BadArg
      unfolding join
      join_long h = rw (ne_eqb (length ns) 0 some, le-ltb 255 (length ns) few, lt-ltb 65535 (length s) h)

      module _ (short : length s ≤ 65535) where
        pub join_wide : 65535 < room → join s ns room ≡ refusal BadArg
        unfolding join
        join_wide h =
            rw (ne_eqb (length ns) 0 some, le-ltb 255 (length ns) few, le-ltb 65535 (length s) short, lt-ltb 65535 room h)

        module _ (narrow : room ≤ 65535) where
          pub join_uneven : (total ns ≡ length s → ⊥) → join s ns room ≡ refusal BadArg
          unfolding join
          join_uneven h =
              by_test (ltb (total ns) (length s))
              (λ t. rw (ne_eqb (length ns) 0 some, le-ltb 255 (length ns) few, le-ltb 65535 (length s) short, le-ltb 65535 room narrow, t))
              (λ t. let more : length s < total ns = omega (arith, ltb-false (total ns) (length s) t, h) in
              rw (
                ne_eqb (length ns) 0 some,
                le-ltb 255 (length ns) few,
                le-ltb 65535 (length s) short,
                le-ltb 65535 room narrow,
                t,
                lt-ltb (length s) (total ns) more,
              ))

          pub join-checked : total ns ≡ length s → join s ns room ≡ by_held room joined_streams (held_by (cut ns s))
          unfolding join
          join-checked e =
              rw (
                ne_eqb (length ns) 0 some,
                le-ltb 255 (length ns) few,
                le-ltb 65535 (length s) short,
                le-ltb 65535 room narrow,
                le-ltb (total ns) (length s) (omega arith),
                le-ltb (length s) (total ns) (omega arith),
              )

-- packets that were told
module _ (s ns : List ℕ) (room m : ℕ) (t : Told (length ns) (held_by (cut ns s)) m) where
  abbrev held : Held
  held = held_by (cut ns s)

  joined_is : packed_from (length ns) 0 (held_streams held) ≡ joined_streams (held_streams held)
  joined_is = packed_all (length ns) (held_streams held) (held_count (cut ns s) (held_streams held) t.streams ∙ cut_count ns s)

  by_held_lem : by_held room joined_streams held ≡ into_room (packed_from (length ns) 0 (held_streams held)) room
  by_held_lem = ap (by_held room joined_streams) t.streams ∙ rw (t.equal, joined_is)

  pub join_small : room < m → by_held room joined_streams held ≡ refusal BufferTooSmall
  join_small h =
      let q = packed_from (length ns) 0 (held_streams held) in
      by_held_lem ∙ rw (lt-ltb room (length q) (omega (arith, t.bytes)))

  pub join-done : m ≤ room → by_held room joined_streams held ≡ written (packed_from (length ns) 0 (held_streams held))
  join-done h =
      let q = packed_from (length ns) 0 (held_streams held) in
      by_held_lem ∙ rw (le-ltb room (length q) (omega (arith, t.bytes)))

-- what the call leaves
pub join-leaves : (s ns dst : List ℕ) {e : Effect} → join s ns (length dst) ≡ e → packets_joined s ns dst ≡ leaves dst e
unfolding packets_joined
join-leaves s ns dst h = ap (leaves dst) h
