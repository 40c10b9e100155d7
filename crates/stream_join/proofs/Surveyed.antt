-- All packets or streams read, one after the other: the laws of the first pass.
--     equal_so, equal-not, one_first, one_later      one beside those before it
--     look_place, look_taken                         what is told of one lies within it
--     ahead-surveyed, packet_told, packet_stuck, stream-told, stream_stuck      one more in front
--     next-length                                    the next of the lengths
--     Summing and its laws                           the loop over the lengths
--     Surveying and its laws                         the loop over packets
--     some_left, lent_to_end_long, Streaming and its laws      the loop over streams
-- Assumes nothing.
use Prim.Native.Nat.{ℕ, zero, suc, ◌+◌, ◌*◌, ◌-◌, ◌≤◌, ◌<◌}
use native.Mathlib.Nat.{add-zero}
use native.Mathlib.Omega.{arith}
use mathlib.Core.Path.{◌≡◌, refl, sym, ap, ◌∙◌}
use mathlib.Core.List.{List, ◌∷◌}
use mathlib.Core.Bool.{Bool, true, false, ◌&&◌}
use lib.Dec.{eqb, ltb}
use lib.ListN.{length, get_or, take, drop, length-drop, drop_of_length-le}
use lib.Seq.{drop-drop, drop-cons, length-take-le}
use borrow.Author.Tests.{lt-ltb, le-ltb, eq-eqb, ne_eqb}
use borrow.Author.Rules.{part_to_end}
use Rattle.laws.specs.Bytes.{Bytes}
use Rattle.laws.proofs.Bytes.{bytes_drop}
use Rattle.laws.proofs.Never.{never}
use Rattle.opus_defines.specs.Numbers.{refusal_report}
use Rattle.opus_defines.specs.Rules.{rule_refusal, shifted}
use Rattle.opus_defines.specs.declared.Refusal.{Refusal}
use Rattle.opus_format.specs.Frames.{cut, total}
use Rattle.opus_format.specs.Reading.{Reading, refused, accepted, read}
use Rattle.opus_format.proofs.Within.{refused_within}
use Rattle.multistream.specs.Reading.{Stream}
use Rattle.multistream.proofs.Bounds.{taken_within}
use Rattle.opus_defines.proofs.Others.{shifted_more}
use Rattle.opus_defines.proofs.Outcomes.{rule_report}
use Rattle.stream_join.specs.Join.{Held, stuck, holds, ahead, then_packets, held_by, lasting}
use Rattle.stream_join.specs.Parts.{stream_at, packed, look_by, and_one, ended, surveyed_from, nothing, surveyed}
use Rattle.stream_join.specs.Parts.{is_some, then_held, held_streams_in}
use Rattle.stream_join.specs.declared.Look.{Look}
use Rattle.std.specs.Prelude.{Ok, Err}
use Rattle.stream_join.specs.declared.Tally.{Tally}
use Rattle.stream_join.specs.declared.Survey.TheVariants.{Stuck}

-- ---- one beside those before it
pub equal_so : (e : Bool) (a b : ℕ) → a ≡ b → e ≡ (e && eqb a b)
equal_so true a b t = sym (eq-eqb a b t)
equal_so false a b t = refl

pub equal-not : (e : Bool) (a b : ℕ) → (a ≡ b → ⊥) → false ≡ (e && eqb a b)
equal-not true a b t = sym (ne_eqb a b t)
equal-not false a b t = refl

module _ (t : Tally) (i lasts bytes : ℕ) where
  pub one_first : i ≡ 0 → ◌≡◌ {A = Tally} (record { time = lasts; equal = true; bytes = t.bytes + bytes }) (and_one t i lasts bytes)
  one_first e = rw e

  pub one_later : (i ≡ 0 → ⊥) → {q : Bool} → q ≡ (t.equal && eqb lasts t.time)
      → ◌≡◌ {A = Tally} (record { time = t.time; equal = q; bytes = t.bytes + bytes }) (and_one t i lasts bytes)
  one_later e f = rw (ne_eqb i 0 e, f)

-- ---- one that was looked at
abbrev looked : Bool → List ℕ → ℕ → List ℕ → ℕ → ℕ → Look
looked out p toc ns first taken =
    record { taken = taken; time = lasting (stream_at p toc ns first); bytes = length (packed out (stream_at p toc ns first)) }

module _ (out sd : Bool) (p : List ℕ) where
  pub look_place : (e : Refusal) → Err e ≡ look_by out p (read sd p) → (refusal_report e).place ≤ length p
  look_place e h = go (read sd p) refl h
    where
      go : (x : Reading) → read sd p ≡ x → Err e ≡ look_by out p x → (refusal_report e).place ≤ length p
      go (refused rule place) q h =
          let same : e ≡ rule_refusal rule place = cc in
          rw (same, rule_report rule place) (refused_within sd p rule place q)
      go (accepted toc ns first taken) q h = never (cc)

  look_taken : (look : Look) → Bytes p → Ok look ≡ look_by out p (read sd p) → look.taken ≤ length p
  look_taken look b h = go (read sd p) refl h
    where
      go : (x : Reading) → read sd p ≡ x → Ok look ≡ look_by out p x → look.taken ≤ length p
      go (refused rule place) q h = never (cc)
      go (accepted toc ns first taken) q h =
          let same : look ≡ looked out p toc ns first taken = cc in
          let n : look.taken ≡ taken = ap (λ (x : Look). x.taken) same in
          omega (arith, n, taken_within sd p toc ns first taken b q)

-- ---- one more in front
module _ (n at i : ℕ) (t : Tally) where
  ahead-surveyed : (k : ℕ) (x : Stream) (h : Held)
      → surveyed_from n at i t (ahead k x h) ≡ surveyed_from n (at + k) (i + 1) (and_one t i (lasting x) (length (packed (ltb (i + 1) n) x))) h
  ahead-surveyed k x (stuck e) = ap Stuck (shifted_more at k e)
  ahead-surveyed k x (holds xs) = refl

  -- a packet that is told, or not
  module _ (p : List ℕ) (h : Held) where
    packet_told : (r : Reading) (look : Look) → Ok look ≡ look_by (ltb (i + 1) n) p r
        → surveyed_from n at i t (then_packets h p r) ≡ surveyed_from n (at + length p) (i + 1) (and_one t i look.time look.bytes) h
    packet_told (refused rule place) look e = never (cc)
    packet_told (accepted toc ns first n') look e =
        let x = stream_at p toc ns first in
        let same : look ≡ looked (ltb (i + 1) n) p toc ns first n' = cc in
        rw same (ahead-surveyed (length p) x h)

    packet_stuck : (r : Reading) (e : Refusal) → Err e ≡ look_by (ltb (i + 1) n) p r
        → surveyed_from n at i t (then_packets h p r) ≡ Stuck (shifted at e)
    packet_stuck (refused rule place) e q = let same : e ≡ rule_refusal rule place = cc in rw same
    packet_stuck (accepted toc ns first n') e q = never (cc)

  module _ (p : List ℕ) (next : List ℕ → Held) where
    stream-told : (r : Reading) (look : Look) → Ok look ≡ look_by (ltb (i + 1) n) p r
        → surveyed_from n at i t (then_held next p r) ≡ surveyed_from n (at + look.taken) (i + 1) (and_one t i look.time look.bytes) (next (drop look.taken p))
    stream-told (refused rule place) look e = never (cc)
    stream-told (accepted toc ns first n') look e =
        let x = stream_at p toc ns first in
        let same : look ≡ looked (ltb (i + 1) n) p toc ns first n' = cc in
        rw same (ahead-surveyed n' x (next (drop n' p)))

    stream_stuck : (r : Reading) (e : Refusal) → Err e ≡ look_by (ltb (i + 1) n) p r
        → surveyed_from n at i t (then_held next p r) ≡ Stuck (shifted at e)
    stream_stuck (refused rule place) e q = let same : e ≡ rule_refusal rule place = cc in rw same
    stream_stuck (accepted toc ns first n') e q = never (cc)

-- ---- the lengths
pub next-length : (ns : List ℕ) (i : ℕ) → i < length ns → drop i ns ≡ get_or ns i 0 ∷ drop (i + 1) ns
next-length ns i h = let e : i + 1 ≡ suc i = omega arith in rw e (drop-cons ns i 0 h)

pub record Summing (ns : List ℕ) (sum i : ℕ) : Type 0 where
  pub inside : i ≤ length ns
  pub few : sum ≤ i * 65536
  pub rest : sum + total (drop i ns) ≡ total ns

module _ (ns : List ℕ) where
  pub summing_start : Summing ns 0 0
  summing_start = record { inside = omega arith; few = omega arith; rest = omega arith }

  module _ (sum i : ℕ) (z : Summing ns sum i) where
    pub summing_more : i < length ns → (k : ℕ) → (k ≡ get_or ns i 0) × (k < 65536) → Summing ns (sum + k) (i + 1)
    summing_more h k is =
        let r = rw (next-length ns i h) at z.rest in
        record { inside = omega arith; few = omega (arith, z.few, is.1); rest = omega (arith, r, is.0) }

    pub summing_end : length ns ≤ i → sum ≡ total ns
    summing_end h = let r = rw (drop_of_length-le ns h) at z.rest in omega (arith, r)

-- ---- packets
pub record Surveying (s ns : List ℕ) (t : Tally) (at i : ℕ) : Type 0 where
  pub inside : i ≤ length ns
  pub place : at + total (drop i ns) ≡ length s
  pub few : t.bytes ≤ i * 65536
  pub rest : surveyed_from (length ns) at i t (held_by (cut (drop i ns) (drop at s))) ≡ surveyed (length ns) (held_by (cut ns s))

module _ (s ns : List ℕ) where
  pub surveying_start : total ns ≡ length s → Surveying s ns nothing 0 0
  surveying_start h = record { inside = omega arith; place = omega arith; few = omega arith; rest = refl }

  module _ (t : Tally) (at i : ℕ) (z : Surveying s ns t at i) where
    pub surveying_end : length ns ≤ i → ended t ≡ surveyed (length ns) (held_by (cut ns s))
    surveying_end h = rw (drop_of_length-le ns h) at z.rest

    module _ (h : i < length ns) (k : ℕ) (is : k ≡ get_or ns i 0) where
      -- the next packet is there
      pub next-within : at + k ≤ length s
      next-within = let p = rw (next-length ns i h) at z.place in omega (arith, p, is)

      abbrev lent : List ℕ
      lent = take (at + k - at) (drop at s)

      lent_is : lent ≡ take (get_or ns i 0) (drop at s)
      lent_is = let e : at + k - at ≡ get_or ns i 0 = omega (arith, is) in rw e

      pub lent_long : length lent ≡ k
      lent_long =
          let e : at + k - at ≡ k = omega arith in
          rw e (length-take-le k (drop at s) (omega (arith, length-drop at s, next-within)))

      stands : surveyed_from (length ns) at i t (then_packets (held_by (cut (drop (i + 1) ns) (drop (at + k) s))) lent (read false lent))
          ≡ surveyed (length ns) (held_by (cut ns s))
      stands =
          let r = rw (next-length ns i h) at z.rest in
          rw (lent_is, is, ← drop-drop (get_or ns i 0) at s) r

      pub surveying_stuck : (e : Refusal) → Err e ≡ look_by (ltb (i + 1) (length ns)) lent (read false lent)
          → Stuck (shifted at e) ≡ surveyed (length ns) (held_by (cut ns s))
      surveying_stuck e q =
          sym (packet_stuck (length ns) at i t lent (held_by (cut (drop (i + 1) ns) (drop (at + k) s))) (read false lent) e q) ∙ stands

      pub surveying_more : (look : Look) → Ok look ≡ look_by (ltb (i + 1) (length ns)) lent (read false lent) → look.bytes ≤ 65536
          → (t' : Tally) → t' ≡ and_one t i look.time look.bytes → Surveying s ns t' (at + k) (i + 1)
      surveying_more look q b t' e =
          let told = packet_told (length ns) at i t lent (held_by (cut (drop (i + 1) ns) (drop (at + k) s))) (read false lent) look q in
          let p = rw (next-length ns i h) at z.place in
          let all : t'.bytes ≡ t.bytes + look.bytes = ap (λ (x : Tally). x.bytes) e in
          record {
            inside = omega arith;
            place = omega (arith, p, is);
            few = omega (arith, all, z.few);
            rest = rw e (rw lent_long at (sym told ∙ stands));
          }

-- ---- streams
pub record Streaming (s : List ℕ) (n : ℕ) (t : Tally) (at i : ℕ) : Type 0 where
  pub inside : at ≤ length s
  pub few : t.bytes ≤ i * 65536
  pub left : ℕ
  pub count : left + i ≡ n
  pub rest : surveyed_from n at i t (held_streams_in left (drop at s)) ≡ surveyed n (held_streams_in n s)

pub some_left : (l i n : ℕ) → suc l + i ≡ n → is_some l ≡ ltb (i + 1) n
some_left zero i n c = sym (le-ltb (i + 1) n (omega arith))
some_left (suc l) i n c = sym (lt-ltb (i + 1) n (omega arith))

pub lent_to_end_long : (s : List ℕ) (at : ℕ) → length (take (length s - at) (drop at s)) ≡ length s - at
lent_to_end_long s at = rw (part_to_end s at) (length-drop at s)

module _ (s : List ℕ) (n : ℕ) where
  pub streaming_start : Streaming s n nothing 0 0
  streaming_start = record { inside = omega arith; few = omega arith; left = n; count = add-zero n; rest = refl }

  module _ (t : Tally) (at i : ℕ) (z : Streaming s n t at i) where
    pub streaming_end : n ≤ i → ended t ≡ surveyed n (held_streams_in n s)
    streaming_end h =
        let none : z.left ≡ 0 = omega (arith, z.count) in
        rw none at z.rest

    module _ (h : i < n) where
      abbrev lent_to_end : List ℕ
      lent_to_end = take (length s - at) (drop at s)

      one_left : (l : ℕ) × (z.left ≡ suc l)
      one_left = go z.left z.count refl
        where
          go : (l : ℕ) → l + i ≡ n → z.left ≡ l → (m : ℕ) × (z.left ≡ suc m)
          go zero c e = absurd (omega arith)
          go (suc l) c e = (l, e)

      now_stands : surveyed_from n at i t (then_held (held_streams_in one_left.0) lent_to_end (read (ltb (i + 1) n) lent_to_end))
          ≡ surveyed n (held_streams_in n s)
      now_stands =
          let c : suc one_left.0 + i ≡ n = omega (arith, z.count, one_left.1) in
          rw (part_to_end s at, ← some_left one_left.0 i n c) (rw one_left.1 at z.rest)

      pub streaming_stuck : (e : Refusal) → Err e ≡ look_by (ltb (i + 1) n) lent_to_end (read (ltb (i + 1) n) lent_to_end)
          → Stuck (shifted at e) ≡ surveyed n (held_streams_in n s)
      streaming_stuck e q =
          sym (stream_stuck n at i t lent_to_end (held_streams_in one_left.0) (read (ltb (i + 1) n) lent_to_end) e q) ∙ now_stands

      module _ (bytes-s : Bytes s) (look : Look)
          (q : Ok look ≡ look_by (ltb (i + 1) n) lent_to_end (read (ltb (i + 1) n) lent_to_end)) where
        pub streaming_within : at + look.taken ≤ length s
        streaming_within =
            let w = look_taken (ltb (i + 1) n) (ltb (i + 1) n) (drop at s) look (bytes_drop at s bytes-s) (rw (part_to_end s at) at q) in
            omega (arith, w, length-drop at s, z.inside)

        pub streaming_more : look.bytes ≤ 65536 → (t' : Tally) → t' ≡ and_one t i look.time look.bytes → Streaming s n t' (at + look.taken) (i + 1)
        streaming_more b t' e =
            let told = stream-told n at i t lent_to_end (held_streams_in one_left.0) (read (ltb (i + 1) n) lent_to_end) look q in
            let all : t'.bytes ≡ t.bytes + look.bytes = ap (λ (x : Tally). x.bytes) e in
            record {
              inside = streaming_within;
              few = omega (arith, all, z.few);
              left = one_left.0;
              count = omega (arith, z.count, one_left.1);
              rest = rw (e, ← drop-drop look.taken at s) (rw (part_to_end s at) at (sym told ∙ now_stands));
            }
