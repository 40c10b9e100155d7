-- The test of the rules is what RFC 7845 asks of the fields but the version.
--     entries_hold, entries_test_lem     the entries one by one
--     ruled_lawful, lawful_ruled     all of it
-- Assumes nothing.
use Prim.Native.Nat.{ℕ, zero, suc, ◌+◌, ◌<◌, ◌≤◌}
use native.Mathlib.Omega.{arith}
use mathlib.Core.Path.{◌≡◌, refl, ◌∙◌}
use mathlib.Core.List.{List, [], ◌∷◌}
use mathlib.Core.Bool.{Bool, true, cond, ◌&&◌, ◌||◌, not}
use mathlib.Core.Logic.{◌⊎◌, inl, inr}
use lib.Dec.{eqb, ltb, leb}
use lib.ListN.{get_or}
use borrow.Author.Tests.{lt-ltb, le-leb, eq-eqb, ne_eqb, eqb-true, ltb-true, ltb-false, leb-true}
use Rattle.laws.proofs.Never.{by_test}
use Rattle.laws.proofs.Every.{both_left, both_right}
use Rattle.opus_head.specs.declared.OpusHead.{OpusHead}
use Rattle.opus_head.specs.Header.{Lawful}
use Rattle.opus_head.specs.Reading.{channels_fit, entries_fit, one_stream, ruled, fields_fit}

-- ---- entries
abbrev Entry : ℕ → ℕ → Type 0
Entry sum e = (e ≡ 255) ⊎ (e < sum)

either : (sum e : ℕ) → eqb e 255 || ltb e sum ≡ true → Entry sum e
either sum e t = by_test (eqb e 255) (λ q. inl (eqb-true e 255 q)) (λ q. inr (ltb-true e sum (rw q at t)))

or_either : (sum e : ℕ) → Entry sum e → eqb e 255 || ltb e sum ≡ true
or_either sum e (inl q) = rw (eq-eqb e 255 q)
or_either sum e (inr q) = by_test (eqb e 255) (λ t. rw t) (λ t. rw (t, lt-ltb e sum q))

entries_hold : (n sum : ℕ) (s : List ℕ) → 0 < sum → entries_fit n sum s ≡ true → (i : ℕ) → i < n → Entry sum (get_or s i 0)
entries_hold n sum [] p t i h = inr (omega arith)
entries_hold zero sum (e ∷ s) p t i h = absurd (omega arith)
entries_hold (suc n) sum (e ∷ s) p t zero h = either sum e (both_left (eqb e 255 || ltb e sum) (entries_fit n sum s) t)
entries_hold (suc n) sum (e ∷ s) p t (suc i) h =
    entries_hold n sum s p (both_right (eqb e 255 || ltb e sum) (entries_fit n sum s) t) i (omega arith)

entries_unused : (n sum : ℕ) (s : List ℕ) → entries_fit n sum s ≡ true → (i : ℕ) → n ≤ i → get_or s i 0 ≡ 0
entries_unused n sum [] t i h = refl
entries_unused zero sum (e ∷ s) t zero h = eqb-true e 0 (both_left (eqb e 0) (entries_fit zero sum s) t)
entries_unused zero sum (e ∷ s) t (suc i) h = entries_unused zero sum s (both_right (eqb e 0) (entries_fit zero sum s) t) i (omega arith)
entries_unused (suc n) sum (e ∷ s) t zero h = absurd (omega arith)
entries_unused (suc n) sum (e ∷ s) t (suc i) h =
    entries_unused n sum s (both_right (eqb e 255 || ltb e sum) (entries_fit n sum s) t) i (omega arith)

entries_test_lem : (n sum : ℕ) (s : List ℕ) → ((i : ℕ) → i < n → Entry sum (get_or s i 0))
    → ((i : ℕ) → n ≤ i → get_or s i 0 ≡ 0) → entries_fit n sum s ≡ true
entries_test_lem zero sum [] f g = refl
entries_test_lem (suc n) sum [] f g = refl
entries_test_lem zero sum (e ∷ s) f g =
    rw (eq-eqb e 0 (g 0 (omega arith))) (entries_test_lem zero sum s (λ i h. absurd (omega arith)) (λ i h. g (suc i) (omega arith)))
entries_test_lem (suc n) sum (e ∷ s) f g =
    rw (or_either sum e (f 0 (omega arith))) (entries_test_lem n sum s (λ i h. f (suc i) (omega arith)) (λ i h. g (suc i) (omega arith)))

-- ---- channels
module _ (f n : ℕ) where
  fits_some : channels_fit f n ≡ true → 1 ≤ n
  fits_some t = leb-true 1 n (both_left (leb 1 n) (cond (eqb f 0) (leb n 2) (cond (eqb f 1) (leb n 8) true)) t)

  fits_rest : channels_fit f n ≡ true → cond (eqb f 0) (leb n 2) (cond (eqb f 1) (leb n 8) true) ≡ true
  fits_rest t = both_right (leb 1 n) (cond (eqb f 0) (leb n 2) (cond (eqb f 1) (leb n 8) true)) t

  fits-plain : channels_fit f n ≡ true → f ≡ 0 → n ≤ 2
  fits-plain t e = leb-true n 2 (rw (eq-eqb f 0 e) at (fits_rest t))

  fits_vorbis : channels_fit f n ≡ true → f ≡ 1 → n ≤ 8
  fits_vorbis t e =
      let o : f ≡ 0 → ⊥ = λ z. omega arith in
      leb-true n 8 (rw (ne_eqb f 0 o, eq-eqb f 1 e) at (fits_rest t))

  channels_test_lem : 1 ≤ n → (f ≡ 0 → n ≤ 2) → (f ≡ 1 → n ≤ 8) → channels_fit f n ≡ true
  channels_test_lem h p v =
      by_test (eqb f 0) (λ t. rw (le-leb 1 n h, t, le-leb n 2 (p (eqb-true f 0 t))))
      (λ t. by_test (eqb f 1) (λ u. rw (le-leb 1 n h, t, u, le-leb n 8 (v (eqb-true f 1 u)))) (λ u. rw (le-leb 1 n h, t, u)))

-- ---- all of it
module _ (h : OpusHead) where
  abbrev channels_test : Bool
  channels_test = channels_fit h.family h.channels

  abbrev few_test : Bool
  few_test = leb h.coupled h.streams && leb (h.streams + h.coupled) 255

  abbrev streams_test : Bool
  streams_test = leb 1 h.streams && few_test

  abbrev entries_test : Bool
  entries_test = entries_fit h.channels (h.streams + h.coupled) h.mapping

  abbrev plain_test : Bool
  plain_test = not (eqb h.family 0) || one_stream h.channels h.streams h.coupled h.mapping

record Tests (h : OpusHead) : Type 0 where
  channels : channels_test h ≡ true
  streams : leb 1 h.streams ≡ true
  coupled : leb h.coupled h.streams ≡ true
  together : leb (h.streams + h.coupled) 255 ≡ true
  entries : entries_test h ≡ true
  plain : plain_test h ≡ true

tests : (h : OpusHead) → ruled h ≡ true → Tests h
unfolding fields_fit
tests h t =
    let first = both_left (channels_test h && streams_test h) (entries_test h && plain_test h) t in
    let last = both_right (channels_test h && streams_test h) (entries_test h && plain_test h) t in
    let few = both_right (channels_test h) (streams_test h) first in
    let fewer = both_right (leb 1 h.streams) (few_test h) few in
    record {
      channels = both_left (channels_test h) (streams_test h) first;
      streams = both_left (leb 1 h.streams) (few_test h) few;
      coupled = both_left (leb h.coupled h.streams) (leb (h.streams + h.coupled) 255) fewer;
      together = both_right (leb h.coupled h.streams) (leb (h.streams + h.coupled) 255) fewer;
      entries = both_left (entries_test h) (plain_test h) last;
      plain = both_right (entries_test h) (plain_test h) last;
    }

-- what family 0 means
pub record Means (h : OpusHead) : Type 0 where
  pub one : h.streams ≡ 1
  pub two : h.coupled + 1 ≡ h.channels
  pub first : get_or h.mapping 0 0 ≡ 0
  pub second : get_or h.mapping 1 0 ≡ h.coupled

means : (h : OpusHead) → one_stream h.channels h.streams h.coupled h.mapping ≡ true → Means h
means h t =
    let a = eqb h.streams 1 in
    let b = eqb (h.coupled + 1) h.channels in
    let c = eqb (get_or h.mapping 0 0) 0 in
    let d = eqb (get_or h.mapping 1 0) h.coupled in
    let l = both_left (a && b) (c && d) t in
    let r = both_right (a && b) (c && d) t in
    record {
      one = eqb-true h.streams 1 (both_left a b l);
      two = eqb-true (h.coupled + 1) h.channels (both_right a b l);
      first = eqb-true (get_or h.mapping 0 0) 0 (both_left c d r);
      second = eqb-true (get_or h.mapping 1 0) h.coupled (both_right c d r);
    }

means_test : (h : OpusHead) → Means h → one_stream h.channels h.streams h.coupled h.mapping ≡ true
means_test h m =
    rw (
      eq-eqb h.streams 1 m.one,
      eq-eqb (h.coupled + 1) h.channels m.two,
      eq-eqb (get_or h.mapping 0 0) 0 m.first,
      eq-eqb (get_or h.mapping 1 0) h.coupled m.second,
    )

at_own_place : (h : OpusHead) → Means h → h.channels ≤ 2 → (i : ℕ) → i < h.channels → get_or h.mapping i 0 ≡ i
at_own_place h m few zero k = m.first
at_own_place h m few (suc zero) k = m.second ∙ omega (arith, m.two)
at_own_place h m few (suc (suc i)) k = absurd (omega arith)

pub ruled_lawful : (h : OpusHead) → h.version ≤ 15 → ruled h ≡ true → Lawful h
ruled_lawful h v t =
    let s = tests h t in
    let f = h.family in
    let n = h.channels in
    let some : 1 ≤ h.streams = leb-true 1 h.streams s.streams in
    record {
      version = v;
      channels = fits_some f n s.channels;
      mono_or_stereo = fits-plain f n s.channels;
      vorbis = fits_vorbis f n s.channels;
      streams = some;
      coupled = leb-true h.coupled h.streams s.coupled;
      together = leb-true (h.streams + h.coupled) 255 s.together;
      entry = entries_hold n (h.streams + h.coupled) h.mapping (omega arith) s.entries;
      unused = entries_unused n (h.streams + h.coupled) h.mapping s.entries;
      single_stream = λ e.
          let m = means h (rw (eq-eqb f 0 e) at s.plain) in
          (m.one, m.two, at_own_place h m (fits-plain f n s.channels e));
    }

lawful_means : (h : OpusHead) → Lawful h → h.family ≡ 0 → Means h
lawful_means h l e =
    let o = l.single_stream e in
    record {
      one = o.0;
      two = o.1;
      first = o.2 0 (omega (arith, l.channels));
      second = by_test (ltb 1 h.channels)
          (λ t. o.2 1 (ltb-true 1 h.channels t) ∙ omega (arith, ltb-true 1 h.channels t, l.mono_or_stereo e, o.1))
          (λ t. l.unused 1 (ltb-false 1 h.channels t) ∙ omega (arith, ltb-false 1 h.channels t, l.channels, o.1));
    }

pub lawful_ruled : (h : OpusHead) → Lawful h → ruled h ≡ true
unfolding fields_fit
lawful_ruled h l =
    let sum = h.streams + h.coupled in
    let plain : plain_test h ≡ true =
    by_test (eqb h.family 0) (λ t. rw t (means_test h (lawful_means h l (eqb-true h.family 0 t)))) (λ t. rw t) in
    rw (
      channels_test_lem h.family h.channels l.channels l.mono_or_stereo l.vorbis,
      le-leb 1 h.streams l.streams,
      le-leb h.coupled h.streams l.coupled,
      le-leb sum 255 l.together,
      entries_test_lem h.channels sum h.mapping l.entry l.unused,
      plain,
    )
