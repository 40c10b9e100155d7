-- Samples per frame.
--     table_rule        a table that passes one test at all 256 TOC bytes gives the samples of the RFC's configurations
--     formula_agrees    the crate's formula gives them too, at every TOC byte and rate
--     scaled            at each rate they are those at 48 kHz, scaled
--     celt_8k_lem, ..       at 8 kHz, by the tests of the code
--     lasts_at_lem          120 ms counted in samples at a rate are 120 ms by the RFC's durations
-- Assumes nothing.
use Prim.Native.Nat.{ℕ, ◌+◌, ◌*◌, ◌/◌, ◌%◌, ◌≤◌, ◌<◌}
use native.Mathlib.Nat.{mul_left_comm, mul-le-mul}
use native.Mathlib.Omega.{arith}
use mathlib.Core.Path.{◌≡◌, refl, ap, sym, ◌∙◌}
use mathlib.Core.List.{List, [], ◌∷◌}
use mathlib.Core.Bool.{true, cond}
use lib.Dec.{eqb, leb}
use lib.ListN.{get_or}
use borrow.Author.Tests.{eqb-true, leb-true, le-leb, lt-leb}
use Rattle.laws.specs.Every.{every_below}
use Rattle.laws.proofs.Every.{every_at}
use Rattle.laws.proofs.Never.{by_test}
use Rattle.opus_toc.specs.Toc.{configuration, duration, samples}
use Rattle.opus_toc.specs.Answers.{is_rate}
use Rattle.opus_toc.specs.Formula.{crate_samples}
use Rattle.opus_toc.proofs.Rates.{each_rate, every_rate, rate_at}

-- two functions that one test finds equal at every number below a bound
equal-below : (m : ℕ) (f g : ℕ → ℕ) → every_below m (λ k. eqb (f k) (g k)) ≡ true → (k : ℕ) → k < m → f k ≡ g k
equal-below m f g t k h = eqb-true (f k) (g k) (every_at m (λ k. eqb (f k) (g k)) t k h)

pub table_rule : (table : List ℕ) → every_below 256 (λ k. eqb (get_or table k 0) (samples 48000 (configuration k))) ≡ true → (toc : ℕ) → toc < 256
    → get_or table toc 0 ≡ samples 48000 (configuration toc)
table_rule table = equal-below 256 (λ k. get_or table k 0) (λ k. samples 48000 (configuration k))

-- the same at each rate, by one test over all five
at_rates : (m : ℕ) (f g : ℕ → ℕ → ℕ) → every_rate (λ r. every_below m (λ k. eqb (f r k) (g r k))) ≡ true
    → (rate : ℕ) → is_rate rate ≡ true → (k : ℕ) → k < m → f rate k ≡ g rate k
at_rates m f g t rate e = equal-below m (f rate) (g rate) (rate_at (λ r. every_below m (λ k. eqb (f r k) (g r k))) t rate e)

pub formula_agrees : (rate : ℕ) → is_rate rate ≡ true → (toc : ℕ) → toc < 256 → crate_samples rate toc ≡ samples rate (configuration toc)
unfolding crate_samples samples duration
formula_agrees = at_rates 256 crate_samples (λ r k. samples r (configuration k)) refl

pub scaled : (rate : ℕ) → is_rate rate ≡ true → (toc : ℕ) → toc < 256
    → samples 48000 (configuration toc) / (48000 / rate) ≡ samples rate (configuration toc)
unfolding samples duration
scaled = at_rates 256 (λ r k. samples 48000 (configuration k) / (48000 / r)) (λ r k. samples r (configuration k)) refl

-- at 8 kHz by two tests of the TOC byte, one test at all 256
abbrev pub celts : List ℕ
celts = 20 ∷ 40 ∷ 80 ∷ 160 ∷ []

abbrev pub silks : List ℕ
silks = 80 ∷ 160 ∷ 320 ∷ 480 ∷ []

abbrev tested : ℕ → ℕ
tested toc =
    cond (leb 128 toc) (get_or celts (toc / 8 % 4) 0) (cond (leb 96 toc) (get_or celts (toc / 8 % 2 + 2) 0) (get_or silks (toc / 8 % 4) 0))

pub at_last : (l : List ℕ) (i : ℕ) → i < 4 → (i ≡ 0 → ⊥) → (i ≡ 1 → ⊥) → (i ≡ 2 → ⊥) → get_or l 3 0 ≡ get_or l i 0
at_last l i h a b d = let e : i ≡ 3 = omega arith in rw e

module _ (toc : ℕ) (byte : toc < 256) where
  by_tests : tested toc ≡ samples 8000 (configuration toc)
  unfolding samples duration
  by_tests = equal-below 256 tested (λ k. samples 8000 (configuration k)) refl toc byte

  pub celt_8k_lem : 128 ≤ toc → get_or celts (toc / 8 % 4) 0 ≡ samples 8000 (configuration toc)
  celt_8k_lem h = rw (le-leb 128 toc h) at by_tests

  pub hybrid_8k : toc < 128 → 96 ≤ toc → get_or celts (toc / 8 % 2 + 2) 0 ≡ samples 8000 (configuration toc)
  hybrid_8k h k = rw (lt-leb 128 toc h, le-leb 96 toc k) at by_tests

  pub silk_8k_lem : toc < 128 → toc < 96 → get_or silks (toc / 8 % 4) 0 ≡ samples 8000 (configuration toc)
  silk_8k_lem h k = rw (lt-leb 128 toc h, lt-leb 96 toc k) at by_tests

-- no sample is lost: 10,000 frames have as many samples as the rate times the duration in tenths of a millisecond
exact : (rate : ℕ) → is_rate rate ≡ true → (c : ℕ) → c < 32 → 10000 * samples rate c ≡ rate * duration c
unfolding samples duration
exact = at_rates 32 (λ r c. 10000 * samples r c) (λ r c. r * duration c) refl

times : (k s d a b : ℕ) → a * s ≡ b * d → a * (k * s) ≡ b * (k * d)
times k s d a b e = mul_left_comm a k s ∙ (ap (λ (n : ℕ). k * n) e ∙ mul_left_comm k b d)

same_limit : (a b l m : ℕ) → (a ≤ l → b ≤ m) → (b ≤ m → a ≤ l) → leb a l ≡ leb b m
same_limit a b l m f g =
    by_test (leb a l) (λ t. t ∙ sym (le-leb b m (f (leb-true a l t))))
    (λ t. by_test (leb b m) (λ u. le-leb a l (g (leb-true b m u)) ∙ sym u) (λ u. t ∙ sym u))

-- rate * 3 / 25 samples are 120 ms: 960 at 8 kHz, 5760 at 48 kHz
pub lasts_at_lem : (rate : ℕ) → is_rate rate ≡ true → (count c : ℕ) → c < 32
    → leb (count * samples rate c) (rate * 3 / 25) ≡ leb (count * duration c) 1200
lasts_at_lem rate e count c h = go rate e
  where
    P : ℕ → Type 0
    P r = 10000 * (count * samples r c) ≡ r * (count * duration c) → leb (count * samples r c) (r * 3 / 25) ≡ leb (count * duration c) 1200

    at : (r : ℕ) → ((s d : ℕ) → 10000 * s ≡ r * d → s ≤ r * 3 / 25 → d ≤ 1200)
        → ((s d : ℕ) → 10000 * s ≡ r * d → d ≤ 1200 → s ≤ r * 3 / 25) → P r
    at r f g x =
        same_limit (count * samples r c) (count * duration c) (r * 3 / 25) 1200 (f (count * samples r c) (count * duration c) x)
        (g (count * samples r c) (count * duration c) x)

    go : (r : ℕ) → is_rate r ≡ true → leb (count * samples r c) (r * 3 / 25) ≡ leb (count * duration c) 1200
    go r t =
        each_rate P
        (at 8000 (λ s d x y. omega arith) (λ s d x y. omega arith))
        (at 12000 (λ s d x y. omega arith) (λ s d x y. omega arith))
        (at 16000 (λ s d x y. omega arith) (λ s d x y. omega arith))
        (at 24000 (λ s d x y. omega arith) (λ s d x y. omega arith))
        (at 48000 (λ s d x y. omega arith) (λ s d x y. omega arith))
        r t (times count (samples r c) (duration c) 10000 r (exact r t c h))

-- the product of two numbers of 16 bits
pub product : (a b : ℕ) → a < 65536 → b < 65536 → a * b < 4294967296
product a b h k = let p : a * b ≤ 65535 * 65535 = mul-le-mul {n₂ = 65535} {m₂ = 65535} (omega arith) (omega arith) in omega arith
