-- `opus_toc::samples_48k` meets its contract: each arm names the configurations that have its samples, and one test at all 32 says that
-- the last arm has the rest.
-- Assumes nothing.
use Prim.Native.Nat.{ℕ, ◌/◌, ◌<◌}
use native.Mathlib.Omega.{arith}
use mathlib.Core.Path.{◌≡◌, refl}
use mathlib.Core.List.{List, [], ◌∷◌}
use mathlib.Core.Bool.{◌||◌}
use lib.Dec.{eqb}
use mir.Val.{has_key}
use types.Run.{OneOf}
use borrow.Author.Tests.{eqb-true}
use Rattle.laws.proofs.Every.{every_at}
use Rattle.opus_toc.specs.Toc.{configuration, duration, samples}
use Rattle.opus_toc.proofs.Keys.{AllOf, key_holds, no_key}
use Rattle.opus_toc.proofs.samples_48k.Goals as goal

abbrev Has : ℕ → ℕ → Type 0
Has n c = n ≡ samples 48000 c

-- the configuration is the upper five bits
at-toc : (n toc : ℕ) → Has n (toc / 8) → Has n (configuration toc)
at-toc n toc h = let e : configuration toc ≡ toc / 8 = omega arith in rw e h

arm : (n toc : ℕ) (ks : List ℕ) → AllOf (Has n) ks → OneOf ks (toc / 8) → Has n (configuration toc)
arm n toc ks a o = at-toc n toc (key_holds (Has n) (toc / 8) ks a o)

-- the configurations of each arm, by the duration in ms
abbrev ms2½ : List ℕ
ms2½ = 16 ∷ 20 ∷ 24 ∷ 28 ∷ []

abbrev ms5 : List ℕ
ms5 = 17 ∷ 21 ∷ 25 ∷ 29 ∷ []

abbrev ms10 : List ℕ
ms10 = 0 ∷ 4 ∷ 8 ∷ 12 ∷ 14 ∷ 18 ∷ 22 ∷ 26 ∷ 30 ∷ []

abbrev ms40 : List ℕ
ms40 = 2 ∷ 6 ∷ 10 ∷ []

abbrev ms60 : List ℕ
ms60 = 3 ∷ 7 ∷ 11 ∷ []

module _ (c : ℕ) where
  others : (OneOf ms2½ c → ⊥) → (OneOf ms5 c → ⊥) → (OneOf ms10 c → ⊥) → (OneOf ms40 c → ⊥) → (OneOf ms60 c → ⊥) → c < 32
      → Has 960 c
  unfolding samples duration
  others a b d e f h =
      let t =
      every_at 32 (λ k. has_key ms2½ k || (has_key ms5 k || (has_key ms10 k || (has_key ms40 k || (has_key ms60 k || eqb 960 (samples 48000 k)))))) refl c h in
      eqb-true 960 (samples 48000 c) (rw (no_key ms2½ c a, no_key ms5 c b, no_key ms10 c d, no_key ms40 c e, no_key ms60 c f) at t)

pub returns-in-16 : goal.returns-in-16
unfolding samples duration
returns-in-16 c =
    arm 120 c.args.toc ms2½ (refl, (refl, (refl, (refl, tt)))) c.in-16.is

pub returns-in-17 : goal.returns-in-17
unfolding samples duration
returns-in-17 c =
    arm 240 c.args.toc ms5 (refl, (refl, (refl, (refl, tt)))) c.in-17.is

pub returns-in-0 : goal.returns-in-0
unfolding samples duration
returns-in-0 c =
    arm 480 c.args.toc ms10 (refl, (refl, (refl, (refl, (refl, (refl, (refl, (refl, (refl, tt))))))))) c.in-0.is

pub returns-in-2 : goal.returns-in-2
unfolding samples duration
returns-in-2 c =
    arm 1920 c.args.toc ms40 (refl, (refl, (refl, tt))) c.in-2.is

pub returns-in-3 : goal.returns-in-3
unfolding samples duration
returns-in-3 c =
    arm 2880 c.args.toc ms60 (refl, (refl, (refl, tt))) c.in-3.is

pub returns-in_default : goal.returns-in_default
returns-in_default c =
    at-toc 960 c.args.toc (others (c.args.toc / 8) c.in_default.in_default-own.rest.0.0.0.0.1 c.in_default.in_default-own.rest.0.0.0.1
    c.in_default.in_default-own.rest.0.0.1 c.in_default.in_default-own.rest.0.1 c.in_default.in_default-own.rest.1 (omega (arith, c.ranges.toc)))
