-- How deep the calls of `record_at` and `seek_mark` are nested: this is their measure, so that what is proved is not only that they end but
-- that at most three of them are under way at once, whatever the bytes are and however many.
-- Assumes nothing.
use mathlib.Core.Path.{◌≡◌, refl, sym, ◌∙◌}
use mathlib.Core.List.{List}
use mathlib.Core.Bool.{cond}
use Prim.Native.Nat.{ℕ, ◌+◌, ◌*◌, ◌-◌, ◌≤◌}
use native.Mathlib.Omega.{arith}
use lib.Dec.{eqb}
use lib.ListN.{length, get_or, drop}
use borrow.Author.Tests.{eq-eqb, ne_eqb}
use Rattle.capture.specs.Finding.{packet_length}
use Rattle.capture.proofs.Laws.{length_first, length_second, length_cut}
use Rattle.capture.proofs.Seeking.{stands, length_none, goes_on_lem}

-- the calls under `record_at` at a place: none where a record stands; else `seek_mark`, and under that `record_at` where one stands
abbrev pub under_record_at : List ℕ → ℕ → ℕ
under_record_at s at = cond (eqb (packet_length (drop at s)) 0) 2 0

abbrev pub under_seek_mark : ℕ
under_seek_mark = 1

module _ (s : List ℕ) (at n : ℕ) (is : n ≡ packet_length (drop at s)) where
  pub nothing_stands : n ≡ 0 → under_record_at s at ≡ 2
  nothing_stands z = simp (eq-eqb (packet_length (drop at s)) 0 (sym is ∙ z))

  pub one_stands : (n ≡ 0 → ⊥) → under_record_at s at ≡ 0
  one_stands f = simp (ne_eqb (packet_length (drop at s)) 0 (λ z. f (is ∙ z)))

-- what `seek_mark` hands on is a place where a record stands, told by the bytes there
pub asked_stands : (s : List ℕ) (at high low : ℕ) → get_or s at 0 ≡ 0x4B → get_or s (at + 1) 0 ≡ 0x9D
    → high ≡ get_or s (at + 3) 0 → low ≡ get_or s (at + 4) 0
    → (256 * high + low ≡ 0 → ⊥) → at + (256 * high + low) ≤ length s - 5 → 5 ≤ length s
    → under_record_at s at ≡ 0
asked_stands s at high low a b h l f fits long =
    one_stands s at (packet_length (drop at s)) refl (stands s at a b (omega (arith, h, l, fits, long)) (λ z. f (omega (arith, h, l, z))))

-- what the goals of `seek_mark` need
pub ruleset seeking = (length_first, length_second, length_cut, length_none, goes_on_lem, asked_stands)
