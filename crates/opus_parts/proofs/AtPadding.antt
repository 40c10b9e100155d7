-- Padding lengths at the front of a slice, as the code has them: how many padding bytes, and a place in the slice.
--     Chain                      what the loop over the padding lengths keeps, with a law for its start, a turn, and each of its ends
--     unpadded_at, padded_at     the padding by the flag of the count byte
--     Padded, padding_was        what a caller knows of padding that fits
-- Assumes nothing.
use Prim.Native.Nat.{ℕ, zero, suc, ◌+◌, ◌-◌, ◌≤◌, ◌<◌}
use native.Mathlib.Omega.{arith}
use native.Mathlib.Numerals.{add-one}
use mathlib.Core.Path.{◌≡◌, refl, sym, ap}
use mathlib.Core.List.{List, [], ◌∷◌}
use lib.Dec.{ltb, eqb}
use lib.ListN.{length, get_or, drop, drop_of_length-le, length-drop}
use lib.Seq.{drop-cons}
use borrow.Author.Tests.{lt-ltb, le-ltb, eq-eqb, ne_eqb, ltb-false}
use Rattle.laws.proofs.Never.{never, by_test, cond_elim}
use Rattle.opus_size.specs.Size.{Field, no_field, field}
use Rattle.opus_format.specs.Reading.{plus, read_chain, read_padding}
use Rattle.opus_parts.specs.Parts.{padding_at}
use Rattle.std.specs.Prelude.{None, Some}
use Rattle.opus_parts.proofs.AtSizes.{place_is}

-- ---- a chain ends at a place of the slice, or not at all
data Placed (s : List ℕ) : Field → Type 0 where
  nowhere : Placed s no_field
  here : (pad next : ℕ) → next ≤ length s → Placed s (field pad (drop next s))

one_more : {s : List ℕ} {f : Field} (a k : ℕ) → Placed s f → Placed (a ∷ s) (plus k f)
one_more a k nowhere = nowhere
one_more a k (here pad next h) = here (k + pad) (suc next) (omega arith)

chain-placed : (s : List ℕ) → Placed s (read_chain s)
chain-placed [] = nowhere
chain-placed (a ∷ s) =
    let more = chain-placed s in
    cond_elim (Placed (a ∷ s)) (eqb a 255) _ _ (λ e. one_more a 254 more) (λ e. here a 1 (omega arith))

placed : (p : ℕ) (s : List ℕ) → Placed s (read_padding p s)
placed zero s = here 0 0 (omega arith)
placed (suc p) s = chain-placed s

module _ (s : List ℕ) (pad next : ℕ) where
  found_fits : next ≤ length s → pad ≤ length s - next → Some (pad, next) ≡ padding_at (length s) (field pad (drop next s))
  found_fits h l = rw (place_is s next h, length-drop next s, le-ltb _ _ l)

  found_unfit : length s - next < pad → None ≡ padding_at (length s) (field pad (drop next s))
  found_unfit l = rw (length-drop next s, lt-ltb _ _ l)

-- ---- the loop over the chain
plus_none : (f : Field) → plus 0 f ≡ f
plus_none no_field = refl
plus_none (field n s) = let e : 0 + n ≡ n = omega arith in rw e

plus_more : (k l : ℕ) (f : Field) → plus k (plus l f) ≡ plus (k + l) f
plus_more k l no_field = refl
plus_more k l (field n s) = let e : k + (l + n) ≡ k + l + n = omega arith in rw e

-- padding that does not fit before the chain is at its end
over : (m k : ℕ) {s : List ℕ} {f : Field} → length s < k → Placed s f → None ≡ padding_at m (plus k f)
over m k h nowhere = refl
over m k {s} h (here pad next l) = rw (lt-ltb (length (drop next s)) (k + pad) (omega (arith, length-drop next s)))

-- so many padding bytes so far, and the chain goes on at a place
pub record Chain (s : List ℕ) (pad at : ℕ) : Type 0 where
  pub inside : at ≤ length s
  pub fits : pad ≤ length s - at
  pub rest : plus pad (read_chain (drop at s)) ≡ read_chain s

module _ (s : List ℕ) where
  pub chain_start : Chain s 0 0
  chain_start = record { inside = omega arith; fits = omega arith; rest = plus_none (read_chain s) }

  module _ (pad at : ℕ) (z : Chain s pad at) where
    pub chain_end : length s ≤ at → None ≡ padding_at (length s) (read_chain s)
    chain_end h = let none : drop at s ≡ [] = drop_of_length-le s h in rw (← z.rest, none)

    module _ (b : ℕ) (h : at < length s) (e : b ≡ get_or s at 0) where
      next_byte : drop at s ≡ b ∷ drop (at + 1) s
      next_byte = rw (e, add-one at) (drop-cons s at 0 h)

      module _ (n : b ≡ 255 → ⊥) where
        ends : read_chain s ≡ field (pad + b) (drop (at + 1) s)
        ends = rw (← z.rest, next_byte, ne_eqb b 255 n)

        pub chain_unfit : length s - (at + 1) < pad + b → None ≡ padding_at (length s) (read_chain s)
        chain_unfit l = rw ends (found_unfit s (pad + b) (at + 1) l)

        pub chain_whole : pad + b ≤ length s - (at + 1) → Some (pad + b, at + 1) ≡ padding_at (length s) (read_chain s)
        chain_whole l = rw ends (found_fits s (pad + b) (at + 1) (omega arith) l)

      module _ (y : b ≡ 255) where
        goes_on : plus (pad + 254) (read_chain (drop (at + 1) s)) ≡ read_chain s
        goes_on = rw (← z.rest, next_byte, eq-eqb b 255 y) (sym (plus_more pad 254 (read_chain (drop (at + 1) s))))

        pub chain-over : length s - (at + 1) < pad + 254 → None ≡ padding_at (length s) (read_chain s)
        chain-over l = rw (← goes_on) (over (length s) (pad + 254) (omega (arith, length-drop (at + 1) s)) (chain-placed (drop (at + 1) s)))

        pub chain_more : pad + 254 ≤ length s - (at + 1) → Chain s (pad + 254) (at + 1)
        chain_more l = record { inside = omega arith; fits = l; rest = goes_on }

-- ---- by the flag
pub unpadded_at : (p : ℕ) (s : List ℕ) → p ≡ 0 → Some (0, 0) ≡ padding_at (length s) (read_padding p s)
unpadded_at p s e = rw e (found_fits s 0 0 (omega arith) (omega arith))

pub padded_at : (p : ℕ) (s : List ℕ) → (p ≡ 0 → ⊥) → padding_at (length s) (read_chain s) ≡ padding_at (length s) (read_padding p s)
padded_at zero s n = absurd (n refl)
padded_at (suc p) s n = refl

-- ---- what a caller learns of padding that fits
pub record Padded (p : ℕ) (s : List ℕ) (pad next : ℕ) : Type 0 where
  pub room : next + pad ≤ length s
  pub means : read_padding p s ≡ field pad (drop next s)

pub padding_was : (p : ℕ) (s : List ℕ) (pad next : ℕ) → padding_at (length s) (read_padding p s) ≡ Some (pad, next) → Padded p s pad next
padding_was p s pad next e = go (read_padding p s) refl (placed p s)
  where
    go : (f : Field) → read_padding p s ≡ f → Placed s f → Padded p s pad next
    go f q nowhere = never (let w = rw q at e in cc)
    go f q (here pad₂ next₂ h) =
        by_test (ltb (length (drop next₂ s)) pad₂)
        (λ t. never (let w = rw (q, t) at e in cc))
        (λ t.
        let w = rw (q, t, place_is s next₂ h) at e in
        let same : pad₂ ≡ pad = let both : (pad₂, next₂) ≡ (pad, next) = cc in ap (λ (x : ℕ × ℕ). x.0) both in
        let place : next₂ ≡ next = let both : (pad₂, next₂) ≡ (pad, next) = cc in ap (λ (x : ℕ × ℕ). x.1) both in
        record { room = omega (arith, ltb-false (length (drop next₂ s)) pad₂ t, length-drop next₂ s); means = rw (← same, ← place) q })
