-- The chain of padding lengths for n missing bytes: none for none, else so many bytes of 255 and one that ends it.
--     chain_some, length-chain     the chain, and how many bytes it is
--     chain_most                   it is itself among the missing bytes
--     chain_padding                what it says is the padding bytes that it leaves
-- Assumes nothing.
use Prim.Native.Nat.{ℕ, ◌+◌, ◌*◌, ◌-◌, ◌/◌, ◌≤◌}
use native.Mathlib.Omega.{arith}
use mathlib.Core.Path.{◌≡◌}
use mathlib.Core.List.{[], ◌∷◌, ◌++◌}
use mathlib.Core.Bool.{cond}
use lib.Dec.{eqb}
use lib.ListN.{length, replicate, length-append, length-replicate}
use borrow.Author.Tests.{eqb-true, eqb-false, ne_eqb}
use Rattle.laws.proofs.Never.{by_test}
use Rattle.opus_format.specs.Format.{Padding, unpadded, padded}
use Rattle.opus_header.specs.Header.{chain, pad_bytes}

module _ (n : ℕ) (some : n ≡ 0 → ⊥) where
  pub chain_some : chain n ≡ replicate ((n - 1) / 255) 255 ++ ((n - 1 - 255 * ((n - 1) / 255)) ∷ [])
  chain_some = rw (ne_eqb n 0 some)

  pub length-chain : length (chain n) ≡ (n - 1) / 255 + 1
  length-chain = rw (chain_some, length-append, length-replicate)

pub chain_most : (n : ℕ) → length (chain n) ≤ n
chain_most n = by_test (eqb n 0) (λ e. rw e (omega arith)) (λ e. omega (arith, length-chain n (eqb-false n 0 e), eqb-false n 0 e))

pub chain_padding : (n : ℕ) → Padding (cond (eqb n 0) 0 1) (chain n) (pad_bytes n)
chain_padding n =
    by_test (eqb n 0) (λ e. rw (eqb-true n 0 e) unpadded)
    (λ e.
    let more = (n - 1) / 255 in
    let some = eqb-false n 0 e in
    let left : pad_bytes n ≡ 254 * more + (n - 1 - 255 * more) = omega (arith, length-chain n some, some) in
    rw (left, e) (padded more (n - 1 - 255 * more) (omega arith)))
