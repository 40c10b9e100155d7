-- The padding lengths of code 3: what is written is read back, and what is read was written so.
-- Assumes nothing.
use Prim.Native.Nat.{ℕ, zero, suc, ◌+◌, ◌*◌, ◌<◌}
use native.Mathlib.Omega.{arith}
use mathlib.Core.Path.{◌≡◌, refl, ap}
use mathlib.Core.List.{List, [], ◌∷◌, ◌++◌}
use mathlib.Core.Bool.{Bool, true, false}
use lib.Dec.{eqb}
use lib.ListN.{replicate}
use borrow.Author.Tests.{eqb-true, eqb-false, ne_eqb}
use Rattle.laws.specs.Bytes.{Bytes}
use Rattle.laws.proofs.Never.{never}
use Rattle.laws.proofs.Bytes.{bytes_tail}
use Rattle.opus_size.specs.Size.{Field, no_field, field}
use Rattle.opus_format.specs.Format.{Padding, unpadded, padded}
use Rattle.opus_format.specs.Reading.{read_chain, read_padding}

-- ---- the chain alone: `more` times 255, and a last byte
abbrev links : ℕ → ℕ → List ℕ
links more last = replicate more 255 ++ (last ∷ [])

chain-read : (more last : ℕ) (s : List ℕ) → last < 255 → read_chain (links more last ++ s) ≡ field (254 * more + last) s
chain-read zero last s h = rw (ne_eqb last 255 (omega arith)) (ap (λ n. field n s) (omega arith))
chain-read (suc more) last s h = rw (chain-read more last s h) (ap (λ n. field n s) (omega arith))

record ChainWas (s : List ℕ) (pad : ℕ) (rest : List ℕ) : Type 0 where
  more : ℕ
  last : ℕ
  small : last < 255
  value : pad ≡ 254 * more + last
  spelled : s ≡ links more last ++ rest

chain_was : (s : List ℕ) (pad : ℕ) (rest : List ℕ) → Bytes s → read_chain s ≡ field pad rest → ChainWas s pad rest
chain_was [] pad rest bytes r = never (cc)
chain_was (a ∷ s) pad rest bytes r = go (λ n t. chain_was s n t (bytes_tail bytes)) (eqb a 255) refl (read_chain s) refl
  where
    go : ((n : ℕ) (t : List ℕ) → read_chain s ≡ field n t → ChainWas s n t) → (b : Bool) → eqb a 255 ≡ b → (f : Field) → read_chain s ≡ f
        → ChainWas (a ∷ s) pad rest
    go ih true e no_field d = never (cc)
    go ih true e (field n t) d =
        let w = ih n t d in
        let q : field (254 + n) t ≡ field pad rest = rw (e, d) at r in
        let v : 254 + n ≡ pad = cc in
        record {
          more = suc w.more;
          last = w.last;
          small = w.small;
          value = omega (arith, w.value);
          spelled = cc (eqb-true a 255 e, w.spelled);
        }
    go ih false e f d =
        let q : field a s ≡ field pad rest = rw e at r in
        let v : a ≡ pad = cc in
        record { more = 0; last = a; small = omega (arith, bytes.byte 0, eqb-false a 255 e); value = omega arith; spelled = cc }

-- ---- with the flag
pub padding_flag_lem : {flag : ℕ} {chain : List ℕ} {pad : ℕ} → Padding flag chain pad → flag < 2
padding_flag_lem unpadded = omega arith
padding_flag_lem (padded more last h) = omega arith

pub padding_read : {flag : ℕ} {chain : List ℕ} {pad : ℕ} → Padding flag chain pad → (s : List ℕ) → read_padding flag (chain ++ s) ≡ field pad s
padding_read unpadded s = refl
padding_read (padded more last h) s = chain-read more last s h

-- the bytes s begin with padding lengths, and rest stands behind them
pub record PaddingWas (flag : ℕ) (s : List ℕ) (pad : ℕ) (rest : List ℕ) : Type 0 where
  pub chain : List ℕ
  pub padding : Padding flag chain pad
  pub spelled : s ≡ chain ++ rest

pub padding_was : (flag : ℕ) → flag < 2 → (s : List ℕ) (pad : ℕ) (rest : List ℕ) → Bytes s → read_padding flag s ≡ field pad rest
    → PaddingWas flag s pad rest
padding_was zero h s pad rest bytes r =
    let none : pad ≡ 0 = cc in
    record { chain = []; padding = rw none unpadded; spelled = cc }
padding_was (suc zero) h s pad rest bytes r =
    let w = chain_was s pad rest bytes r in
    record {
      chain = links w.more w.last;
      padding = rw (← w.value) at (padded w.more w.last w.small);
      spelled = w.spelled;
    }
padding_was (suc (suc flag)) h s pad rest bytes r = absurd (omega arith)
