-- The place of a refusal is within the packet or its end (document 02, M-100).
-- Assumes nothing.
use Prim.Native.Nat.{ℕ, zero, suc, ◌-◌, ◌/◌, ◌%◌, ◌≤◌}
use native.Mathlib.Omega.{arith}
use mathlib.Core.Path.{◌≡◌}
use mathlib.Core.List.{List, [], ◌∷◌}
use mathlib.Core.Bool.{Bool}
use lib.Dec.{ltb}
use lib.ListN.{length, take}
use Rattle.laws.proofs.Never.{cond_elim}
use Rattle.opus_size.specs.Size.{Field, no_field, field}
use Rattle.opus_toc.specs.Toc.{code, upper_six}
use Rattle.opus_defines.specs.declared.Rule.{Rule}
use Rattle.opus_defines.specs.declared.Rule.TheVariants.{R1, R2, R3, R4, R5, R6, R7, R8}
use Rattle.opus_format.specs.Reading.{Front, broken, front, unequal, equal, frames3, read_padding, size_rule, lasts, pointed, Reading, refused, accepted}
use Rattle.opus_format.specs.Reading.{accept, behind_padding, read3, read_code, read}

-- the place, and 0 where nothing broke
abbrev pub place_of : Reading → ℕ
place_of (refused r place) = place
place_of (accepted toc ns first taken) = 0

pointed-within : (m : ℕ) (r : Rule) (place : ℕ) → place ≤ m → pointed r place ≤ m
pointed-within m R1 place k = k
pointed-within m R2 place k = k
pointed-within m R3 place k = omega arith
pointed-within m R4 place k = k
pointed-within m R5 place k = k
pointed-within m R6 place k = k
pointed-within m R7 place k = k
pointed-within m R8 place k = k

module _ (m toc : ℕ) where
  accept-within : (pad : ℕ) (f : Front) → place_of (accept m toc pad f) ≤ m
  accept-within pad (broken r s) = pointed-within m r (m - pad - length s) (omega arith)
  accept-within pad (front ns t) = omega arith

  padding_within : (sd : Bool) (v count : ℕ) (f : Field) → 2 ≤ m → place_of (behind_padding sd m toc v count f) ≤ m
  padding_within sd v count no_field k = omega arith
  padding_within sd v count (field pad s) k =
      let inner = frames3 sd v count (take (length s - pad) s) in
      cond_elim (λ (a : Reading). place_of a ≤ m) (ltb (length s) pad) (refused (size_rule v) 2) (accept m toc pad inner)
      (λ c. omega arith) (λ c. accept-within pad inner)

within3 : (sd : Bool) (m toc : ℕ) (s : List ℕ) → suc (length s) ≤ m → place_of (read3 sd m toc s) ≤ m
within3 sd m toc [] h = omega arith
within3 sd m toc (c ∷ s) h =
    let f = read_padding (c / 64 % 2) s in
    cond_elim (λ (a : Reading). place_of a ≤ m) (lasts (upper_six toc) (c % 64)) (behind_padding sd m toc (c / 128 % 2) (c % 64) f) (refused R5 1)
    (λ d. padding_within m toc sd (c / 128 % 2) (c % 64) f (omega arith)) (λ d. omega arith)

code-within : (sd : Bool) (c m toc : ℕ) (s : List ℕ) → suc (length s) ≤ m → place_of (read_code sd c m toc s) ≤ m
code-within sd zero m toc s h = accept-within m toc 0 (unequal sd R2 0 s)
code-within sd (suc zero) m toc s h = accept-within m toc 0 (equal sd R3 2 s)
code-within sd (suc (suc zero)) m toc s h = accept-within m toc 0 (unequal sd R4 1 s)
code-within sd (suc (suc (suc c))) m toc s h = within3 sd m toc s h

place_within : (sd : Bool) (p : List ℕ) → place_of (read sd p) ≤ length p
unfolding read
place_within sd [] = omega arith
place_within sd (toc ∷ s) = code-within sd (code toc) (suc (length s)) toc s (omega arith)

pub refused_within : (sd : Bool) (p : List ℕ) (rule : Rule) (place : ℕ) → read sd p ≡ refused rule place → place ≤ length p
refused_within sd p rule place r = rw r at (place_within sd p)
