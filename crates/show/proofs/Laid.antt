-- Texts put into a buffer one behind another.
--     Laid                    over l a text was put from `at` on: d is what stands there now, and `next` is behind it
--     laid_then               a text behind it: the two are one text
--     copied_whole            a copy of the whole text
--     front_laid, front_counts   the same at place 0, and its count
-- Assumes nothing.
use Prim.Native.Nat.{ℕ, ◌+◌, ◌≤◌}
use native.Mathlib.Omega.{arith}
use mathlib.Core.Path.{◌≡◌, sym}
use mathlib.Core.List.{List, ◌++◌}
use lib.ListN.{length, length-append}
use lib.Seq.{sets, length-sets, length-take-le, take-length}
use Rattle.io.specs.Counts.{IsPrefixLen}
use Rattle.blocks.specs.Blocks.{copied}
use Rattle.blocks.proofs.Sets.{sets-append}

pub record Laid (l : List ℕ) (at : ℕ) (text d : List ℕ) (next : ℕ) : Type 0 where
  pub bytes : d ≡ sets l at text
  pub place : next ≡ at + length text

module _ {l : List ℕ} {at : ℕ} {a d : List ℕ} {next : ℕ} (k : Laid l at a d next) (b : List ℕ) where
  pub laid_then : {d' : List ℕ} {next' : ℕ} → Laid d next b d' next' → Laid l at (a ++ b) d' next'
  laid_then m =
      record {
        bytes = rw (sets-append, ← k.bytes, ← k.place) m.bytes;
        place = omega (arith, length-append a b, k.place, m.place);
      }

pub copied_whole : {d : List ℕ} (l : List ℕ) (at : ℕ) (text : List ℕ) → d ≡ copied l at text 0 (length text) → d ≡ sets l at text
copied_whole l at text e = rw (take-length text) at e

-- ---- at the front of a buffer
pub front_laid : (l a : List ℕ) {d : List ℕ} {next : ℕ} → d ≡ sets l 0 a → next ≡ length a → Laid l 0 a d next
front_laid l a e g = record { bytes = e; place = omega arith }

pub front_counts : (l a : List ℕ) → length a ≤ length l → IsPrefixLen (length a) (sets l 0 a)
front_counts l a h =
    let within : length a ≤ length (sets l 0 a) = simp length-sets h in
    (within, sym (length-take-le (length a) (sets l 0 a) within))
