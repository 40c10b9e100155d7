-- What is said of a buffer in which a part of the text stands: lines, nothing, or the refusal.
-- Assumes nothing.
use Prim.Native.Nat.{ℕ, ◌-◌, ◌≤◌, ◌<◌}
use native.Mathlib.Omega.{arith}
use mathlib.Core.Path.{◌≡◌, refl}
use mathlib.Core.List.{List}
use lib.IntN.{ℤ}
use lib.ListN.{length}
use lib.Seq.{sets}
use mir.Syntax.{w32}
use mir.Val.{to_z, of_z}
use Rattle.io.specs.Counts.{IsPrefixLen}
use Rattle.opus_defines.specs.Numbers.{refusal_number}
use Rattle.opus_defines.specs.declared.Refusal.TheVariants.{BadArg}
use Rattle.show.specs.Text.{refusal}
use Rattle.show.proofs.Laid.{front_counts}
use Rattle.opus_defines.proofs.Others.{refusal_passed}
use Rattle.show.proofs.Refusals.{refusal_most}
use Rattle.captures_text.specs.Lines.{most_capture, line_most, Part, lines_in, part_from}
use Rattle.captures_text.proofs.Parts.{stop, part-read, part-full, part_refused, part_moves}

module _ (s : List ℕ) (at : ℕ) (l : List ℕ) where
  -- over l a part was put: d is what stands there now, n are its bytes, and `next` is where to go on
  abbrev Said : Part → List ℕ → ℕ → ℕ → Type 0
  Said p d n next = (d ≡ sets l 0 p.text) × ((n ≡ length p.text) × ((next ≡ p.next) × IsPrefixLen n d))

  ends_as : (p : Part) {d : List ℕ} {n next : ℕ} → part_from s at (length l) ≡ p → d ≡ sets l 0 p.text → n ≡ length p.text
      → next ≡ p.next → n ≤ length l → Said (part_from s at (length l)) d n next
  ends_as p e b c g h =
      let room : length p.text ≤ length l = omega arith in
      rw e (b, (c, (g, rw (b, c) (front_counts l p.text room))))

  pub ends_read : length s ≤ most_capture → {d : List ℕ} {n next : ℕ}
      → let q = lines_in (length s) s at (length l) in (d ≡ sets l 0 q.text) × ((n ≡ length q.text) × ((next ≡ q.next) × (n ≤ length l)))
      → Said (part_from s at (length l)) d n next
  ends_read h p = ends_as (lines_in (length s) s at (length l)) (part-read s at (length l) h) p.0 p.1.0 p.1.1.0 p.1.1.1

  pub ends_small : most_capture < length s → length l < line_most → Said (part_from s at (length l)) l 0 at
  ends_small h k = ends_as (stop at) (part-full s at (length l) h k) refl refl refl (omega arith)

  -- the refusal's number x, as a call is passed it
  module _ (k : line_most ≤ length l) (x : ℤ) (e : x ≡ refusal_number BadArg) where
    number_is : to_z w32 (of_z w32 x) ≡ refusal_number BadArg
    number_is = rw e (refusal_passed BadArg)

    pub refused_most : length (refusal (to_z w32 (of_z w32 x))) ≤ line_most
    refused_most = rw number_is (omega (arith, refusal_most BadArg))

    pub refused_room : length (refusal (to_z w32 (of_z w32 x))) ≤ length l
    refused_room = omega (arith, refused_most)

    pub ends_refused : most_capture < length s → {d : List ℕ} {n : ℕ} → d ≡ sets l 0 (refusal (to_z w32 (of_z w32 x)))
        → n ≡ length (refusal (to_z w32 (of_z w32 x))) → Said (part_from s at (length l)) d n (length s)
    ends_refused h b c =
        ends_as (record { next = length s; text = refusal (refusal_number BadArg) }) (part_refused s at (length l) h k) (rw number_is at b)
        (rw number_is at c) refl (omega (arith, refused_room))

-- ---- for a caller whose buffer has room for a line: the place moves on
pub ends_less : (s : List ℕ) (at : ℕ) (l : List ℕ) {next : ℕ} → next ≡ (part_from s at (length l)).next → line_most ≤ length l → at < length s
    → length s - next < length s - at
ends_less s at l e h i = let w = part_moves s at (length l) h i in omega (arith, w.0, w.1)

-- what the goals of `put_lines` and `print` need
pub ruleset ending = (ends_read, ends_small, refused_most, refused_room, ends_refused, ends_less)
