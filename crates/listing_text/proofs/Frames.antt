-- Frames one behind another: their lines.
--     lines_next, lines_within      a line more, and that it is within all of them
--     place_next, place_within      where it stands, and where the next one stands
-- Assumes nothing.
use Prim.Native.Nat.{ℕ, zero, suc, ◌+◌, ◌≤◌, ◌<◌}
use native.Mathlib.Omega.{arith}
use mathlib.Core.Path.{◌≡◌, ap, ◌∙◌}
use mathlib.Core.List.{List, [], ◌∷◌, ◌++◌, append_assoc, append-nil}
use lib.ListN.{length, get_or, take, drop, length-append}
use lib.Seq.{split_at, length-take-le}
use Rattle.opus_format.specs.Frames.{total}
use Rattle.opus_format.proofs.Lengths.{take_next, total_more}
use Rattle.listing_text.specs.Listing.{frame_line, frame_lines}

total-take : (ns : List ℕ) (i : ℕ) → total (take i ns) ≤ total ns
total-take ns zero = omega arith
total-take [] (suc i) = omega arith
total-take (n ∷ ns) (suc i) = omega (arith, total-take ns i)

lines_append : (i at : ℕ) (ms ns : List ℕ) → frame_lines i at (ms ++ ns) ≡ frame_lines i at ms ++ frame_lines (i + length ms) (at + total ms) ns
unfolding frame_lines
lines_append i at [] ns =
    let a : i + 0 ≡ i = omega arith in
    let b : at + 0 ≡ at = omega arith in
    rw (a, b)
lines_append i at (m ∷ ms) ns =
    let a : i + suc (length ms) ≡ suc i + length ms = omega arith in
    let b : at + (m + total ms) ≡ at + m + total ms = omega arith in
    rw (lines_append (suc i) (at + m) ms ns, append_assoc, a, b)

module _ (first : ℕ) (ns : List ℕ) (i : ℕ) (h : i < length ns) where
  pub place_next : first + total (take (i + 1) ns) ≡ first + total (take i ns) + get_or ns i 0
  place_next = omega (arith, total_more ns i h)

  pub place_within : first + total (take i ns) + get_or ns i 0 ≤ first + total ns
  place_within = omega (arith, total_more ns i h, total-take ns (i + 1))

  count : 0 + length (take i ns) ≡ i
  count = omega (arith, length-take-le i ns (omega arith))

  pub lines_next : frame_lines 0 first (take (i + 1) ns) ≡ frame_lines 0 first (take i ns) ++ frame_line i (first + total (take i ns)) (get_or ns i 0)
  unfolding frame_lines
  lines_next = rw (take_next ns i h, lines_append 0 first (take i ns) (get_or ns i 0 ∷ []), count, append-nil)

  pub lines_within : length (frame_lines 0 first (take i ns)) + length (frame_line i (first + total (take i ns)) (get_or ns i 0))
      ≤ length (frame_lines 0 first ns)
  unfolding frame_lines
  lines_within =
      let n = get_or ns i 0 in
      let rest = drop (suc i) ns in
      let whole : frame_lines 0 first ns ≡ frame_lines 0 first (take i ns) ++ frame_lines (0 + length (take i ns)) (first + total (take i ns)) (n ∷ rest) =
      ap (frame_lines 0 first) (split_at ns i 0 h)
      ∙ lines_append 0 first (take i ns) (n ∷ rest) in
      omega (arith, simp length-append at (ap length (rw count at whole)))
