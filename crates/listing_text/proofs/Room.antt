-- How long the texts are: a number below 100,000 takes at most five bytes, so that a frame's line takes at most 34, a listing at most 2,048,
-- and the line of a refusal, whose number has one digit, at most 23.
-- Assumes nothing.
use Prim.Native.Nat.{ℕ, suc, ◌+◌, ◌*◌, ◌≤◌, ◌<◌}
use native.Mathlib.Omega.{arith}
use mathlib.Core.List.{List, [], ◌∷◌}
use lib.IntN.{negsuc}
use lib.ListN.{length, length-append}
use Rattle.opus_toc.specs.Toc.{time}
use Rattle.opus_format.specs.Frames.{total}
use Rattle.show.specs.Text.{decimal, integer, refused_label}
use Rattle.show.proofs.Digits.{decimal_most}
use Rattle.listing_text.specs.Listing.{frame_line, frame_lines, times, sizes, packet_text, report_line}

digits_most : (n : ℕ) → n < 100000 → length (decimal n) ≤ 5
digits_most n h = decimal_most n 4 h

frame_most : (i place n : ℕ) → i < 100000 → place < 100000 → n < 100000 → length (frame_line i place n) ≤ 34
unfolding frame_line
frame_most i place n h k m =
    simp length-append (omega (arith, digits_most i h, digits_most place k, digits_most n m))

lines_most : (i at : ℕ) (ns : List ℕ) → i + length ns ≤ 100000 → at + total ns < 100000 → length (frame_lines i at ns) ≤ 34 * length ns
unfolding frame_lines
lines_most i at [] h k = omega arith
lines_most i at (n ∷ ns) h k =
    omega (
      arith,
      length-append (frame_line i at n) (frame_lines (suc i) (at + n) ns),
      frame_most i at n (omega arith) (omega arith) (omega arith),
      lines_most (suc i) (at + n) ns (omega arith) (omega arith),
    )

times_most : (toc : ℕ) (ns : List ℕ) → toc < 100000 → length ns ≤ 48 → time toc (length ns) < 100000 → length (times toc ns) ≤ 33
unfolding times
times_most toc ns h k m =
    simp length-append (omega (arith, digits_most toc h, digits_most (length ns) (omega arith), digits_most (time toc (length ns)) m))

sizes_most : (first taken small : ℕ) → first < 100000 → taken < 100000 → small < 100000 → length (sizes first taken small) ≤ 41
unfolding sizes
sizes_most first taken small h k m =
    simp length-append (omega (arith, digits_most first h, digits_most taken k, digits_most small m))

pub packet_most : (toc : ℕ) (ns : List ℕ) (first taken small : ℕ) → toc < 100000 → length ns ≤ 48 → time toc (length ns) < 100000
    → first + total ns < 100000 → taken < 100000 → small < 100000 → length (packet_text toc ns first taken small) ≤ 2048
unfolding packet_text
packet_most toc ns first taken small h k m f t s =
    simp length-append (omega (arith, times_most toc ns h k m, sizes_most first taken small (omega arith) t s, lines_most 0 first ns (omega arith) f))

pub report_most : (n rule place : ℕ) → n < 99 → rule < 100000 → place < 100000 → length (report_line (negsuc n) rule place) ≤ 24
unfolding report_line refused_label integer
report_most n rule place h k m =
    simp length-append (omega (arith, decimal_most (suc n) 1 (omega arith), digits_most rule k, digits_most place m))
