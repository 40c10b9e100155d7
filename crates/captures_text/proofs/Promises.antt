-- What the program promises: the parts that it writes, one behind another, are the whole text.
-- Assumes nothing.
use Prim.Native.Nat.{ℕ, zero, suc, ◌-◌, ◌≤◌, ◌<◌}
use native.Mathlib.Omega.{arith}
use mathlib.Core.Path.{◌≡◌, refl, sym, ◌∙◌}
use mathlib.Core.List.{List, [], ◌++◌, append-nil}
use lib.Dec.{leb, ltb}
use lib.IntN.{negsuc}
use lib.ListN.{length}
use borrow.Author.Tests.{ltb-true, ltb-false, lt-ltb, le-ltb, leb-true, leb-false, le-leb, lt-leb}
use Rattle.laws.proofs.Never.{by_test}
use Rattle.opus_defines.specs.Numbers.{refusal_number}
use Rattle.opus_defines.specs.declared.Refusal.TheVariants.{BadArg}
use Rattle.capture.specs.Reading.{readings}
use Rattle.show.specs.Text.{refusal}
use Rattle.captures_text.specs.Lines.{most_capture, line_most, record_lines, capture_text, part_from, printed}
use Rattle.captures_text.proofs.Parts.{part-read, part_refused, part_moves}
use Rattle.captures_text.proofs.Readings.{text_end, text_parts}

-- ---- the parts from a place on
printed_more : (most : ℕ) (s : List ℕ) (at room : ℕ) → at < length s
    → printed (suc most) s at room ≡ (part_from s at room).text ++ printed most s (part_from s at room).next room
unfolding printed
printed_more most s at room h = simp (lt-ltb at (length s) h)

printed_end : (most : ℕ) (s : List ℕ) (at room : ℕ) → length s ≤ at → printed most s at room ≡ []
unfolding printed
printed_end zero s at room h = refl
printed_end (suc most) s at room h = simp (le-ltb at (length s) h)

printed_lines : (most : ℕ) (s : List ℕ) (at room : ℕ) → line_most ≤ room → length s ≤ most_capture → at ≤ length s → length s - at ≤ most
    → printed most s at room ≡ record_lines (readings s at)
printed_lines zero s at room h short i k = printed_end zero s at room (omega arith) ∙ sym (text_end s at (omega arith))
printed_lines (suc most) s at room h short i k =
    by_test (ltb at (length s))
    (λ t.
    let inside = ltb-true at (length s) t in
    let w = part_moves s at room h inside in
    let others = printed_lines most s (part_from s at room).next room h short w.1 (omega (arith, w.0)) in
    printed_more most s at room inside ∙ rw (others, part-read s at room short) (sym (text_parts s at room i)))
    (λ t. let e = ltb-false at (length s) t in printed_end (suc most) s at room e ∙ sym (text_end s at e))

-- ---- the whole
-- a capture of at most 65,536 bytes is a line for each record that is read from its front,
pub text_read : (s : List ℕ) → length s ≤ 65536 → capture_text s ≡ record_lines (readings s 0)
unfolding capture_text
text_read s h = simp (le-leb (length s) most_capture h)

-- a longer one is `refused -1`
pub text_refused : (s : List ℕ) → 65536 < length s → capture_text s ≡ refusal (negsuc 0)
unfolding capture_text
text_refused s h = simp (lt-leb (length s) most_capture h)

printed_refused : (most : ℕ) (s : List ℕ) (room : ℕ) → line_most ≤ room → most_capture < length s → 0 < most
    → printed most s 0 room ≡ refusal (refusal_number BadArg)
printed_refused zero s room h long some = absurd (omega arith)
printed_refused (suc most) s room h long some =
    printed_more most s 0 room (omega arith) ∙ rw (part_refused s 0 room long h, printed_end most s (length s) room (omega arith), append-nil)

-- any buffer of 16 bytes or more will do
pub the_parts_are_the_text : (s : List ℕ) (room : ℕ) → 16 ≤ room → printed (length s) s 0 room ≡ capture_text s
the_parts_are_the_text s room h =
    by_test (leb (length s) most_capture)
    (λ t.
    let short = leb-true (length s) most_capture t in
    printed_lines (length s) s 0 room h short (omega arith) (omega arith) ∙ sym (text_read s short))
    (λ t.
    let long = leb-false (length s) most_capture t in
    printed_refused (length s) s room h long (omega arith) ∙ sym (text_refused s long))
