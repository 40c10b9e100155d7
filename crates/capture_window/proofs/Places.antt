-- What stands at a place, by some of the bytes from there on.
--     stands_with_more      a record that is held whole stands, whatever follows
--     stands_when_whole     one of which all bytes are held stands in what is held
--     window_with_more      a window of bytes tells what stands, whatever follows
--     window_is_enough      the same of the front of a list
--     none_when_cut         a cut makes no record
--     no_less_is_enough     fewer bytes than a window do not tell
-- Assumes nothing.
use mathlib.Core.Path.{◌≡◌, sym, ap, ◌∙◌}
use mathlib.Core.List.{List, [], ◌++◌, append-nil}
use Prim.Native.Nat.{ℕ, ◌+◌, ◌-◌, ◌<◌, ◌≤◌}
use native.Mathlib.Omega.{arith}
use lib.ListN.{length, get_or, take, drop, length-append, length-take, take-append-drop, get_or-append}
use lib.Seq.{take_all, length-take-le}
use lib.Dec.{eqb, ltb}
use borrow.Author.Tests.{eqb-true, eqb-false, ltb-true, ltb-false}
use Rattle.laws.specs.Bytes.{Bytes}
use Rattle.laws.proofs.Never.{by_test}
use Rattle.laws.proofs.Bytes.{bytes_take}
use Rattle.capture.specs.Records.{Entry, written}
use Rattle.capture.specs.Finding.{length_in, packet_length}
use Rattle.capture.proofs.Laws.{length_whole, head_stands, length-fits}
use Rattle.capture.proofs.Written.{written_found}
use Rattle.capture_window.specs.Window.{window}

-- a fact from the fact where a is less than b and where it is not
pub by_order : {P : Type 0} (a b : ℕ) → (a < b → P) → (b ≤ a → P) → P
by_order a b f g = by_test (ltb a b) (λ t. f (ltb-true a b t)) (λ t. g (ltb-false a b t))

-- ---- a list of five bytes at least, and what follows
module _ (l rest : List ℕ) (five : 5 ≤ length l) where
  pub head_byte : (i : ℕ) → i < 5 → get_or (l ++ rest) i 0 ≡ get_or l i 0
  head_byte i h = get_or-append l rest 0 i (omega arith)

  same-length_in : length_in (l ++ rest) ≡ length_in l
  same-length_in = omega (arith, head_byte 3 (omega arith), head_byte 4 (omega arith))

-- ---- a record
pub stands_with_more : (l rest : List ℕ) → (packet_length l ≡ 0 → ⊥) → packet_length (l ++ rest) ≡ packet_length l
stands_with_more l rest f =
    let h = head_stands l f in
    let five : 5 ≤ length l = omega (arith, h.fits) in
    let same = same-length_in l rest five in
    let fits : 5 + length_in (l ++ rest) ≤ length (l ++ rest) - 0 = omega (arith, h.fits, length-append l rest) in
    length_whole (l ++ rest) 0 (head_byte l rest five 0 (omega arith) ∙ h.first) (head_byte l rest five 1 (omega arith) ∙ h.second) fits
    ∙ (same ∙ sym h.long)

pub stands_when_whole : (l rest : List ℕ) → (packet_length (l ++ rest) ≡ 0 → ⊥) → 5 + packet_length (l ++ rest) ≤ length l
    → packet_length l ≡ packet_length (l ++ rest)
stands_when_whole l rest f whole =
    let h = head_stands (l ++ rest) f in
    let five : 5 ≤ length l = omega arith in
    let same = same-length_in l rest five in
    let fits : 5 + length_in l ≤ length l - 0 = omega (arith, h.long) in
    length_whole l 0 (sym (head_byte l rest five 0 (omega arith)) ∙ h.first) (sym (head_byte l rest five 1 (omega arith)) ∙ h.second) fits
    ∙ (sym same ∙ sym h.long)

pub none_when_cut : (l rest : List ℕ) → packet_length (l ++ rest) ≡ 0 → packet_length l ≡ 0
none_when_cut l rest z =
    by_test (eqb (packet_length l) 0) (λ t. eqb-true (packet_length l) 0 t)
    (λ t. let f = eqb-false (packet_length l) 0 t in absurd (f (sym (stands_with_more l rest f) ∙ z)))

-- ---- a window
-- no length that is written needs more
in_window : (l : List ℕ) → Bytes l → 5 + length_in l ≤ window
in_window l h = omega (arith, h.byte 3, h.byte 4)

pub window_with_more : (l rest : List ℕ) → Bytes l → window ≤ length l → packet_length (l ++ rest) ≡ packet_length l
window_with_more l rest h w =
    let n = packet_length (l ++ rest) in
    by_test (eqb n 0) (λ t. let z = eqb-true n 0 t in z ∙ sym (none_when_cut l rest z))
    (λ t. let f = eqb-false n 0 t in
    let same = same-length_in l rest (omega arith) in
    sym (stands_when_whole l rest f (omega (arith, (head_stands (l ++ rest) f).long, in_window l h))))

pub window_is_enough : (W : ℕ) (l : List ℕ) → window ≤ W → Bytes l → packet_length (take W l) ≡ packet_length l
window_is_enough W l w h =
    by_order W (length l)
    (λ lt. let long : length (take W l) ≡ W = length-take-le W l (omega arith) in
    sym (window_with_more (take W l) (drop W l) (bytes_take W l h) (omega arith)) ∙ ap packet_length (take-append-drop W l))
    (λ le. ap packet_length (take_all W l le))

-- the longest record, cut anywhere, is not found
pub no_less_is_enough : (W : ℕ) (e : Entry) → length e.packet ≡ 65535 → W < window
    → (packet_length (written e) ≡ 65535) × (packet_length (take W (written e)) ≡ 0)
no_less_is_enough W e long w =
    let l = written e in
    let whole : packet_length l ≡ 65535 = ap packet_length (sym (append-nil l)) ∙ (written_found e [] ∙ long) in (
      whole,
      by_test (eqb (packet_length (take W l)) 0) (λ t. eqb-true (packet_length (take W l)) 0 t)
          (λ t.
          let f = eqb-false (packet_length (take W l)) 0 t in
          let same = sym (stands_with_more (take W l) (drop W l) f) ∙ (ap packet_length (take-append-drop W l) ∙ whole) in
          absurd (omega (arith, length-fits (take W l) f, length-take W l))),
    )
