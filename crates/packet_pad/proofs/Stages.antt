-- Padding by stages and unpadding again, for a packet that RFC 6716 spells in the first bytes of a buffer (document 02, M-112).
--     pad_stages      pad to n and then to m leaves what pad to m leaves
--     pad_front       what pad puts in front depends on the frames and the upper six TOC bits alone
--     unpad_again     unpad of what unpad left changes nothing
-- Assumes nothing.
use Prim.Native.Nat.{ℕ, ◌≤◌, ◌<◌}
use native.Mathlib.Omega.{arith}
use mathlib.Core.Path.{◌≡◌, refl, sym, ap, ◌∙◌}
use mathlib.Core.List.{List}
use mathlib.Core.Bool.{false}
use lib.Dec.{eqb}
use lib.IntN.{pos}
use lib.ListN.{length, take}
use lib.Seq.{sets, length-take-le, length-sets}
use borrow.Author.Tests.{eqb-true, eqb-false}
use Rattle.laws.proofs.Never.{by_test}
use Rattle.blocks.proofs.Sets.{sets_over, take-sets}
use Rattle.opus_defines.specs.Numbers.{plain}
use Rattle.opus_defines.specs.Outcome.{Outcome}
use Rattle.opus_format.specs.Format.{Spells}
use Rattle.opus_header.specs.Compact.{compact, filling}
use Rattle.opus_header.proofs.Rebuilt.{compact_of_lem, never_longer}
use Rattle.opus_header.proofs.Filling.{filling-length}
use Rattle.packet_pad.specs.Pad.{pads_to, padded}
use Rattle.packet_pad.specs.Unpad.{unpadded}
use Rattle.packet_pad.proofs.Given.{lengths-equal}
use Rattle.packet_pad.proofs.Calls.{pad_same}
use Rattle.packet_pad.proofs.Spelled.{filling_of, pad_spelled, pad_equal, unpad_spelled, unpad_written}

-- ---- a number, and bytes at the front of a buffer
abbrev pub at_front : ℕ → List ℕ → Outcome
at_front n s = record { report = plain (pos n); bytes = s }

-- bytes over no more bytes: what was there before does not tell
pub laid_over : (n : ℕ) (s us vs : List ℕ) → length us ≤ length vs → at_front n (sets (sets s 0 us) 0 vs) ≡ at_front n (sets s 0 vs)
laid_over n s us vs h = ap (at_front n) (sets_over s 0 us vs h)

module _ {six : ℕ} {frames : List (List ℕ)} (s : List ℕ) (len : ℕ) (fits : len ≤ length s) (most : len ≤ 65535)
    (w : Spells false six (take len s) frames) where
  least : length (compact false six frames) ≤ len
  least = omega (arith, never_longer w, length-take-le len s fits)

  -- ---- pad
  abbrev filled : ℕ → List ℕ
  filled n = filling false six frames n

  filled-size : (n : ℕ) → len ≤ n → length (filled n) ≡ n
  filled-size n more = filling-length false six frames n (omega (arith, least))

  module _ (n : ℕ) (more : len < n) where
    pub pad_front : n ≤ length s → n ≤ 65535 → take n (padded s (pos len) (pos n)).bytes ≡ filled n
    pad_front room short =
        let size = filled-size n (omega arith) in
        rw (pad_spelled s len fits most w n more room short) (rw size at (take-sets s (filled n) (omega (arith, size))))

    module _ (m : ℕ) (room : m ≤ length s) (short : m ≤ 65535) where
      pad_further : n < m → padded (sets s 0 (filled n)) (pos n) (pos m) ≡ pads_to (filled m) s
      pad_further on =
          let size = filled-size n (omega arith) in
          let back : take n (sets s 0 (filled n)) ≡ filled n = rw size at (take-sets s (filled n) (omega (arith, size))) in
          let same = length-sets s 0 (filled n) in
          pad_spelled (sets s 0 (filled n)) n (omega (arith, same)) (omega arith) (rw back (filling_of w n)) m on (omega (arith, same)) short
          ∙ laid_over 0 s (filled n) (filled m) (omega (arith, size, filled-size m (omega arith)))

      pad_no_further : n ≡ m → padded (sets s 0 (filled n)) (pos n) (pos m) ≡ pads_to (filled m) s
      pad_no_further e =
          let same = length-sets s 0 (filled n) in
          let given = lengths-equal (sets s 0 (filled n)) n (omega arith) (omega (arith, same)) (omega arith) in
          rw (← e) (pad_same (sets s 0 (filled n)) (pos n) (pos n) given)

      pad_on : n ≤ m → padded (sets s 0 (filled n)) (pos n) (pos m) ≡ pads_to (filled m) s
      pad_on on = by_test (eqb n m) (λ e. pad_no_further (eqb-true n m e)) (λ e. pad_further (omega (arith, eqb-false n m e)))

  pub pad_stages : (n m : ℕ) → len ≤ n → n ≤ m → m ≤ length s → m ≤ 65535
      → padded (padded s (pos len) (pos n)).bytes (pos n) (pos m) ≡ padded s (pos len) (pos m)
  pad_stages n m more on room short =
      by_test (eqb len n)
      (λ e. rw (← eqb-true len n e, pad_equal s len fits most w))
      (λ e.
      let less : len < n = omega (arith, eqb-false len n e) in
      rw (pad_spelled s len fits most w n less (omega arith) (omega arith))
      (pad_on n less m room short on ∙ sym (pad_spelled s len fits most w m (omega arith) room short)))

  -- ---- unpad
  pub unpad_again : let once = unpadded s (pos len) in unpadded once.bytes once.report.number ≡ once
  unpad_again =
      let c = compact false six frames in
      rw (unpad_spelled s len fits most w)
      (unpad_written s (length c) refl (omega (arith, least)) (omega (arith, least)) (compact_of_lem w) ∙ laid_over (length c) s c c (omega arith))
